use Rattle.std.proofs.Common.{length, ◌+◌, ◌*◌}
use Rattle.script_grammar.proofs.BlockSteps.{RowRead}
use Rattle.script_grammar.proofs.parser.blocks.+blocks.Given as goal

abbrev pub decreases-block_at : goal.decreases-block_at
decreases-block_at l = 2 * length l.tokens.now

abbrev pub decreases-else_at : goal.decreases-else_at
decreases-else_at l = 2 * length l.tokens.now + 1

abbrev pub decreases-if_at : goal.decreases-if_at
decreases-if_at l = 2 * length l.tokens.now + 1

abbrev pub decreases-stmt_at : goal.decreases-stmt_at
decreases-stmt_at l = 2 * length l.tokens.now

abbrev pub decreases-stmts_at : goal.decreases-stmts_at
decreases-stmts_at l = 2 * length l.tokens.now + 1

abbrev pub decreases-try_at : goal.decreases-try_at
decreases-try_at l = 2 * length l.tokens.now + 1

abbrev pub decreases-while_at : goal.decreases-while_at
decreases-while_at l = 2 * length l.tokens.now + 1

abbrev pub invariant-stmts_at-row : goal.invariant-stmts_at-row
invariant-stmts_at-row l = RowRead l.fn.tokens l.stmts l.rest

abbrev pub decreases-stmts_at-row : goal.decreases-stmts_at-row
decreases-stmts_at-row l = length l.rest
