use Rattle.std.proofs.Common.{length, ◌+◌, ◌*◌}
use Rattle.script_grammar.proofs.RowSteps.{SuffixesRead, ArgsRead}
use Rattle.script_grammar.proofs.parser.expressions.+expressions.Given as goal

abbrev pub decreases-expr_at : goal.decreases-expr_at
decreases-expr_at l = 8 * length l.tokens.now + 1

abbrev pub decreases-closed_at : goal.decreases-closed_at
decreases-closed_at l = 8 * length l.tokens.now + 2

abbrev pub decreases-head_at : goal.decreases-head_at
decreases-head_at l = 8 * length l.tokens.now

abbrev pub decreases-operation_at : goal.decreases-operation_at
decreases-operation_at l = 8 * length l.tokens.now + 2

abbrev pub decreases-convert_at : goal.decreases-convert_at
decreases-convert_at l = 8 * length l.tokens.now

abbrev pub decreases-new_at : goal.decreases-new_at
decreases-new_at l = 8 * length l.tokens.now

abbrev pub decreases-suffixes_at : goal.decreases-suffixes_at
decreases-suffixes_at l = 8 * length l.tokens.now

abbrev pub decreases-suffix_at : goal.decreases-suffix_at
decreases-suffix_at l = 8 * length l.tokens.now + 5

abbrev pub decreases-member_at : goal.decreases-member_at
decreases-member_at l = 8 * length l.tokens.now

abbrev pub decreases-args_at : goal.decreases-args_at
decreases-args_at l = 8 * length l.tokens.now + 4

abbrev pub decreases-more_args_at : goal.decreases-more_args_at
decreases-more_args_at l = 8 * length l.tokens.now

abbrev pub decreases-some_args_at : goal.decreases-some_args_at
decreases-some_args_at l = 8 * length l.tokens.now + 3

abbrev pub decreases-arg_at : goal.decreases-arg_at
decreases-arg_at l = 8 * length l.tokens.now + 2

abbrev pub decreases-named_arg_at : goal.decreases-named_arg_at
decreases-named_arg_at l = 8 * length l.tokens.now

abbrev pub invariant-suffixes_at-row : goal.invariant-suffixes_at-row
invariant-suffixes_at-row l = SuffixesRead l.fn.tokens l.suffixes l.rest

abbrev pub decreases-suffixes_at-row : goal.decreases-suffixes_at-row
decreases-suffixes_at-row l = length l.rest

abbrev pub invariant-some_args_at-row : goal.invariant-some_args_at-row
invariant-some_args_at-row l = ArgsRead l.fn.tokens l.args l.named l.rest

abbrev pub decreases-some_args_at-row : goal.decreases-some_args_at-row
decreases-some_args_at-row l = length l.rest
