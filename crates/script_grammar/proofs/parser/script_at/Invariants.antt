use Rattle.std.proofs.Common.{length}
use Rattle.script_grammar.proofs.ScriptSteps.{ScriptRead}
use Rattle.script_grammar.proofs.parser.script_at.Given as goal

abbrev pub invariant-row : goal.invariant-row
invariant-row l = ScriptRead l.fn.tokens l.script l.rest

abbrev pub decreases-row : goal.decreases-row
decreases-row l = length l.rest
