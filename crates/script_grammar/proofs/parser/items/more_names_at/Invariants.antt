use Rattle.std.proofs.Common.{length}
use Rattle.script_grammar.proofs.ItemRules.{NamesRead}
use Rattle.script_grammar.proofs.parser.items.more_names_at.Given as goal

abbrev pub invariant-row : goal.invariant-row
invariant-row l = NamesRead l.fn.tokens l.fn.first l.names l.rest

abbrev pub decreases-row : goal.decreases-row
decreases-row l = length l.rest
