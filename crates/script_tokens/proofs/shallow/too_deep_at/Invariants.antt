use Rattle.script_tokens.proofs.Depths.{HasOpen}
use Rattle.script_tokens.proofs.shallow.too_deep_at.Given as goal

abbrev pub invariant-loop-number : goal.invariant-loop-number
invariant-loop-number l = HasOpen l.tokens l.number l.open_brackets
