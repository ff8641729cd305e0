-- What an end of lexing without tokens says.
use Rattle.std.specs.Prelude.{ℕ, List}
use Rattle.script_tokens.specs.declared.lexer.characters.Unlexed.{Unlexed}
use Rattle.script_tokens.specs.declared.lexer.characters.Unlexed.TheVariants as unlexed
use Rattle.script_tokens.specs.Refusals.{IsBadAt}

-- what stands at the place is no token
abbrev pub Unlexes : List ℕ → Unlexed → Type 0
Unlexes cs (unlexed.Bad place) = IsBadAt cs place
Unlexes cs unlexed.Memory = Unit {0}
