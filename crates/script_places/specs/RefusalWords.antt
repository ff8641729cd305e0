-- The words of refusals, as the refusal line has them.
use Rattle.std.specs.Prelude.{ℕ, List, [], ◌∷◌, codes}
use Rattle.std.specs.Fmt.{decimal}
use Rattle.script_places.specs.declared.refusal.Refusal.{Refusal}
use Rattle.script_places.specs.declared.refusal.Refusal.TheVariants.{NotText, BadToken, TooDeep, Syntax, BadName}

abbrev pub cause_text : Refusal → List ℕ
cause_text (NotText number) = codes "NotText"
cause_text (BadToken number) = codes "BadToken"
cause_text (TooDeep number) = codes "TooDeep"
cause_text (Syntax number) = codes "Syntax"
cause_text (BadName number) = codes "BadName"

-- the byte or the token that it names
abbrev pub number_of : Refusal → ℕ
number_of (NotText number) = number
number_of (BadToken number) = number
number_of (TooDeep number) = number
number_of (Syntax number) = number
number_of (BadName number) = number

-- the cause, and the number in decimal
abbrev pub words_of : Refusal → List (List ℕ)
words_of refusal = cause_text refusal ∷ decimal (number_of refusal) ∷ []
