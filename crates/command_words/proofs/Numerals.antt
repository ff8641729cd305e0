-- Numbers of at most ten digits.
use Rattle.std.proofs.Common.{rules, ◌≡◌, ℕ, ◌<◌, true, refl, List, length, Some, Result, Ok, arith, lt-ltb}
use Rattle.std.specs.Char.{is_ascii_digit}
use Rattle.std.specs.List.{list_all}
use Rattle.std.specs.Str.Parse.{digits_value, ParsesUnsigned}
use Rattle.std.proofs.lemmas.Str.Parse.{IsNumeralModel, numerals_by_value, digits_value_short, parse_gives}
use Rattle.command_words.specs.Commands.{number_of}

own : IsNumeralModel (λ ds. list_all is_ascii_digit ds ≡ true) (digits_value 10)
own = numerals_by_value _ (search rules)

-- one to ten digits are read as their number
pub number_read : {E : Type 0} (text : List ℕ) (r : Result ℕ E) → ParsesUnsigned 64 10 text r → 0 < length text → length text < 11 → list_all is_ascii_digit text ≡ true → r ≡ Ok (digits_value 10 text)
number_read text r h some few digits = parse_gives own 64 text r h digits some (omega (arith, digits_value_short own text 10 digits (omega arith)))

pub number_is : (text : List ℕ) → 0 < length text → length text < 11 → list_all is_ascii_digit text ≡ true → number_of text ≡ Some (digits_value 10 text)
number_is text some few digits = rw (lt-ltb 0 (length text) some, lt-ltb (length text) 11 few, digits) refl
