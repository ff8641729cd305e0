-- Numbers in decimal.
use Rattle.std.proofs.Common.{◌≡◌, ℕ, ◌^◌, ◌<◌, ◌≤◌, true, false, List, length, get_or, sym, ◌∙◌, ap, rules, arith, ⊎_elim}
use Rattle.std.specs.Prelude.{Result, Ok, Err, MatchOption}
use Rattle.std.specs.Result.{result_ok}
use Rattle.std.specs.List.{list_all}
use Rattle.std.specs.Char.{is_ascii_digit}
use Rattle.std.specs.Fmt.{decimal}
use Rattle.std.specs.Str.Parse.{digits_value, ParsesUnsigned}
use Rattle.std.proofs.lemmas.Bool.{cases_lt}
use Rattle.std.proofs.lemmas.Str.Parse.{IsNumeralModel, numerals_by_value, parse_digits}
use Rattle.std.proofs.lemmas.Fmt.{decimal_digit, decimal-digits_value, digits_decimal, first_decimal, parse-decimal}

own : IsNumeralModel (λ ds. list_all is_ascii_digit ds ≡ true) (digits_value 10)
own = numerals_by_value _ (search rules)

-- a text that is not all digits
pub no_digits : (bs : List ℕ) (n : ℕ) → list_all is_ascii_digit bs ≡ false → n < 2 ^ 32 → bs ≡ decimal n → ⊥
no_digits bs n other small is =
    let digits : list_all is_ascii_digit (decimal n) ≡ true = digits_decimal own n (omega arith) in
    let same : list_all is_ascii_digit bs ≡ list_all is_ascii_digit (decimal n) = ap (list_all is_ascii_digit) is in
    cc

-- a zero before other digits
pub leading_zero : (bs : List ℕ) (n : ℕ) → 1 < length bs → get_or bs 0 0 ≡ 48 → n < 2 ^ 32 → bs ≡ decimal n → ⊥
leading_zero bs n long zero small is =
    ⊎_elim
    (λ more. let first : 48 < get_or (decimal n) 0 0 = first_decimal n more (omega arith) in
    omega (arith, zero, ap (λ ds. get_or ds 0 0) is))
    (λ none. omega (arith, ap length (decimal_digit n (omega arith)), ap length is))
    (cases_lt 0 n)

-- what is read of other digits
pub read_digits : {E : Type 0} (bs : List ℕ) (r : Result ℕ E) → ParsesUnsigned 32 10 bs r →
    list_all is_ascii_digit bs ≡ true → (1 < length bs → get_or bs 0 0 ≡ 48 → ⊥) →
    MatchOption (result_ok r) ((n : ℕ) → n < 2 ^ 32 → bs ≡ decimal n → ⊥) (λ n. bs ≡ decimal n)
read_digits {E} bs (Ok n) parses digits plain =
    let read = parse_digits own {E = E} 32 bs (Ok n) parses digits in
    let some : 0 < length bs = read.0.0 in
    let small : digits_value 10 bs < 2 ^ 32 = read.0.1 in
    let one : get_or bs 0 0 ≡ 48 → length bs ≡ 1 = λ zero. ⊎_elim (λ long. absurd (plain long zero)) (λ short. omega arith) (cases_lt 1 (length bs)) in
    sym (decimal-digits_value own bs digits some one (omega arith)) ∙ ap decimal (sym read.1)
read_digits {E} bs (Err e) parses digits plain = λ n small is. let read = parse-decimal 32 n bs (Err e) small (omega arith) is parses in cc
