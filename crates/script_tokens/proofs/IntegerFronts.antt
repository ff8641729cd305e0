-- What a run of digits means.
use Rattle.std.proofs.Common.{◌≡◌, ℕ, zero, suc, ◌+◌, ◌-◌, ◌*◌, ◌^◌, ◌<◌, ◌≤◌, true, List, [], ◌∷◌, length, get_or, take, refl, sym, ◌∙◌, ap, subst, ⊎_elim, arith}
use Rattle.std.specs.Prelude.{ℤ, pos, FitsSigned, Result, Ok, Err, MatchOption, ◌≢◌}
use Rattle.std.specs.Int.{w64}
use Rattle.std.specs.Result.{OkIff, result_ok}
use Rattle.std.proofs.lemmas.Int.{ints, to_z-of_z}
use mir.Val.{to_z, of_z}
use Rattle.std.specs.List.{list_all}
use Rattle.std.specs.Char.{is_ascii_digit, digit_value}
use Rattle.std.specs.Fmt.{decimal}
use Rattle.std.specs.Str.Parse.{AllDigits, digits_value}
use Rattle.std.proofs.lemmas.Str.{digit_value_digit}
use Rattle.std.proofs.lemmas.Str.Parse.{numerals_by_value, tells_digits, digits_value-take-le}
use Rattle.std.proofs.lemmas.Fmt.{decimal_is_IsNumeral, decimal-digits_value, first_decimal, decimal_digit}
use Rattle.std.proofs.lemmas.List.{get_or_read}
use Rattle.std.proofs.lemmas.Int.Digits.{digits_value_more}
use Rattle.std.proofs.lemmas.Bool.{and_parts, cases_lt}
use Rattle.std.proofs.lemmas.Bool.Decides.{nat_tests}
use Rattle.script_tokens.specs.declared.token.Token.TheVariants.{Name, Int, Text, Word, Mark}
use Rattle.script_tokens.specs.Lexemes.{IsDigits, Means}
use Rattle.script_tokens.specs.TextFronts.{MeansNothing}
use Rattle.script_tokens.proofs.FirstCharacters.{digits_kind}
use Rattle.script_tokens.proofs.TokenMeanings.{means_kind}

digit_range : (c : ℕ) → is_ascii_digit c ≡ true → (48 ≤ c) × (c ≤ 57)
digit_range c digit = grind (arith, nat_tests)

pub value_of_digit : (c : ℕ) → is_ascii_digit c ≡ true → (48 ≤ c) × (digit_value c + 48 ≡ c) × (digit_value c < 10)
value_of_digit c digit =
    let range = digit_range c digit in
    let value = digit_value_digit c range in
    (range.0, value, omega arith)

all_digits : (ds : List ℕ) → list_all is_ascii_digit ds ≡ true → AllDigits 10 ds
all_digits [] pass = tt
all_digits (c ∷ cs) pass =
    ((value_of_digit c ((and_parts (is_ascii_digit c) (list_all is_ascii_digit cs) pass).0)).2, all_digits cs ((and_parts (is_ascii_digit c) (list_all is_ascii_digit cs) pass).1))

pub digits_all : (ds : List ℕ) → IsDigits ds → list_all is_ascii_digit ds ≡ true
digits_all [] digits = absurd digits
digits_all (c ∷ cs) digits = rw digits.0 digits.1

digit_in : (ds : List ℕ) (i : ℕ) → list_all is_ascii_digit ds ≡ true → i < length ds → is_ascii_digit (get_or ds i 0) ≡ true
digit_in [] i pass within = absurd (omega arith)
digit_in (c ∷ cs) zero pass within = (and_parts (is_ascii_digit c) (list_all is_ascii_digit cs) pass).0
digit_in (c ∷ cs) (suc i) pass within = digit_in cs i ((and_parts (is_ascii_digit c) (list_all is_ascii_digit cs) pass).1) (omega arith)

-- each is a digit
pub digit_at : (ds : List ℕ) (i : ℕ) → IsDigits ds → i < length ds → is_ascii_digit (get_or ds i 0) ≡ true
digit_at ds i digits within = digit_in ds i (digits_all ds digits) within

nothing_else : (ds : List ℕ) → IsDigits ds → ((n : ℕ) → ds ≡ decimal n → n < 2 ^ 63 → ⊥) → MeansNothing ds
nothing_else ds digits none (Int z) m = none m.0 m.1.0 m.1.1
nothing_else ds digits none (Name n) m = let k = digits_kind ds digits in let l = means_kind ds (Name n) m in cc
nothing_else ds digits none (Word w) m = let k = digits_kind ds digits in let l = means_kind ds (Word w) m in cc
nothing_else ds digits none (Text t) m = let k = digits_kind ds digits in let l = means_kind ds (Text t) m in cc
nothing_else ds digits none (Mark s) m = let k = digits_kind ds digits in let l = means_kind ds (Mark s) m in cc

-- a number that is too great is no token
pub great_means_nothing : (ds : List ℕ) → IsDigits ds → 2 ^ 63 ≤ digits_value 10 ds → MeansNothing ds
great_means_nothing ds digits great = nothing_else ds digits (λ n is small.
    let value : digits_value 10 ds ≡ n = ap (digits_value 10) is ∙ (decimal_is_IsNumeral n (omega arith)).1 in
    omega arith)

-- digits with a leading zero are no token
pub zero_means_nothing : (ds : List ℕ) (x : ℕ) → IsDigits ds → 1 < length ds → x ≡ get_or ds 0 x → x ≡ 48 → MeansNothing ds
zero_means_nothing ds x digits long first zero_is =
    let leads : get_or ds 0 0 ≡ 48 = sym (get_or_read ds 0 x (omega arith) first 0) ∙ zero_is in
    nothing_else ds digits (λ n is small. ⊎_elim
    (λ some. omega (arith, ap (λ x. get_or x 0 0) is, first_decimal n some (omega arith)))
    (λ none. let zero_is : n ≡ 0 = omega arith in omega (arith, ap length (is ∙ ap decimal zero_is ∙ decimal_digit 0 (omega arith))))
    (cases_lt 0 n))

some_digits : (ds : List ℕ) → IsDigits ds → 0 < length ds
some_digits [] digits = absurd digits
some_digits (c ∷ cs) digits = omega arith

-- other digits mean the number that they write
digits_mean : (ds : List ℕ) (n : ℕ) → IsDigits ds → (get_or ds 0 0 ≡ 48 → length ds ≤ 1) → n ≡ digits_value 10 ds → n < 2 ^ 63 → Means ds (Int (pos n))
digits_mean ds n digits lead value small =
    let some = some_digits ds digits in
    let written : decimal (digits_value 10 ds) ≡ ds
    = decimal-digits_value (numerals_by_value _ tells_digits) ds (all_digits ds (digits_all ds digits)) some (λ e. omega (arith, lead e)) (omega arith) in
    (n, (sym written ∙ ap decimal (sym value), small, refl))

-- what digits with no leading zero mean, by whether their number fits 64 bits with a sign
pub integer_means : {E : Type 0} (ds : List ℕ) (n : ℕ) (r : Result ℤ E) → IsDigits ds → (get_or ds 0 0 ≡ 48 → length ds ≤ 1) → n ≡ digits_value 10 ds
    → OkIff r (FitsSigned w64 (pos n)) (pos n) → MatchOption (result_ok r) (MeansNothing ds) (λ z. Means ds (Int z))
integer_means ds n (Ok z) digits lead value fits =
    subst (λ y. Means ds (Int y)) (sym fits.1) (digits_mean ds n digits lead value (omega (arith, ints, fits.0)))
integer_means ds n (Err e) digits lead value fits = great_means_nothing ds digits (⊎_elim
    (λ small. absurd (fits (record { sfits = small })))
    (λ great. omega (arith, great))
    (cases_lt n (2 ^ 63)))

-- a first digit that is no zero leads with none
pub other_leads : (ds : List ℕ) (x : ℕ) → IsDigits ds → x ≡ get_or ds 0 x → x ≢ 48 → get_or ds 0 0 ≡ 48 → length ds ≤ 1
other_leads ds x digits first other zero_is = absurd (other (get_or_read ds 0 x (some_digits ds digits) first 0 ∙ zero_is))

-- a digit more: what the number is then, which is within the whole
pub one_digit_more : (ds : List ℕ) (i v x : ℕ) → IsDigits ds → i < length ds → x ≡ get_or ds i x → v ≡ digits_value 10 (take i ds)
    → (48 ≤ x) × (digits_value 10 (take (i + 1) ds) ≡ v * 10 + (x - 48)) × (v * 10 + (x - 48) ≤ digits_value 10 ds)
one_digit_more ds i v x digits within read value =
    let x_is : x ≡ get_or ds i 0 = get_or_read ds i x within read 0 in
    let digit = value_of_digit (get_or ds i 0) (digit_at ds i digits within) in
    let more = digits_value_more 10 ds i within in
    (omega arith, omega arith, omega (arith, digits_value-take-le 10 ds (i + 1) (omega arith)))

-- the integer that digits mean is read back as it was
pub integer_reads : (ds : List ℕ) (z : ℤ) → Means ds (Int z) → Means ds (Int (to_z w64 (of_z w64 z)))
integer_reads ds z m =
    let fits : FitsSigned w64 z = subst (FitsSigned w64) (sym m.1.2) (record { sfits = m.1.1 }) in
    subst (λ y. Means ds (Int y)) (sym (to_z-of_z w64 z fits)) m
