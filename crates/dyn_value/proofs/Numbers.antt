-- The number that a plain text names.
use Rattle.std.proofs.Common.{to_z, of_z, ◌≡◌, ◌≢◌, ℕ, ◌==◌, suc, Bool, true, false, ◌&&◌, ℤ, pos, negsuc, FitsSigned, List, [], ◌∷◌, refl, sym, ap, ◌∙◌, subst, arith, string_bytes}
use Rattle.std.specs.Prelude.{String, nat_abs, Option, Some, None, Result, Ok, neg_ℤ, encode_utf8_all, if◌then◌else◌}
use Rattle.std.specs.Fmt.{decimal, signed_decimal}
use Rattle.std.specs.Int.{w64, FitsUnsignedBits}
use Rattle.std.specs.Str.{bytes_eq, chars}
use Rattle.std.specs.Str.Parse.{IsNumeral, digits_value, signed_digits_value, ParsesSigned}
use Rattle.std.specs.Cmp.Lexicographic.{bytes_decides}
use Rattle.std.proofs.lemmas.Bool.{and_parts}
use Rattle.std.proofs.lemmas.Bool.Decides.{nat_tests}
use Rattle.std.proofs.lemmas.Int.{to_z-of_z}
use Rattle.std.proofs.lemmas.Fmt.{decimal_is_IsNumeral, parse-signed_decimal}
use Rattle.std.proofs.lemmas.Str.Parse.{digit_from_value}
use Rattle.std.proofs.lemmas.Str.{encodes-IsAscii, encodes_same, IsUtf8-string_bytes}
use Rattle.dyn_value.specs.Operations.{fits}
use Rattle.dyn_value.specs.Conversions.{number_of}
use Rattle.dyn_value.proofs.Encoding.{ascii_signed, bytes_of_view}
use Rattle.dyn_value.proofs.ProperAnswers.{fits_signed, signed_fits}

-- digits name no sign
digits_alone : (ds : List ℕ) → IsNumeral 10 ds → signed_digits_value 10 ds ≡ pos (digits_value 10 ds)
digits_alone [] h = absurd (omega (arith, h.0))
digits_alone (c ∷ ds) h =
    let digit = digit_from_value c h.1.0 in
    let minus : (c == 45) ≡ false = grind (arith, nat_tests) in
    let plus : (c == 43) ≡ false = grind (arith, nat_tests) in
    rw (minus, plus)

-- the digits of a plain text write its number
plain_is_written : (n : ℤ) → FitsSigned w64 n → signed_digits_value 10 (signed_decimal n) ≡ n
plain_is_written (pos n) small =
    let k = decimal_is_IsNumeral n (omega (arith, small.sfits)) in
    digits_alone (decimal n) k.0 ∙ ap pos k.1
plain_is_written (negsuc n) small =
    let k = decimal_is_IsNumeral (suc n) (omega (arith, small.sfits)) in
    ap (λ m. neg_ℤ (pos m)) k.1

-- a plain text of 64 bits has its number
pub number_of_plain : (n : ℤ) → FitsSigned w64 n → number_of (signed_decimal n) ≡ Some n
unfolding number_of
number_of_plain n small =
    let text = signed_decimal n in
    rw (plain_is_written n small, signed_fits n small, (bytes_decides text text).1 refl)

-- a text's number has that text as its plain one
pub plain_of_number : (cs : List ℕ) (n : ℤ) → number_of cs ≡ Some n → FitsSigned w64 n × (signed_decimal n ≡ cs)
unfolding number_of
plain_of_number cs n e = by_test (fits written && bytes_eq (signed_decimal written) cs) refl e
  where
    written : ℤ
    written = signed_digits_value 10 cs

    by_test : (b : Bool) → (fits written && bytes_eq (signed_decimal written) cs) ≡ b → (if b then Some written else None) ≡ Some n → FitsSigned w64 n × (signed_decimal n ≡ cs)
    by_test true test e =
        let parts = and_parts (fits written) (bytes_eq (signed_decimal written) cs) test in
        let same : written ≡ n = cc in
        let P : ℤ → Type 0 = λ z. FitsSigned w64 z × (signed_decimal z ≡ cs) in
        subst P same (fits_signed written parts.0, (bytes_decides (signed_decimal written) cs).0 parts.1)
    by_test false test e = cc

-- a text of which `parse` made an error, or another text's number, has no number
pub unread : {E : Type 0} (r : Result ℤ E) (bs cs : List ℕ) → bs ≡ encode_utf8_all cs → ParsesSigned w64 10 bs r → ((m : ℤ) → r ≡ Ok m → signed_decimal m ≢ bs) → number_of cs ≡ None
unread r bs cs spelt parses other = by_number (number_of cs) refl
  where
    by_number : (o : Option ℤ) → number_of cs ≡ o → o ≡ None
    by_number None e = refl
    by_number (Some n) e =
        let plain = plain_of_number cs n e in
        let bytes : bs ≡ signed_decimal n = spelt ∙ ap encode_utf8_all (sym plain.1) ∙ encodes-IsAscii (signed_decimal n) (ascii_signed n plain.0) in
        absurd (other n (parse-signed_decimal w64 n bs r plain.0 plain.0.sfits bytes parses) (sym bytes))

-- a text that is a number's plain text has that number
pub read : (m : ℤ) (bs cs : List ℕ) → bs ≡ encode_utf8_all cs → FitsSigned w64 m → signed_decimal m ≡ bs → number_of cs ≡ Some m
read m bs cs spelt small plain =
    let ascii = encodes-IsAscii (signed_decimal m) (ascii_signed m small) in
    let same : signed_decimal m ≡ cs = encodes_same (signed_decimal m) cs (ascii ∙ plain ∙ spelt) in
    ap number_of (sym same) ∙ number_of_plain m small

-- a string that is seen as a number's plain text has its bytes
pub plain_bytes : {Z : Type 0} (m : ℤ) (s : String Z) → FitsSigned w64 m → chars (string_bytes s) ≡ signed_decimal m → string_bytes s ≡ signed_decimal m
plain_bytes m s small view = sym (bytes_of_view (string_bytes s) (signed_decimal m) (IsUtf8-string_bytes s) view) ∙ encodes-IsAscii (signed_decimal m) (ascii_signed m small)

-- a number that was read as a place
place_is : (z : ℤ) (place : ℕ) → FitsUnsignedBits 64 z × (place ≡ nat_abs z) → z ≡ pos place
place_is (pos n) place e = ap pos (sym e.1)
place_is (negsuc n) place e = absurd e.0

pub index_is : (z : ℤ) (place : ℕ) → FitsSigned w64 z → FitsUnsignedBits 64 (to_z w64 (of_z w64 z)) × (place ≡ nat_abs (to_z w64 (of_z w64 z))) → z ≡ pos place
index_is z place small e =
    let P : ℤ → Type 0 = λ y. FitsUnsignedBits 64 y × (place ≡ nat_abs y) in
    place_is z place (subst P (to_z-of_z w64 z small) e)
