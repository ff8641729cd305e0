-- Characters, and the bytes that spell them.
use Rattle.std.proofs.Common.{◌≡◌, true, ℕ, ◌+◌, ◌^◌, ◌<◌, ◌≤◌, ℤ, FitsSigned, List, [], ◌∷◌, ◌++◌, length, sym, ap, subst, ◌∙◌, length-append, arith, string_bytes, string_len}
use Rattle.std.specs.Prelude.{String, encode_utf8, encode_utf8_all, Result, Ok, Err, IfOk, OnOk, is_ok, if◌then◌else◌, pos, Option, slice_get}
use Rattle.std.specs.Option.{option_map}
use Rattle.std.specs.Char.{IsScalar, is_ascii}
use Rattle.std.specs.List.{list_all}
use Rattle.std.proofs.lemmas.Bool.Decides.{nat_tests}
use Rattle.std.proofs.lemmas.Str.Ascii.{IsAscii-nil, IsAscii-cons}
use Rattle.std.proofs.lemmas.List.{append-nil}
use Rattle.std.specs.Str.{chars, IsUtf8, IsAscii}
use Rattle.std.proofs.lemmas.Str.{encodes-chars, encodes-append, chars-append, chars-nil, chars-IsAscii, IsAscii-append, chars_past_char, IsUtf8-encode, IsUtf8-nil, IsUtf8-string_bytes, scalars-chars, length-le-encodes}
use Rattle.std.specs.Fmt.{decimal, signed_decimal}
use Rattle.std.specs.Int.{w64}
use Rattle.dyn_value.specs.Proper.{IsText}
use Rattle.dyn_value.specs.Texts.{character_at}
use Rattle.std.proofs.lemmas.Fmt.{IsAscii-decimal, IsAscii-signed, length-decimal-le, length_signed_le}

-- the bytes of a text that is seen as its characters
pub bytes_of_view : (bs cs : List ℕ) → IsUtf8 bs → chars bs ≡ cs → encode_utf8_all cs ≡ bs
bytes_of_view bs cs text view = ap encode_utf8_all (sym view) ∙ encodes-chars bs text

-- two texts that are seen as the same characters have the same bytes
pub bytes_same : (bs ds cs es : List ℕ) → IsUtf8 bs → IsUtf8 ds → chars bs ≡ cs → chars ds ≡ es → cs ≡ es → bs ≡ ds
bytes_same bs ds cs es bt dt bv dv same = sym (bytes_of_view bs cs bt bv) ∙ ap encode_utf8_all same ∙ bytes_of_view ds es dt dv

-- the characters of two texts, one after the other
pub chars_joined : (bs ds cs es : List ℕ) → IsUtf8 bs → IsUtf8 ds → chars bs ≡ cs → chars ds ≡ es → chars (bs ++ ds) ≡ cs ++ es
chars_joined bs ds cs es bt dt bv dv = chars-append bs ds bt ∙ ap (λ x. x ++ chars ds) bv ∙ ap (λ x. cs ++ x) dv

-- how many bytes they have
pub length_joined : (bs ds cs es : List ℕ) → IsUtf8 bs → IsUtf8 ds → chars bs ≡ cs → chars ds ≡ es → length (encode_utf8_all (cs ++ es)) ≡ length bs + length ds
length_joined bs ds cs es bt dt bv dv =
    ap length (encodes-append cs es) ∙ length-append (encode_utf8_all cs) (encode_utf8_all es)
    ∙ ap (λ x. length x + length (encode_utf8_all es)) (bytes_of_view bs cs bt bv)
    ∙ ap (λ x. length bs + length x) (bytes_of_view ds es dt dv)

-- one more character at the end
pub chars_pushed : (bs : List ℕ) (c : ℕ) → IsUtf8 bs → IsScalar c → chars (bs ++ encode_utf8 c) ≡ chars bs ++ c ∷ []
chars_pushed bs c text scalar =
    chars-append bs (encode_utf8 c) text
    ∙ ap (λ x. chars bs ++ x) (chars_past_char (encode_utf8 c) [] c (IsUtf8-encode c scalar) (sym (append-nil (encode_utf8 c))) ∙ ap (λ x. c ∷ x) chars-nil)

-- a text at the end
pub chars_extended : (bs ds cs : List ℕ) → IsUtf8 bs → chars ds ≡ cs → chars (bs ++ ds) ≡ chars bs ++ cs
chars_extended bs ds cs text more = chars-append bs ds text ∙ ap (λ x. chars bs ++ x) more

-- a string that was made with some bytes has their characters
pub chars_made : {Z E : Type 0} (r : Result (String Z) E) (bs cs : List ℕ) → chars bs ≡ cs → IfOk r (λ s. string_bytes s ≡ bs) → IfOk r (λ s. chars (string_bytes s) ≡ cs)
chars_made (Ok s) bs cs e made = ap chars made ∙ e
chars_made (Err e) bs cs e' made = tt

-- and their length
pub length_made : {Z E : Type 0} (r : Result (String Z) E) (bs : List ℕ) (n : ℕ) → length bs ≤ n → IfOk r (λ s. string_bytes s ≡ bs) → IfOk r (λ s. string_len s ≤ n)
length_made (Ok s) bs n fits made = omega (arith, ap length made)
length_made (Err e) bs n fits made = tt

-- a label that passes the test is ASCII
pub ascii_label : (bs : List ℕ) → list_all is_ascii bs ≡ true → IsAscii bs
ascii_label [] h = IsAscii-nil
ascii_label (b ∷ bs) h =
    let first : b < 128 = grind (arith, nat_tests, h) in
    let others : list_all is_ascii bs ≡ true = grind (arith, nat_tests, h) in
    IsAscii-cons b bs first (ascii_label bs others)

-- the bytes of a label are its characters
pub chars_label : (bs : List ℕ) → list_all is_ascii bs ≡ true → chars bs ≡ bs
chars_label bs h = chars-IsAscii bs (ascii_label bs h)

-- those of a label and an ASCII text
pub chars_labelled : (bs ds : List ℕ) → list_all is_ascii bs ≡ true → IsAscii ds → chars (bs ++ ds) ≡ bs ++ ds
chars_labelled bs ds h ascii = chars-IsAscii (bs ++ ds) (IsAscii-append bs ds (ascii_label bs h) ascii)

-- a decimal number is ASCII
pub ascii_signed : (z : ℤ) → FitsSigned w64 z → IsAscii (signed_decimal z)
ascii_signed z fits = IsAscii-signed z fits.sfits

-- two numbers with a space between them
pub ascii_numbers : (a b : ℕ) → a < 2 ^ 64 → b < 2 ^ 64 → IsAscii (decimal a ++ 32 ∷ decimal b)
ascii_numbers a b small_a small_b = IsAscii-append (decimal a) (32 ∷ decimal b) (IsAscii-decimal a small_a) (IsAscii-cons 32 (decimal b) (omega arith) (IsAscii-decimal b small_b))

-- how long a number is, and a label with a number
pub length_signed : (z : ℤ) → FitsSigned w64 z → length (signed_decimal z) ≤ 65536
length_signed z fits = omega (arith, length_signed_le 20 z (omega (arith, fits.sfits)) fits.sfits)

pub length_numbered : (bs : List ℕ) (n : ℕ) → length bs ≤ 16 → n < 2 ^ 32 → length (bs ++ decimal n) ≤ 65536
length_numbered bs n short small =
    omega (arith, length-append bs (decimal n), length-decimal-le 10 n (omega arith) (omega arith) (omega arith))

-- a text that was appended where there was room
pub appended : {A E : Type 0} (r : Result A E) (old new bs cs : List ℕ) → encode_utf8_all cs ≡ bs → new ≡ (if is_ok r then old ++ bs else old) → OnOk r (new ≡ old ++ encode_utf8_all cs)
appended (Ok x) old new bs cs e gained = gained ∙ ap (λ x. old ++ x) (sym e)
appended (Err x) old new bs cs e gained = tt

-- the same of a string, in characters
pub extended : {A E Z : Type 0} (r : Result A E) (old new : String Z) (bs cs : List ℕ) → chars (string_bytes old ++ bs) ≡ chars (string_bytes old) ++ cs → string_bytes new ≡ (if is_ok r then string_bytes old ++ bs else string_bytes old) → OnOk r (chars (string_bytes new) ≡ chars (string_bytes old) ++ cs)
extended (Ok x) old new bs cs e gained = ap chars gained ∙ e
extended (Err x) old new bs cs e gained = tt

-- a short string is a text
pub text_of_string : {Z : Type 0} (s : String Z) → length (string_bytes s) ≤ 65536 → IsText (chars (string_bytes s))
text_of_string s fits =
    let text = IsUtf8-string_bytes s in (
      scalars-chars (string_bytes s) text,
      subst (λ b. length b ≤ 65536) (sym (encodes-chars (string_bytes s) text)) fits,
    )

-- one character alone
pub chars_alone : (c : ℕ) → IsScalar c → chars (encode_utf8 c) ≡ c ∷ []
chars_alone c scalar = chars_pushed [] c IsUtf8-nil scalar ∙ ap (λ x. x ++ c ∷ []) chars-nil

-- there are at most as many characters as bytes
pub length_chars_le : (bs : List ℕ) (n : ℕ) → IsUtf8 bs → length bs ≤ n → length (chars bs) ≤ n
length_chars_le bs n text fits = omega (arith, length-le-encodes (chars bs), ap length (encodes-chars bs text))

-- the character that a place has, as a text
pub at_place : (cs : List ℕ) (index : ℤ) (place : ℕ) (o : Option ℕ) → index ≡ pos place → o ≡ slice_get cs place → option_map (λ c. c ∷ []) o ≡ character_at cs index
at_place cs index place o at found = ap (option_map (λ c. c ∷ [])) found ∙ ap (character_at cs) (sym at)
