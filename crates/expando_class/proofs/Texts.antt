-- Lists of names, and the texts that hold them.
use Rattle.std.proofs.Common.{◌≡◌, ◌≢◌, ℕ, ◌<◌, ◌≤◌, List, [], ◌∷◌, ◌++◌, suc, length, take, drop, All, Some, slice_get, option_map, refl, sym, ◌∙◌, ap, subst, arith}
use Rattle.std.specs.List.{AllZip, IsDistinct, remove, take-map, drop-map, slice_index_or}
use Rattle.std.specs.Prelude.{◌&&◌, flat_map, encode_utf8_all}
use Rattle.std.specs.Str.{bytes_eq, chars, IsUtf8}
use Rattle.std.specs.Cmp.Lexicographic.{pointwise, bytes_decides}
use Rattle.std.specs.Hash as fed
use Rattle.std.specs.declared.string.String.{String}
use Rattle.std.specs.declared.alloc.Global.{Global}
use Rattle.std.specs.String.{string_bytes, string_eq}
use Rattle.std.proofs.lemmas.Str.{encodes-chars, scalars-chars, IsUtf8-string_bytes}
use Rattle.std.proofs.lemmas.Bool.Decides.{same_from_decides, Decides-like}
use Rattle.std.proofs.lemmas.List.{map-append, length-map, length_push}
use Rattle.std.proofs.lemmas.List.Edits.{length-remove}
use Rattle.std.proofs.lemmas.List.Elements.{All-nil, All-push, All-append, All-take, All-drop}
use Rattle.std.proofs.lemmas.List.Quantifiers.{all_pairs_push, all_pairs_remove}
use Rattle.std.proofs.lemmas.Map.Made.{AllPairs-from_IsDistinct, IsDistinct-from_AllPairs}
use Rattle.std.proofs.lemmas.Option.{slice_get-map, slice_get-get_or}
use Rattle.expando_class.specs.Listing.{IsName, AreNames, names_eq, fed_names, chars_of_each}

abbrev Text : Type 0
Text = String Global

abbrev pub chars_in : Text → List ℕ
chars_in text = chars (string_bytes text)

-- the characters of a text are those of its bytes alone
pub bytes_of_chars : (text : Text) → encode_utf8_all (chars_in text) ≡ string_bytes text
bytes_of_chars text = encodes-chars (string_bytes text) (IsUtf8-string_bytes text)

pub same_bytes : (x y : Text) → chars_in x ≡ chars_in y → string_bytes x ≡ string_bytes y
same_bytes x y same = sym (bytes_of_chars x) ∙ ap encode_utf8_all same ∙ bytes_of_chars y

-- other bytes have other characters
pub unlike : (text : Text) (bytes : List ℕ) → IsUtf8 bytes → string_bytes text ≢ bytes → chars_in text ≢ chars bytes
unlike text bytes utf8 other same = other (sym (bytes_of_chars text) ∙ ap encode_utf8_all same ∙ encodes-chars bytes utf8)

-- two texts are equal as their characters are
eq_of_text : (x y : Text) → string_eq x y ≡ bytes_eq (chars_in x) (chars_in y)
eq_of_text x y = same_from_decides (string_eq x y) (bytes_eq (chars_in x) (chars_in y))
    (Decides-like (string_eq x y) (ap chars) (same_bytes x y) (bytes_decides (string_bytes x) (string_bytes y)))
    (bytes_decides (chars_in x) (chars_in y))

pub eq_of_texts : (xs ys : List Text) → pointwise string_eq xs ys ≡ names_eq (chars_of_each xs) (chars_of_each ys)
eq_of_texts [] [] = refl
eq_of_texts [] (y ∷ ys) = refl
eq_of_texts (x ∷ xs) [] = refl
eq_of_texts (x ∷ xs) (y ∷ ys) = λ i. eq_of_text x y i && eq_of_texts xs ys i

-- texts are fed to a hasher as their characters are
pub fed_texts : (xs : List Text) → flat_map (λ (text : Text). fed.str (string_bytes text)) xs ≡ flat_map (λ name. fed.str (encode_utf8_all name)) (chars_of_each xs)
fed_texts [] = refl
fed_texts (x ∷ xs) = λ i. fed.str (sym (bytes_of_chars x) i) ++ fed_texts xs i

pub fed_each : (xs : List Text) → fed.slice (λ (text : Text). fed.str (string_bytes text)) xs ≡ fed_names (chars_of_each xs)
fed_each xs = λ i. fed.usize (sym (length-map xs chars_in) i) ++ fed_texts xs i

pub cloned : (xs ys : List Text) → AllZip (λ x y. string_bytes y ≡ string_bytes x) xs ys → chars_of_each ys ≡ chars_of_each xs
cloned [] [] e = refl
cloned [] (y ∷ ys) e = absurd e
cloned (x ∷ xs) [] e = absurd e
cloned (x ∷ xs) (y ∷ ys) e = λ i. chars (e.0 i) ∷ cloned xs ys e.1 i

pub pushed : (xs : List Text) (x : Text) → chars_of_each (xs ++ x ∷ []) ≡ chars_of_each xs ++ chars_in x ∷ []
pushed xs x = map-append chars_in xs (x ∷ [])

pub removed : (xs : List Text) (place : ℕ) → chars_of_each (remove xs place) ≡ remove (chars_of_each xs) place
removed xs place = map-append chars_in (take place xs) (drop (suc place) xs) ∙ (λ i. sym (take-map chars_in place xs) i ++ sym (drop-map chars_in (suc place) xs) i)

pub text_at : (texts : List Text) (place : ℕ) (text : Text) → place < length texts → text ≡ slice_index_or texts place text → slice_get (chars_of_each texts) place ≡ Some (chars_in text)
text_at texts place text l e = slice_get-map chars_in texts place ∙ ap (option_map chars_in) (slice_get-get_or texts place text l ∙ ap Some (sym e))

-- a short text is a name
pub name_of_text : (text : Text) → length (string_bytes text) ≤ 64 → IsName (chars_in text)
name_of_text text short = (scalars-chars (string_bytes text) (IsUtf8-string_bytes text), subst (λ bytes. length bytes ≤ 64) (sym (bytes_of_chars text)) short)

pub no_names : AreNames []
unfolding IsDistinct
no_names = record { few = omega arith; short = All-nil IsName; distinct = tt }

pub one_more : (names : List (List ℕ)) (name : List ℕ) → AreNames names → All (λ other. other ≢ name) names → IsName name → length names < 64 → AreNames (names ++ name ∷ [])
one_more names name are new short room = record {
  few = omega (arith, length_push names name);
  short = All-push IsName names name are.short short;
  distinct = IsDistinct-from_AllPairs bytes_decides (names ++ name ∷ []) (all_pairs_push (λ one other. one ≢ other) names name (AllPairs-from_IsDistinct bytes_decides names are.distinct) new);
}

pub one_less : (names : List (List ℕ)) (place : ℕ) → AreNames names → place < length names → AreNames (remove names place)
one_less names place are l = record {
  few = let a = are.few in omega (arith, length-remove names place l);
  short = All-append IsName (take place names) (drop (suc place) names) (All-take IsName place names are.short) (All-drop IsName (suc place) names are.short);
  distinct = IsDistinct-from_AllPairs bytes_decides (remove names place) (all_pairs_remove (λ one other. one ≢ other) names place l (AllPairs-from_IsDistinct bytes_decides names are.distinct));
}
