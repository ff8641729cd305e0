-- The name of the one member of texts, by its bytes.
use Rattle.std.proofs.Common.{◌≡◌, ℕ, Bool, true, false, List, codes, refl, sym, ◌∙◌, ap, encode_utf8_all}
use Rattle.std.specs.Str.{bytes_eq, chars}
use Rattle.std.proofs.Math.Utf8.{scalars}
use Rattle.std.proofs.lemmas.Slice.Eq.{bytes_eq-Decides}
use Rattle.std.proofs.lemmas.Str.{chars-encodes, IsUtf8-from_ascii}
use Rattle.dyn_value.proofs.Encoding.{ascii_label, chars_label, bytes_of_view}

encoded_length : encode_utf8_all (codes "length") ≡ codes "length"
encoded_length = bytes_of_view (codes "length") (codes "length") (IsUtf8-from_ascii (codes "length") (ascii_label (codes "length") refl)) (chars_label (codes "length") refl)

named_length : (name bytes : List ℕ) → scalars name ≡ true → bytes ≡ encode_utf8_all name → bytes ≡ codes "length" → name ≡ codes "length"
named_length name bytes text spelled same = sym (chars-encodes name text) ∙ ap chars (sym spelled ∙ same) ∙ chars_label (codes "length") refl

-- its bytes are those of the word exactly where it is the word
pub length_by_bytes : (name bytes : List ℕ) → scalars name ≡ true → bytes ≡ encode_utf8_all name → bytes_eq bytes (codes "length") ≡ bytes_eq name (codes "length")
length_by_bytes name bytes text spelled = by (bytes_eq bytes (codes "length")) (bytes_eq name (codes "length")) refl refl
  where
    by : (b d : Bool) → bytes_eq bytes (codes "length") ≡ b → bytes_eq name (codes "length") ≡ d → b ≡ d
    by true true e f = refl
    by false false e f = refl
    by true false e f =
        let t : bytes_eq name (codes "length") ≡ true = (bytes_eq-Decides name (codes "length")).1 (named_length name bytes text spelled ((bytes_eq-Decides bytes (codes "length")).0 e)) in
        sym t ∙ f
    by false true e f =
        let t : bytes_eq bytes (codes "length") ≡ true = (bytes_eq-Decides bytes (codes "length")).1 (spelled ∙ ap encode_utf8_all ((bytes_eq-Decides name (codes "length")).0 f) ∙ encoded_length) in
        sym e ∙ t
