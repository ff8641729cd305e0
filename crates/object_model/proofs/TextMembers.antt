-- The members of texts, by the bytes of their names.
use Rattle.std.proofs.Common.{◌≡◌, ◌≢◌, ℕ, Bool, true, false, List, length, codes, refl, sym, ◌∙◌, ap, encode_utf8_all, ℤ, pos, to_z, of_z}
use Rattle.std.specs.Int.{w64}
use Rattle.std.specs.Prelude.{FitsSigned, Result, Ok, Err, IfOk}
use Rattle.std.specs.Str.{bytes_eq}
use Rattle.std.proofs.Math.Utf8.{scalars}
use Rattle.std.proofs.lemmas.Int.{to_z-of_z}
use Rattle.std.proofs.lemmas.Slice.Eq.{bytes_eq-Decides}
use Rattle.std.proofs.lemmas.Str.{chars-encodes, IsUtf8-from_ascii}
use Rattle.std.specs.Str.{chars}
use Rattle.dyn_value.specs.declared.value.Value.TheVariants as value
use Rattle.dyn_value.specs.declared.fault.Fault.TheVariants.{NoMember}
use Rattle.dyn_value.specs.declared.outcome.Outcome.{Outcome}
use Rattle.dyn_value.specs.declared.outcome.Outcome.TheVariants as outcome
use Rattle.dyn_value.proofs.Encoding.{ascii_label, chars_label, bytes_of_view}
use Rattle.object_model.specs.Plain.{member_of}

encoded_length : encode_utf8_all (codes "length") ≡ codes "length"
encoded_length = bytes_of_view (codes "length") (codes "length") (IsUtf8-from_ascii (codes "length") (ascii_label (codes "length") refl)) (chars_label (codes "length") refl)

is_length : (name : List ℕ) → scalars name ≡ true → encode_utf8_all name ≡ codes "length" → bytes_eq name (codes "length") ≡ true
is_length name text e = (bytes_eq-Decides name (codes "length")).1 (sym (chars-encodes name text) ∙ ap chars e ∙ chars_label (codes "length") refl)

is_other : (name : List ℕ) → encode_utf8_all name ≢ codes "length" → bytes_eq name (codes "length") ≡ false
is_other name other = by_test (bytes_eq name (codes "length")) refl
  where
    by_test : (b : Bool) → bytes_eq name (codes "length") ≡ b → bytes_eq name (codes "length") ≡ false
    by_test true e = absurd (other (ap encode_utf8_all ((bytes_eq-Decides name (codes "length")).0 e) ∙ encoded_length))
    by_test false e = e

pub length_member : (text name bytes : List ℕ) (n : ℤ) → scalars name ≡ true → bytes ≡ encode_utf8_all name → bytes_eq bytes (codes "length") ≡ true → FitsSigned w64 n → n ≡ pos (length text) → outcome.Value (value.Int (to_z w64 (of_z w64 n))) ≡ member_of (value.Text text) name
length_member text name bytes n proper spelled same fits e =
    rw (is_length name proper (sym spelled ∙ (bytes_eq-Decides bytes (codes "length")).0 same), to_z-of_z w64 n fits, e) refl

pub other_member : {E : Type 0} (r : Result Outcome E) (text name bytes : List ℕ) → bytes ≡ encode_utf8_all name → bytes_eq bytes (codes "length") ≡ false → IfOk r (λ o. o ≡ outcome.Fault (NoMember name)) → IfOk r (λ o. o ≡ member_of (value.Text text) name)
other_member (Ok o) text name bytes spelled other e =
    let apart : encode_utf8_all name ≢ codes "length" = λ same. let t : bytes_eq bytes (codes "length") ≡ true = (bytes_eq-Decides bytes (codes "length")).1 (spelled ∙ same) in let f : true ≡ false = sym t ∙ other in cc in
    rw (is_other name apart, e) refl
other_member (Err x) text name bytes spelled other e = tt
