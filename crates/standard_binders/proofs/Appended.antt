-- Bytes that were appended one after the other.
use Rattle.std.proofs.Common.{◌≡◌, ℕ, List, true, ◌++◌, ap, sym, ◌∙◌, append_assoc}
use Rattle.std.specs.Char.{is_ascii}
use Rattle.std.specs.List.{list_all}
use Rattle.std.specs.Prelude.{encode_utf8_all, Result, Ok, Err, OnOk}
use Rattle.std.proofs.lemmas.Str.{encodes-append, encodes-IsAscii}
use Rattle.dyn_value.proofs.Encoding.{ascii_label}

-- a label in ASCII
pub labelled : (old new label : List ℕ) → list_all is_ascii label ≡ true → new ≡ old ++ label → new ≡ old ++ encode_utf8_all label
labelled old new label ascii e = e ∙ ap (λ x. old ++ x) (sym (encodes-IsAscii label (ascii_label label ascii)))

-- two texts
pub joined : (old mid new first next : List ℕ) → mid ≡ old ++ encode_utf8_all first → new ≡ mid ++ encode_utf8_all next → new ≡ old ++ encode_utf8_all (first ++ next)
joined old mid new first next e f =
    f ∙ ap (λ x. x ++ encode_utf8_all next) e ∙ append_assoc old (encode_utf8_all first) (encode_utf8_all next)
    ∙ ap (λ x. old ++ x) (sym (encodes-append first next))

pub joined_ok : {A E : Type 0} (r : Result A E) (old mid new first next : List ℕ) → mid ≡ old ++ encode_utf8_all first → OnOk r (new ≡ mid ++ encode_utf8_all next) → OnOk r (new ≡ old ++ encode_utf8_all (first ++ next))
joined_ok (Ok x) old mid new first next e f = joined old mid new first next e f
joined_ok (Err x) old mid new first next e f = tt
