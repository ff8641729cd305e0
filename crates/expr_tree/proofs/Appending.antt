-- Texts that are appended, one after the other.
use Rattle.std.proofs.Common.{◌≡◌, ℕ, List, ◌++◌, sym, ap, ◌∙◌, append_assoc}
use Rattle.std.specs.Prelude.{Result, Ok, Err, OnOk, encode_utf8_all}
use Rattle.std.proofs.lemmas.Str.{encodes-append}

-- a text was appended, and then, where there was memory, another
pub ends : {A E : Type 0} (r : Result A E) (a b c : List ℕ) (cs ds : List ℕ) → b ≡ a ++ encode_utf8_all cs → OnOk r (c ≡ b ++ encode_utf8_all ds) → OnOk r (c ≡ a ++ encode_utf8_all (cs ++ ds))
ends (Ok x) a b c cs ds first second =
    second ∙ ap (λ x. x ++ encode_utf8_all ds) first
    ∙ append_assoc a (encode_utf8_all cs) (encode_utf8_all ds)
    ∙ ap (λ x. a ++ x) (sym (encodes-append cs ds))
ends (Err x) a b c cs ds first second = tt

-- a text that was appended, by another name
pub renamed : {A E : Type 0} (r : Result A E) (a c cs ds : List ℕ) → OnOk r (c ≡ a ++ encode_utf8_all cs) → ds ≡ cs → OnOk r (c ≡ a ++ encode_utf8_all ds)
renamed (Ok x) a c cs ds gained same = gained ∙ ap (λ x. a ++ encode_utf8_all x) (sym same)
renamed (Err x) a c cs ds gained same = tt
