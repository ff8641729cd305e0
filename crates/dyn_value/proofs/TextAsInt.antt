-- What a text gives as a number.
use Rattle.std.proofs.Common.{◌≡◌, ℤ, List, ℕ, Result, refl, sym, ap, ◌∙◌, subst}
use Rattle.std.specs.Prelude.{Option, Some, None, Ok, Err, IfOk}
use Rattle.dyn_value.specs.declared.value.Kind.{Kind}
use Rattle.dyn_value.specs.declared.value.Kind.TheVariants as kind
use Rattle.dyn_value.specs.declared.value.Value.{Value}
use Rattle.dyn_value.specs.declared.value.Value.TheVariants.{Text}
use Rattle.dyn_value.specs.declared.fault.Fault.{Fault}
use Rattle.dyn_value.specs.Conversions.{number_of, text_to_int, to_int, IsTextAsInt}
use Rattle.dyn_value.proofs.Numbers.{number_of_plain, plain_of_number}

-- the answer is the one that its number tells
text_as_int : (cs : List ℕ) → IsTextAsInt cs (text_to_int (number_of cs))
text_as_int cs = by_number (number_of cs) refl
  where
    by_number : (o : Option ℤ) → number_of cs ≡ o → IsTextAsInt cs (text_to_int o)
    by_number (Some n) e = let plain = plain_of_number cs n e in (n, refl, plain.0, plain.1)
    by_number None e = (refl, λ n small plain. let found : number_of cs ≡ Some n = ap number_of (sym plain) ∙ number_of_plain n small in cc)

-- the same of an answer, for want of memory too
pub text_number : {E : Type 0} (r : Result (Result Value Fault) E) (v : Value) (k : Kind) → IfOk r (λ x. x ≡ to_int v) → IfOk r (λ x. (cs : List ℕ) → v ≡ Text cs → k ≡ kind.Int → IsTextAsInt cs x)
text_number (Ok x) v k e = λ cs is int. subst (IsTextAsInt cs) (sym (e ∙ ap to_int is)) (text_as_int cs)
text_number (Err f) v k e = tt
