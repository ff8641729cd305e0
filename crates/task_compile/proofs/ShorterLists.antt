-- A list that loses its last element.
use Rattle.std.proofs.Common.{◌≡◌, ◌≤◌, ◌<◌, ◌+◌, ℕ, List, [], ◌∷◌, ◌++◌, length, take, Option, None, Some, refl, sym, ap, ◌∙◌, arith, length-append}
use Rattle.std.specs.Prelude.{MatchOption}
use Rattle.std.proofs.lemmas.List.{take-append-le, take_all}

abbrev pub Popped : {A : Type 0} → Option A → List A → List A → Type 0
Popped r old new = MatchOption r ((old ≡ []) × (new ≡ [])) (λ last. old ≡ new ++ last ∷ [])

-- fewer are left
pub popped_fewer : {A : Type 0} (r : Option A) (old new : List A) (count : ℕ) → count < length old → Popped r old new → length new + 1 ≡ length old
popped_fewer None old new count h p = absurd (omega (arith, ap length p.0))
popped_fewer (Some last) old new count h p = omega (arith, ap length p, length-append new (last ∷ []))

-- and the first of them are the same
pub popped_same : {A : Type 0} (r : Option A) (old new : List A) (count : ℕ) → count < length old → Popped r old new → take count new ≡ take count old
popped_same None old new count h p = absurd (omega (arith, ap length p.0))
popped_same (Some last) old new count h p =
    let within : count ≤ length new = omega (arith, ap length p, length-append new (last ∷ [])) in
    sym (ap (take count) p ∙ take-append-le count new (last ∷ []) within)
