-- The member of a name by its place among the names and the values.
use Rattle.std.proofs.Common.{◌≡◌, ◌≢◌, ◌<◌, ℕ, zero, suc, Bool, true, false, List, [], ◌∷◌, length, map, None, Some, refl, ap, subst, arith, slice_set, slice_get}
use Rattle.std.specs.List.{All, AllByRecursion, IsDistinct, remove}
use Rattle.std.specs.Str.{bytes_eq}
use Rattle.std.proofs.lemmas.List.Elements.{All-head, All-tail}
use Rattle.std.proofs.lemmas.Map.Keys.{IsDistinct-head, IsDistinct-tail}
use Rattle.std.proofs.lemmas.Slice.Eq.{bytes_eq-Decides}
use Rattle.dyn_value.specs.declared.value.Value.{Value}
use Rattle.dyn_value.specs.Outcomes.{at}
use Rattle.object_model.specs.Members.{Members, member_name, value_of, replaced, removed}
use Rattle.rule_model.specs.States.{member_value}

-- the first member of this name stands at this place
abbrev pub StandsAt : List ℕ → Members → ℕ → Type 0
StandsAt name [] i = ⊥
StandsAt name (m ∷ ms) zero = bytes_eq m.name name ≡ true
StandsAt name (m ∷ ms) (suc i) = (bytes_eq m.name name ≡ false) × StandsAt name ms i

apart_at : (x : List ℕ) (ys : List (List ℕ)) (i : ℕ) (y : List ℕ) → AllByRecursion (λ z. bytes_eq x z ≡ false) ys → slice_get ys i ≡ Some y → bytes_eq x y ≡ false
apart_at x [] i y all e = cc
apart_at x (z ∷ zs) zero y all e = let same : z ≡ y = cc in subst (λ (k : List ℕ). bytes_eq x k ≡ false) same all.0
apart_at x (z ∷ zs) (suc i) y all e = apart_at x zs i y all.1 e

pub stands : (name : List ℕ) (ms : Members) (i : ℕ) → IsDistinct bytes_eq (map member_name ms) → slice_get (map member_name ms) i ≡ Some name → StandsAt name ms i
stands name [] i distinct e = cc
stands name (m ∷ ms) zero distinct e = (bytes_eq-Decides m.name name).1 (let same : m.name ≡ name = cc in same)
stands name (m ∷ ms) (suc i) distinct e = (
  apart_at m.name (map member_name ms) i name (IsDistinct-head bytes_eq m.name (map member_name ms) distinct) e,
  stands name ms i (IsDistinct-tail bytes_eq m.name (map member_name ms) distinct) e,
)

pub value_at : (name : List ℕ) (ms : Members) (i : ℕ) → StandsAt name ms i → value_of name ms ≡ Some (at (map member_value ms) i)
value_at name [] i here = absurd here
value_at name (m ∷ ms) zero here = rw here refl
value_at name (m ∷ ms) (suc i) here = rw here.0 (value_at name ms i here.1)

pub within : (name : List ℕ) (ms : Members) (i : ℕ) → StandsAt name ms i → i < length (map member_value ms)
within name [] i here = absurd here
within name (m ∷ ms) zero here = omega arith
within name (m ∷ ms) (suc i) here = let rest = within name ms i here.1 in omega arith

pub names-replaced : (name : List ℕ) (v : Value) (ms : Members) (i : ℕ) → StandsAt name ms i → map member_name (replaced name v ms) ≡ map member_name ms
names-replaced name v [] i here = absurd here
names-replaced name v (m ∷ ms) zero here = rw here refl
names-replaced name v (m ∷ ms) (suc i) here = rw here.0 (ap (λ (ns : List (List ℕ)). m.name ∷ ns) (names-replaced name v ms i here.1))

pub values-replaced : (name : List ℕ) (v : Value) (ms : Members) (i : ℕ) → StandsAt name ms i → map member_value (replaced name v ms) ≡ slice_set (map member_value ms) i v
values-replaced name v [] i here = absurd here
values-replaced name v (m ∷ ms) zero here = rw here refl
values-replaced name v (m ∷ ms) (suc i) here = rw here.0 (ap (λ (vs : List Value). m.value ∷ vs) (values-replaced name v ms i here.1))

pub names-removed : (name : List ℕ) (ms : Members) (i : ℕ) → StandsAt name ms i → map member_name (removed name ms) ≡ remove (map member_name ms) i
names-removed name [] i here = absurd here
names-removed name (m ∷ ms) zero here = rw here refl
names-removed name (m ∷ ms) (suc i) here = rw here.0 (ap (λ (ns : List (List ℕ)). m.name ∷ ns) (names-removed name ms i here.1))

pub values-removed : (name : List ℕ) (ms : Members) (i : ℕ) → StandsAt name ms i → map member_value (removed name ms) ≡ remove (map member_value ms) i
values-removed name [] i here = absurd here
values-removed name (m ∷ ms) zero here = rw here refl
values-removed name (m ∷ ms) (suc i) here = rw here.0 (ap (λ (vs : List Value). m.value ∷ vs) (values-removed name ms i here.1))

-- a name that stands nowhere is that of no member
other_name : (b : Bool) (m name : List ℕ) → bytes_eq m name ≡ b → m ≢ name → b ≡ false
other_name true m name e other = absurd (other ((bytes_eq-Decides m name).0 e))
other_name false m name e other = refl

pub absent : (name : List ℕ) (ms : Members) → All (λ other. other ≢ name) (map member_name ms) → value_of name ms ≡ None
absent name [] none = refl
absent name (m ∷ ms) none =
    let P : List ℕ → Type 0 = λ other. other ≢ name in
    let first : bytes_eq m.name name ≡ false = other_name (bytes_eq m.name name) m.name name refl (All-head P m.name (map member_name ms) none) in
    rw first (absent name ms (All-tail P m.name (map member_name ms) none))
