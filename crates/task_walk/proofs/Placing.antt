-- The values of a call's parameters, one after the other.
use Rattle.std.proofs.Common.{◌≡◌, ℕ, zero, suc, ◌+◌, ◌<◌, ◌≤◌, List, [], ◌∷◌, length, drop, get_or, refl, ap, sym, ◌∙◌, arith, add-one}
use Rattle.std.specs.Prelude.{take}
use Rattle.std.specs.List.{AllByRecursion}
use Rattle.dyn_value.specs.declared.value.Value.{Value}
use Rattle.task_code.specs.Acts.{placed}
use Rattle.task_walk.specs.Parts.{argument_of}

drop_none : (i : ℕ) → drop {A = Value} i [] ≡ []
drop_none zero = refl
drop_none (suc i) = refl

placed_suc : (params names : List (List ℕ)) (vs named : List Value) (i : ℕ) (p : List ℕ) → i < length params → p ≡ get_or params i p
    → placed (drop i params) names (drop i vs) named ≡ argument_of p i vs names named ∷ placed (drop (suc i) params) names (drop (suc i) vs) named
placed_suc [] names vs named i p less is = absurd (omega arith)
placed_suc (q ∷ qs) names [] named zero p less is = ap (λ x. argument_of x 0 [] names named ∷ placed qs names [] named) (sym is)
placed_suc (q ∷ qs) names (v ∷ vs) named zero p less is = refl
placed_suc (q ∷ qs) names [] named (suc i) p less is =
    ap (λ ds. placed (drop i qs) names ds named) (sym (drop_none i)) ∙ placed_suc qs names [] named i p (omega arith) is
placed_suc (q ∷ qs) names (v ∷ vs) named (suc i) p less is = placed_suc qs names vs named i p (omega arith) is

-- the value for the parameter of a place, and those after it
pub placed_next : (params names : List (List ℕ)) (vs named : List Value) (i : ℕ) (p : List ℕ) → i < length params → p ≡ get_or params i p
    → placed (drop i params) names (drop i vs) named ≡ argument_of p i vs names named ∷ placed (drop (i + 1) params) names (drop (i + 1) vs) named
placed_next params names vs named i p less is = rw add-one (placed_suc params names vs named i p less is)

-- no parameter is left
pub placed_past : (params names : List (List ℕ)) (vs named : List Value) (i : ℕ) → length params ≤ i → placed (drop i params) names (drop i vs) named ≡ []
placed_past [] names vs named zero past = refl
placed_past [] names vs named (suc i) past = refl
placed_past (q ∷ qs) names vs named zero past = absurd (omega arith)
placed_past (q ∷ qs) names [] named (suc i) past =
    ap (λ ds. placed (drop i qs) names ds named) (sym (drop_none i)) ∙ placed_past qs names [] named i (omega arith)
placed_past (q ∷ qs) names (v ∷ vs) named (suc i) past = placed_past qs names vs named i (omega arith)

pub all_taken : {A : Type 0} (P : A → Type 0) (n : ℕ) (xs : List A) → AllByRecursion P xs → AllByRecursion P (take n xs)
all_taken P zero xs all = tt
all_taken P (suc n) [] all = tt
all_taken P (suc n) (x ∷ xs) all = (all.0, all_taken P n xs all.1)

pub all_left : {A : Type 0} (P : A → Type 0) (n : ℕ) (xs : List A) → AllByRecursion P xs → AllByRecursion P (drop n xs)
all_left P zero xs all = all
all_left P (suc n) [] all = tt
all_left P (suc n) (x ∷ xs) all = all_left P n xs all.1
