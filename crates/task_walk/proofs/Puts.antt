-- Locals that are set one by one.
use Rattle.std.proofs.Common.{◌≡◌, ℕ, zero, suc, ◌<◌, List, [], ◌∷◌, ◌++◌, length, refl, ap, sym, subst, arith}
use Rattle.std.specs.Prelude.{slice_set, Result, Ok, Err, OnOk, OnErr}
use Rattle.std.specs.List.{AllByRecursion}
use Rattle.dyn_value.specs.declared.value.Value.{Value}
use Rattle.dyn_value.specs.declared.value.Value.TheVariants as value
use Rattle.task_code.specs.Codes.{put}

pub put_set : (k : ℕ) (v : Value) (vs : List Value) → k < length vs → put k v vs ≡ slice_set vs k v
put_set zero v [] less = absurd (omega arith)
put_set zero v (w ∷ ws) less = refl
put_set (suc k) v [] less = absurd (omega arith)
put_set (suc k) v (w ∷ ws) less = ap (λ rest. w ∷ rest) (put_set k v ws (omega arith))

pub put_push : (k : ℕ) (v : Value) (vs : List Value) → k ≡ length vs → put k v vs ≡ vs ++ v ∷ []
put_push zero v [] is = refl
put_push zero v (w ∷ ws) is = absurd (omega arith)
put_push (suc k) v [] is = absurd (omega arith)
put_push (suc k) v (w ∷ ws) is = ap (λ rest. w ∷ rest) (put_push k v ws (omega arith))

-- a local before the one that is set is nil, whether it was set to it or not
pub put_short : (k : ℕ) (v : Value) (vs : List Value) → length vs < k → put k v (vs ++ value.Nil ∷ []) ≡ put k v vs
put_short zero v vs less = absurd (omega arith)
put_short (suc k) v [] less = refl
put_short (suc k) v (w ∷ ws) less = ap (λ rest. w ∷ rest) (put_short k v ws (omega arith))

pub all_push : {A : Type 0} (P : A → Type 0) (xs : List A) (x : A) → AllByRecursion P xs → P x → AllByRecursion P (xs ++ x ∷ [])
all_push P [] x all here = (here, tt)
all_push P (y ∷ ys) x all here = (all.0, all_push P ys x all.1 here)

pub all_set : {A : Type 0} (P : A → Type 0) (xs : List A) (k : ℕ) (x : A) → AllByRecursion P xs → P x → AllByRecursion P (slice_set xs k x)
all_set P [] k x all here = tt
all_set P (y ∷ ys) zero x all here = (here, all.1)
all_set P (y ∷ ys) (suc k) x all here = (all.0, all_set P ys k x all.1 here)

-- after an item is added, or refused
pub all_pushed : {A E : Type 0} (P : A → Type 0) (r : Result (Unit {0}) E) (xs new : List A) (x : A)
    → OnOk r (new ≡ xs ++ x ∷ []) → OnErr r (new ≡ xs) → AllByRecursion P xs → P x → AllByRecursion P new
all_pushed P (Ok done) xs new x ok err all here = subst (AllByRecursion P) (sym ok) (all_push P xs x all here)
all_pushed P (Err e) xs new x ok err all here = subst (AllByRecursion P) (sym err) all

pub on_ok : {A E P Q : Type 0} (r : Result A E) → (P → Q) → OnOk r P → OnOk r Q
on_ok (Ok a) f p = f p
on_ok (Err e) f p = p
