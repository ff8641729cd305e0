-- Functions of numbers that are changed at one place, and sums of them.
use Rattle.std.proofs.Common.{◌≡◌, ℕ, zero, suc, ◌+◌, ◌*◌, ◌<◌, ◌≤◌, ◌≢◌, Bool, cond, sym, refl, ap, ap₂, ◌∙◌, subst, arith, eq-eqb, ne_eqb, suc-mul}
use mathlib.Core.Logic.{dite}
use native.Mathlib.Decide.{ℕ_discrete}
use Rattle.turn_rows.specs.Lists.{put, sum_below}

module _ {A : Type 0} where
  -- what holds of the new value at i, and of each other value, holds after
  pub at_put : (f : ℕ → A) (i : ℕ) (x : A) (F : ℕ → A → Type 0) (j : ℕ) → F i x → (j ≢ i → F j (f j)) → F j (put f i x j)
  at_put f i x F j here other = dite (ℕ_discrete j i)
      (λ e. subst (λ (b : Bool). F j (cond b x (f j))) (sym (eq-eqb j i e)) (subst (λ (k : ℕ). F k x) (sym e) here))
      (λ n. subst (λ (b : Bool). F j (cond b x (f j))) (sym (ne_eqb j i n)) (other n))

  pub put_here : (f : ℕ → A) (i : ℕ) (x : A) → put f i x i ≡ x
  put_here f i x = ap (λ (b : Bool). cond b x (f i)) (eq-eqb i i refl)

  pub put_else : (f : ℕ → A) (i : ℕ) (x : A) (j : ℕ) → j ≢ i → put f i x j ≡ f j
  put_else f i x j n = ap (λ (b : Bool). cond b x (f j)) (ne_eqb j i n)

pub sum_same : (n : ℕ) (f g : ℕ → ℕ) → ((p : ℕ) → p < n → f p ≡ g p) → sum_below n f ≡ sum_below n g
sum_same zero f g same = refl
sum_same (suc n) f g same = ap₂ (λ (x y : ℕ). x + y) (sum_same n f g (λ p l. same p (omega arith))) (same n (omega arith))

pub sum_few : (n b : ℕ) (f : ℕ → ℕ) → ((p : ℕ) → p < n → f p ≤ b) → sum_below n f ≤ n * b
sum_few zero b f few = omega arith
sum_few (suc n) b f few = let h = sum_few n b f (λ p l. few p (omega arith)) in let k = few n (omega arith) in omega (arith, suc-mul n b)

module _ {A : Type 0} (h : A → ℕ) where
  -- one value below n is changed
  pub sum_after : (n i : ℕ) (f : ℕ → A) (x : A) → i < n → sum_below n (λ p. h (put f i x p)) + h (f i) ≡ sum_below n (λ p. h (f p)) + h x
  sum_after zero i f x l = absurd (omega arith)
  sum_after (suc n) i f x l = dite (ℕ_discrete n i)
      (λ e. let rest : sum_below n (λ p. h (put f i x p)) ≡ sum_below n (λ p. h (f p)) = sum_same n (λ p. h (put f i x p)) (λ p. h (f p)) (λ p k. ap h (put_else f i x p (λ q. omega arith))) in
      let last : h (put f i x n) ≡ h x = ap h (ap (put f i x) e ∙ put_here f i x) in let at : h (f n) ≡ h (f i) = ap (λ (z : ℕ). h (f z)) e in omega arith)
      (λ ne. let rest = sum_after n i f x (omega arith) in let last : h (put f i x n) ≡ h (f n) = ap h (put_else f i x n ne) in omega arith)

  -- a value is added behind
  pub sum_behind : (n : ℕ) (f : ℕ → A) (x : A) → sum_below (suc n) (λ p. h (put f n x p)) ≡ sum_below n (λ p. h (f p)) + h x
  sum_behind n f x = ap₂ (λ (y z : ℕ). y + z) (sum_same n (λ p. h (put f n x p)) (λ p. h (f p)) (λ p k. ap h (put_else f n x p (λ q. omega arith)))) (ap h (put_here f n x))
