-- Numbers of which each stands once in a list, and sums over functions of numbers.
use Rattle.std.proofs.Common.{◌≡◌, ◌∙◌, ◌<◌, ◌≤◌, ◌+◌, ◌⊎◌, ◌==◌, ℕ, zero, suc, cond, Bool, List, [], ◌∷◌, length, get_or, refl, sym, ap, ap₂, subst, inl, inr, arith, eq-eqb, ne_eqb}
use mathlib.Core.Logic.{dite}
use native.Mathlib.Decide.{ℕ_discrete}
use Rattle.std.specs.List.{flat_map, range_with_len, remove}
use Rattle.std.specs.List.Sorted.{IsPermutation, IsStrictlyIncreasing}
use Rattle.std.proofs.lemmas.List.Sorted.{IsPermutation-cons, IsPermutation-refl, IsPermutation-remove, IsPermutation-trans, sum_by-IsPermutation}
use Rattle.std.proofs.lemmas.List.Sums.{sum_by-append, sum_by-cons}
use Rattle.turn_rows.specs.Lists.{Rises, sum_below, times}

-- each number from the first on, so many, stands once in the list, and no other
pub record AreOnce (first n : ℕ) (xs : List ℕ) : Type 0 where
  pub each : (x : ℕ) → first ≤ x → x < first + n → times x xs ≡ 1
  pub no_other : (x : ℕ) → (x < first) ⊎ (first + n ≤ x) → times x xs ≡ 0

abbrev once_if : Bool → ℕ
once_if b = cond b 1 0

is_one : (x y : ℕ) → x ≡ y → once_if (x == y) ≡ 1
is_one x y e = ap once_if (eq-eqb x y e)

is_none : (x y : ℕ) → (x ≡ y → ⊥) → once_if (x == y) ≡ 0
is_none x y n = ap once_if (ne_eqb x y n)

times_first : (x y : ℕ) (ys : List ℕ) → times x (y ∷ ys) ≡ once_if (y == x) + times x ys
times_first x y ys = sum_by-cons (λ z. once_if (z == x)) y ys

-- the place of a number that stands there
place : (x : ℕ) (xs : List ℕ) → 0 < times x xs → (i : ℕ) × (i < length xs) × (get_or xs i x ≡ x)
place x [] some = absurd (omega (arith, some))
place x (y ∷ ys) some = dite (ℕ_discrete y x) (λ e. (0, omega arith, e))
    (λ n.
    let less : 0 < times x ys = omega (arith, some, times_first x y ys, is_none y x n) in
    let at = place x ys less in
    (suc at.0, omega (arith, at.1), at.2))

less_once : (first n : ℕ) (xs rest : List ℕ) → AreOnce first (suc n) xs → IsPermutation xs (first ∷ rest) → AreOnce (first + 1) n rest
less_once first n xs rest once moved = record {
  each = λ x from below. omega (arith, as_before x, is_none first x (λ e. omega (arith, e, from)), once.each x (omega (arith, from)) (omega (arith, below)));
  no_other = λ x outside. dite (ℕ_discrete first x)
      (λ e. omega (arith, as_before x, is_one first x e, once.each x (omega (arith, e)) (omega (arith, e))))
      (λ n. omega (arith, as_before x, is_none first x n, once.no_other x (apart x n outside)));
}
  where
    as_before : (x : ℕ) → once_if (first == x) + times x rest ≡ times x xs
    as_before x = sym (times_first x first rest) ∙ sum_by-IsPermutation (λ z. once_if (z == x)) xs (first ∷ rest) moved

    apart : (x : ℕ) → (first ≡ x → ⊥) → (x < first + 1) ⊎ (first + 1 + n ≤ x) → (x < first) ⊎ (first + suc n ≤ x)
    apart x n (inl below) = inl (omega (arith, n, below))
    apart x n (inr above) = inr (omega (arith, above))

pub permutation : (first n : ℕ) (xs : List ℕ) → AreOnce first n xs → IsPermutation xs (range_with_len first n)
permutation first zero [] once = IsPermutation-refl []
permutation first zero (y ∷ ys) once = absurd (omega (arith, times_first y y ys, is_one y y refl, none))
  where
    outside : (y < first) ⊎ (first + 0 ≤ y)
    outside = dite_lt
      where
        dite_lt : (y < first) ⊎ (first + 0 ≤ y)
        dite_lt = grind arith

    none : times y (y ∷ ys) ≡ 0
    none = once.no_other y outside
permutation first (suc n) xs once =
    let there : times first xs ≡ 1 = once.each first (omega arith) (omega arith) in
    let at = place first xs (omega (arith, there)) in
    let rest = remove xs at.0 in
    let moved : IsPermutation xs (first ∷ rest) = IsPermutation-remove xs at.0 first at.1 (sym at.2) in
    IsPermutation-trans xs (first ∷ rest) (range_with_len first (suc n)) moved
    (IsPermutation-cons first rest (range_with_len (first + 1) n) (permutation (first + 1) n rest (less_once first n xs rest once moved)))

sum_from_first : (n : ℕ) (f : ℕ → ℕ) → sum_below (suc n) f ≡ f 0 + sum_below n (λ k. f (suc k))
sum_from_first zero f = omega arith
sum_from_first (suc n) f = omega (arith, sum_from_first n f)

-- how often a number stands in lists, each of which is that of an element
pub times_in_all : {A : Type 0} (x : ℕ) (f : A → List ℕ) (xs : List A) (g : ℕ → List ℕ)
    → ((k : ℕ) (d : A) → k < length xs → g k ≡ f (get_or xs k d)) → sum_below (length xs) (λ k. times x (g k)) ≡ times x (flat_map f xs)
times_in_all x f [] g same = refl
times_in_all x f (a ∷ xs) g same =
    sum_from_first (length xs) (λ k. times x (g k))
    ∙ ap₂ (λ (m n : ℕ). m + n) (ap (times x) (same 0 a (omega arith)))
    (times_in_all x f xs (λ k. g (suc k)) (λ k d inside. same (suc k) d (omega (arith, inside))))
    ∙ sym (sum_by-append (λ z. once_if (z == x)) (f a) (flat_map f xs))

pub increasing : (xs : List ℕ) → Rises xs → IsStrictlyIncreasing xs
increasing [] rises k inside = absurd (omega (arith, inside))
increasing (x ∷ []) rises k inside = absurd (omega (arith, inside))
increasing (x ∷ y ∷ ys) rises zero inside = rises.0
increasing (x ∷ y ∷ ys) rises (suc k) inside =
    let e : suc (k + 1) ≡ suc k + 1 = omega arith in
    subst (λ (n : ℕ). get_or (y ∷ ys) k 0 < get_or (x ∷ y ∷ ys) n 0) e (increasing (y ∷ ys) rises.1 k (omega (arith, inside)))
