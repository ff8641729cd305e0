-- Lists read by their places, the beginnings of histories, and the entries of one pass.
use Rattle.std.proofs.Common.{◌≡◌, ℕ, zero, suc, ◌+◌, ◌<◌, ◌≤◌, ◌≢◌, Bool, cond, ◌⊎◌, ⊎_elim, inl, inr, List, [], ◌∷◌, ◌++◌, length, All, get_or, sym, refl, ap, ◌∙◌, subst, arith, eqb, eq-eqb, ne_eqb, append_assoc, append-nil, add-zero, add-one, take}
use mathlib.Core.Option.{some, some-injective, some-ne-none}
use lib.ListN.{get_elem?}
use Rattle.std.proofs.lemmas.List.Elements.{filter-append, All-append}
use Rattle.std.proofs.lemmas.List.Sums.{sum_by-append}
use Rattle.turn_rows.specs.Lists.{StartsWith, made_by, Adds, times, Rises}

module _ {A : Type 0} where
  pub same_at : (l : List A) (i : ℕ) (x y : A) → get_elem? l i ≡ some x → get_elem? l i ≡ some y → x ≡ y
  same_at l i x y a b = some-injective x y (sym a ∙ b)

  pub at_inside : (l : List A) (i : ℕ) (x : A) → get_elem? l i ≡ some x → i < length l
  at_inside [] i x e = absurd (some-ne-none x (sym e))
  at_inside (y ∷ ys) zero x e = omega arith
  at_inside (y ∷ ys) (suc i) x e = let h = at_inside ys i x e in omega arith

  pub inside_at : (l : List A) (i : ℕ) → i < length l → (x : A) × (get_elem? l i ≡ some x)
  inside_at [] i h = absurd (omega arith)
  inside_at (y ∷ ys) zero h = (y, refl)
  inside_at (y ∷ ys) (suc i) h = inside_at ys i (omega arith)

  pub begins_itself : (xs : List A) → StartsWith xs xs
  begins_itself xs = ([], sym (append-nil xs))

  pub begins_longer : (xs front : List A) (e : A) → StartsWith xs front → StartsWith (xs ++ e ∷ []) front
  begins_longer xs front e s = (s.0 ++ e ∷ [], ap (λ (z : List A). z ++ e ∷ []) s.1 ∙ append_assoc front s.0 (e ∷ []))

module _ {E : Type 0} (by : E → ℕ) where
  own_one : (p : ℕ) (e : E) → by e ≡ p → made_by by p (e ∷ []) ≡ e ∷ []
  own_one p e is = ap (λ (b : Bool). cond b (e ∷ []) []) (eq-eqb (by e) p is)

  strange_one : (p : ℕ) (e : E) → by e ≢ p → made_by by p (e ∷ []) ≡ []
  strange_one p e not = ap (λ (b : Bool). cond b (e ∷ []) []) (ne_eqb (by e) p not)

  pub own_more : (p : ℕ) (es : List E) (e : E) → by e ≡ p → made_by by p (es ++ e ∷ []) ≡ made_by by p es ++ e ∷ []
  own_more p es e is = filter-append (λ (x : E). eqb (by x) p) es (e ∷ []) ∙ ap (λ (z : List E). made_by by p es ++ z) (own_one p e is)

  pub adds_front : (p : ℕ) (es fs front : List E) → Adds by p es fs → StartsWith es front → StartsWith fs front
  adds_front p es fs front a s = ⊎_elim (λ (e : fs ≡ es). subst (λ (z : List E). StartsWith z front) (sym e) s)
      (λ (h : (e : E) × (by e ≡ p) × (fs ≡ es ++ e ∷ [])). subst (λ (z : List E). StartsWith z front) (sym h.2) (begins_longer es front h.0 s)) a

  pub adds_other : (p q : ℕ) (es fs : List E) → Adds by p es fs → q ≢ p → made_by by q fs ≡ made_by by q es
  adds_other p q es fs a ne = ⊎_elim (λ (e : fs ≡ es). ap (made_by by q) e)
      (λ (h : (e : E) × (by e ≡ p) × (fs ≡ es ++ e ∷ [])). ap (made_by by q) h.2 ∙ (filter-append (λ (x : E). eqb (by x) q) es (h.0 ∷ [])
      ∙ (ap (λ (z : List E). made_by by q es ++ z) (strange_one q h.0 (λ i. ne (sym i ∙ h.1))) ∙ append-nil (made_by by q es)))) a

one_there : (x y : ℕ) → y ≡ x → cond {A = ℕ} (eqb y x) 1 0 ≡ 1
one_there x y e = ap (λ (b : Bool). cond {A = ℕ} b 1 0) (eq-eqb y x e)

none_there : (x y : ℕ) → y ≢ x → cond {A = ℕ} (eqb y x) 1 0 ≡ 0
none_there x y n = ap (λ (b : Bool). cond {A = ℕ} b 1 0) (ne_eqb y x n)

pub times_here : (x : ℕ) (ys : List ℕ) → times x (ys ++ x ∷ []) ≡ times x ys + 1
times_here x ys = sum_by-append (λ (y : ℕ). cond {A = ℕ} (eqb y x) 1 0) ys (x ∷ []) ∙ ap (λ (z : ℕ). times x ys + (0 + z)) (one_there x x refl)

pub times_else : (x y : ℕ) (ys : List ℕ) → y ≢ x → times x (ys ++ y ∷ []) ≡ times x ys
times_else x y ys n = sum_by-append (λ (z : ℕ). cond {A = ℕ} (eqb z x) 1 0) ys (y ∷ []) ∙ (ap (λ (z : ℕ). times x ys + (0 + z)) (none_there x y n) ∙ add-zero (times x ys))

pub rises_more : (n y : ℕ) (xs : List ℕ) → n ≤ y → All (λ x. x < n) xs → Rises xs → Rises (xs ++ y ∷ [])
rises_more n y [] l below r = tt
rises_more n y (x ∷ []) l below r = let h = below 0 0 (omega arith) in (omega arith, tt)
rises_more n y (x ∷ z ∷ zs) l below r = (r.0, rises_more n y (z ∷ zs) l (λ k d h. below (suc k) d (omega arith)) r.1)

pub below_more : (n : ℕ) (xs : List ℕ) → All (λ x. x < n) xs → All (λ x. x < n + 1) (xs ++ n ∷ [])
below_more n xs below = All-append (λ (x : ℕ). x < n + 1) xs (n ∷ []) (λ k d l. let h = below k d l in omega arith) (one n)
  where
    one : (n : ℕ) → All (λ x. x < n + 1) (n ∷ [])
    one n zero d l = omega arith
    one n (suc k) d l = absurd (omega arith)

-- a list with one element more behind
pub at_behind : {A : Type 0} (l : List A) (x y : A) (i : ℕ) → get_elem? (l ++ x ∷ []) i ≡ some y → (get_elem? l i ≡ some y) ⊎ ((i ≡ length l) × (x ≡ y))
at_behind [] x y zero e = inr (refl, some-injective x y e)
at_behind [] x y (suc i) e = absurd (some-ne-none y (sym e))
at_behind (z ∷ zs) x y zero e = inl e
at_behind (z ∷ zs) x y (suc i) e = ⊎_elim inl (λ (h : (i ≡ length zs) × (x ≡ y)). inr (ap suc h.0, h.1)) (at_behind zs x y i e)

-- an element of two lists, one behind the other
pub at_either : {A : Type 0} (l k : List A) (x : A) (i : ℕ) → get_elem? (l ++ k) i ≡ some x → ((j : ℕ) × (get_elem? l j ≡ some x)) ⊎ ((j : ℕ) × (get_elem? k j ≡ some x))
at_either [] k x i e = inr (i, e)
at_either (z ∷ zs) k x zero e = inl (zero, e)
at_either (z ∷ zs) k x (suc i) e = ⊎_elim (λ (h : (j : ℕ) × (get_elem? zs j ≡ some x)). inl (suc h.0, h.1)) inr (at_either zs k x i e)

pub take_at_place : {A : Type 0} (l : List A) (i : ℕ) (x : A) → get_elem? l i ≡ some x → take (i + 1) l ≡ take i l ++ x ∷ []
take_at_place [] i x e = absurd (some-ne-none x (sym e))
take_at_place (y ∷ ys) zero x e = ap (λ z. z ∷ []) (some-injective y x e)
take_at_place (y ∷ ys) (suc i) x e = rw add-one (ap (λ z. y ∷ z) (rw add-one at (take_at_place ys i x e)))

-- what holds of each element holds of the one at a place
pub all_at : {A : Type 0} (P : A → Type 0) (l : List A) (i : ℕ) (x : A) → All P l → get_elem? l i ≡ some x → P x
all_at P [] i x h e = absurd (some-ne-none x (sym e))
all_at P (y ∷ ys) zero x h e = subst P (some-injective y x e) (h 0 x (omega arith))
all_at P (y ∷ ys) (suc i) x h e = all_at P ys i x (λ k d l. h (suc k) d (omega arith)) e

-- an element within the list, where another would stand past its end
pub at_or : {A : Type 0} (l : List A) (i : ℕ) (d : A) → i < length l → get_elem? l i ≡ some (get_or l i d)
at_or [] i d h = absurd (omega arith)
at_or (x ∷ xs) zero d h = refl
at_or (x ∷ xs) (suc i) d h = at_or xs i d (omega arith)
