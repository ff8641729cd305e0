-- Elements of lists: where they stand once one came first, and tests of all and of some.
use Rattle.std.proofs.Common.{◌≡◌, ◌≢◌, ℕ, zero, suc, ◌<◌, ◌⊎◌, ⊎_elim, inl, inr, Bool, true, false, List, [], ◌∷◌, ◌++◌, length, get_or, take, refl, sym, ap, ◌∙◌, subst, arith, Contains, All, Any, AllPairs}
use Rattle.std.specs.List.{AllZip, list_any}
use Rattle.std.proofs.lemmas.List.Folds.{Any-from_list_any, list_any-from_Any}
use Rattle.std.proofs.lemmas.List.{get_or_default}
use Rattle.std.proofs.lemmas.List.Elements.{Contains-append_left, Contains-append_right, Contains-append_cases}

module _ {X : Type 0} where
  pub all_from : (P : X → Type 0) (xs : List X) → ((x : X) → Contains xs x → P x) → All P xs
  all_from P xs h k d l = h (get_or xs k d) (k, l, get_or_default xs k (get_or xs k d) d l)

  pub some_at : (P : X → Type 0) (xs : List X) (x : X) → Contains xs x → P x → Any P xs
  some_at P xs x c p = (c.0, x, c.1, c.2, p)

  pub place_of : (P : X → Type 0) (xs : List X) (a : Any P xs) → Contains xs a.1
  place_of P xs a = (a.0, a.2, a.3)

  pub contains_first : (x : X) (xs : List X) → Contains (x ∷ xs) x
  contains_first x xs = (0, omega arith, refl)

  pub contains_later : (y : X) (xs : List X) (x : X) → Contains xs x → Contains (y ∷ xs) x
  contains_later y xs x c = (suc c.0, (let l = c.1 in omega arith), c.2)

  pub contains_cases : (y : X) (xs : List X) (x : X) → Contains (y ∷ xs) x → (y ≡ x) ⊎ Contains xs x
  contains_cases y xs x c = at c.0 c.1 c.2
    where
      at : (k : ℕ) → k < length (y ∷ xs) → get_or (y ∷ xs) k x ≡ x → (y ≡ x) ⊎ Contains xs x
      at zero l e = inl e
      at (suc k) l e = inr (k, omega arith, e)

  -- an element that comes first
  pub to_first : (before after : List X) (f x : X) → Contains (before ++ f ∷ after) x → Contains (f ∷ before ++ after) x
  to_first before after f x c = ⊎_elim (λ (b : Contains before x). contains_later f (before ++ after) x (Contains-append_left before after x b))
      (λ (a : Contains (f ∷ after) x). ⊎_elim (λ (e : f ≡ x). subst (Contains (f ∷ before ++ after)) e (contains_first f (before ++ after)))
      (λ (a : Contains after x). contains_later f (before ++ after) x (Contains-append_right before after x a)) (contains_cases f after x a)) (Contains-append_cases before (f ∷ after) x c)

  pub from_first : (before after : List X) (f x : X) → Contains (f ∷ before ++ after) x → Contains (before ++ f ∷ after) x
  from_first before after f x c = ⊎_elim (λ (e : f ≡ x). subst (Contains (before ++ f ∷ after)) e (Contains-append_right before (f ∷ after) f (contains_first f after)))
      (λ (d : Contains (before ++ after) x). ⊎_elim (λ (b : Contains before x). Contains-append_left before (f ∷ after) x b)
      (λ (a : Contains after x). Contains-append_right before (f ∷ after) x (contains_later f after x a)) (Contains-append_cases before after x d)) (contains_cases f (before ++ after) x c)

  -- elements that a number tells apart
  pub one_of : (f : X → ℕ) (xs : List X) → AllPairs (λ one other. f one ≢ f other) xs → (x y : X) → Contains xs x → Contains xs y → f x ≡ f y → x ≡ y
  one_of f xs apart x y c d e = let same : (k : ℕ) → c.0 ≡ k → k ≡ d.0 → x ≡ y = (λ k p q. sym c.2 ∙ get_or_default xs c.0 x y c.1 ∙ ap (λ i. get_or xs i y) (p ∙ q) ∙ d.2) in
      ⊎_elim (λ (l : c.0 < d.0). absurd (apart c.0 d.0 x l d.1 (ap f c.2 ∙ e ∙ ap f (sym d.2) ∙ ap f (get_or_default xs d.0 y x d.1))))
      (λ (r : (d.0 < c.0) ⊎ (c.0 ≡ d.0)). ⊎_elim
      (λ (l : d.0 < c.0). absurd (apart d.0 c.0 y l c.1 (ap f d.2 ∙ sym e ∙ ap f (sym c.2) ∙ ap f (get_or_default xs c.0 x y c.1))))
      (λ (q : c.0 ≡ d.0). same c.0 refl q) r)
      (let i : ℕ = c.0 in let j : ℕ = d.0 in let r : (i < j) ⊎ ((j < i) ⊎ (i ≡ j)) = grind arith in r)

  -- a test that some element passes, or none
  pub some_passes : (p : X → Bool) (xs : List X) (x : X) → Contains xs x → p x ≡ true → list_any p xs ≡ true
  some_passes p xs x c t = list_any-from_Any p xs (some_at (λ y. p y ≡ true) xs x c t)

  pub none_passes : (p : X → Bool) (xs : List X) → ((x : X) → Contains xs x → p x ≡ true → ⊥) → list_any p xs ≡ false
  none_passes p xs h = elim (list_any p xs) as (λ b. list_any p xs ≡ b → b ≡ false) [
    | true ↦ λ e. let a = Any-from_list_any p xs e in absurd (h a.1 (place_of (λ y. p y ≡ true) xs a) a.4)
    | false ↦ λ e. refl
  ] refl

-- pairs of two lists
module _ {X Y : Type 0} where
  pub zip_weaker : (P Q : X → Y → Type 0) → ((x : X) (y : Y) → P x y → Q x y) → (xs : List X) (ys : List Y) → AllZip P xs ys → AllZip Q xs ys
  zip_weaker P Q w [] [] z = tt
  zip_weaker P Q w [] (y ∷ ys) z = absurd z
  zip_weaker P Q w (x ∷ xs) [] z = absurd z
  zip_weaker P Q w (x ∷ xs) (y ∷ ys) z = (w x y z.0, zip_weaker P Q w xs ys z.1)

  -- one of the first pairs, by its second part, and by its first
  pub pair_of_second : (P : X → Y → Type 0) (n : ℕ) (xs rest : List X) (ys : List Y) → AllZip P xs ys → (y : Y) → Contains (take n ys) y
      → (x : X) × Contains (take n (xs ++ rest)) x × P x y
  pair_of_second P zero xs rest ys z y c = absurd (let l = c.1 in omega arith)
  pair_of_second P (suc n) [] rest [] z y c = absurd (let l = c.1 in omega arith)
  pair_of_second P (suc n) [] rest (y' ∷ ys) z y c = absurd z
  pair_of_second P (suc n) (x ∷ xs) rest [] z y c = absurd z
  pair_of_second P (suc n) (x ∷ xs) rest (y' ∷ ys) z y c = ⊎_elim
      (λ (e : y' ≡ y). (x, contains_first x (take n (xs ++ rest)), subst (P x) e z.0))
      (λ (d : Contains (take n ys) y). let r = pair_of_second P n xs rest ys z.1 y d in (r.0, contains_later x (take n (xs ++ rest)) r.0 r.1, r.2)) (contains_cases y' (take n ys) y c)

  pub pair_of_first : (P : X → Y → Type 0) (n : ℕ) (xs rest : List X) (ys : List Y) → AllZip P xs ys → (x : X)
      → Contains (take n (xs ++ rest)) x → ((y : Y) × Contains (take n ys) y × P x y) ⊎ Contains (take n rest) x
  pair_of_first P zero xs rest ys z x c = absurd (let l = c.1 in omega arith)
  pair_of_first P (suc n) [] rest [] z x c = inr c
  pair_of_first P (suc n) [] rest (y' ∷ ys) z x c = absurd z
  pair_of_first P (suc n) (x' ∷ xs) rest [] z x c = absurd z
  pair_of_first P (suc n) (x' ∷ xs) rest (y' ∷ ys) z x c = ⊎_elim
      (λ (e : x' ≡ x). inl (y', contains_first y' (take n ys), subst (λ (a : X). P a y') e z.0))
      (λ (d : Contains (take n (xs ++ rest)) x). ⊎_elim
      (λ (r : (y : Y) × Contains (take n ys) y × P x y). inl (r.0, contains_later y' (take n ys) r.0 r.1, r.2))
      (λ (r : Contains (take n rest) x). inr (longer n rest x r)) (pair_of_first P n xs rest ys z.1 x d)) (contains_cases x' (take n (xs ++ rest)) x c)
    where
      longer : (n : ℕ) (rest : List X) (x : X) → Contains (take n rest) x → Contains (take (suc n) rest) x
      longer zero rest x c = absurd (let l = c.1 in omega arith)
      longer (suc n) [] x c = c
      longer (suc n) (y ∷ ys) x c = ⊎_elim (λ (e : y ≡ x). subst (Contains (y ∷ take (suc n) ys)) e (contains_first y (take (suc n) ys)))
          (λ (d : Contains (take n ys) x). contains_later y (take (suc n) ys) x (longer n ys x d)) (contains_cases y (take n ys) x c)
