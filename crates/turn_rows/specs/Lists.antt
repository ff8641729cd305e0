-- Words on lists of entries, on numbers drawn, and on functions of numbers.
use Rattle.std.specs.Prelude.{◌≡◌, ℕ, zero, suc, ◌+◌, ◌<◌, ◌≤◌, ◌==◌, ◌⊎◌, List, [], ◌∷◌, ◌++◌, cond}
use Rattle.std.specs.List.{count_by, filter}

-- the first list begins with the second
abbrev pub StartsWith : {A : Type 0} → List A → List A → Type 0
StartsWith {A} whole front = (rest : List A) × (whole ≡ front ++ rest)

module _ {E : Type 0} (by : E → ℕ) where
  -- of these entries those that the pass p made, in order
  abbrev pub made_by : ℕ → List E → List E
  made_by p es = filter (λ e. by e == p) es

  -- at most one entry more, which the pass p made
  abbrev pub Adds : ℕ → List E → List E → Type 0
  Adds p before after = (after ≡ before) ⊎ ((e : E) × (by e ≡ p) × (after ≡ before ++ e ∷ []))

  -- the same entry more on two lists, or none on both
  abbrev pub AddsToBoth : ℕ → List E → List E → List E → List E → Type 0
  AddsToBoth p all all' mine mine' = ((all' ≡ all) × (mine' ≡ mine)) ⊎ ((e : E) × (by e ≡ p) × (all' ≡ all ++ e ∷ []) × (mine' ≡ mine ++ e ∷ []))

-- the function f, but x at i
abbrev pub put : {A : Type 0} → (ℕ → A) → ℕ → A → ℕ → A
put f i x j = cond (j == i) x (f j)

-- f at each number below n, added up
abbrev pub sum_below : ℕ → (ℕ → ℕ) → ℕ
sum_below zero f = 0
sum_below (suc n) f = sum_below n f + f n

-- how often the number x stands in the list
abbrev pub times : ℕ → List ℕ → ℕ
times x ys = count_by (λ y. y == x) ys

-- each number is above the one before it
abbrev pub Rises : List ℕ → Type 0
Rises [] = Unit {0}
Rises (x ∷ []) = Unit {0}
Rises (x ∷ y ∷ ys) = (x < y) × Rises (y ∷ ys)

-- the passes below `made` drew each number from `first` up to `last` once, and no other, and each drew ever higher ones
pub record DrawnOnce (first last made : ℕ) (draws : ℕ → List ℕ) : Type 0 where
  pub least : first ≤ last
  pub once : (x : ℕ) → first ≤ x → x < last → sum_below made (λ p. times x (draws p)) ≡ 1
  pub no_other : (x : ℕ) → (x < first) ⊎ (last ≤ x) → sum_below made (λ p. times x (draws p)) ≡ 0
  pub rise : (p : ℕ) → p < made → Rises (draws p)
