-- What a user sees of the rules that a pass knows, most recent first.
use Rattle.std.specs.Prelude.{◌≡◌, ℕ, List, ◌∷◌, ◌++◌, All, Any}

-- a known rule: its index, the word that names it at a site, and its note
pub record KnownRule (R A : Type 0) : Type 0 where
  pub index : ℕ
  pub word : ℕ
  pub rule : R
  pub note : A

-- a rule with this index is known
abbrev pub Knows : {R A : Type 0} → List (KnownRule R A) → ℕ → Type 0
Knows rules index = Any (λ known. known.index ≡ index) rules

-- the most recent rule that passes has this index and comes before all others, which keep their order
pub record BringsFirst {R A : Type 0} (Passes : R → Type 0) (old new : List (KnownRule R A)) (index : ℕ) : Type 0 where
  pub before : List (KnownRule R A)
  pub found : KnownRule R A
  pub after : List (KnownRule R A)
  pub old_is : old ≡ before ++ found ∷ after
  pub new_is : new ≡ found ∷ before ++ after
  pub fails : All (λ known. ¬ Passes known.rule) before
  pub passes : Passes found.rule
  pub index_is : found.index ≡ index

-- one more rule is known, before all others
pub record AddsFirst {R A : Type 0} (old new : List (KnownRule R A)) (index : ℕ) (rule : R) (note : A) : Type 0 where
  pub word : ℕ
  pub new_is : new ≡ record { index = index; word = word; rule = rule; note = note } ∷ old
