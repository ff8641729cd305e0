-- What all known rules have is kept where one comes to the front and where more come before all others.
use Rattle.std.proofs.Common.{◌≡◌, ℕ, List, ◌∷◌, ◌++◌, length, All, Contains, refl, sym, subst, arith}
use Rattle.std.proofs.lemmas.List.Elements.{All-append, All-cons, All-contains, All-drop, All-head, All-tail, All-take}
use Rattle.std.proofs.Math.Seq.{drop-append_seam, take-append_seam}
use Rattle.binder_cache.specs.Known.{AddsFirst, BringsFirst, KnownRule, Knows}

module _ {X : Type 0} (P : X → Type 0) where
  -- of a list in two parts
  first_part : (xs ys : List X) → All P (xs ++ ys) → All P xs
  first_part xs ys all = subst (All P) (take-append_seam xs ys) (All-take P (length xs) (xs ++ ys) all)

  last_part : (xs ys : List X) → All P (xs ++ ys) → All P ys
  last_part xs ys all = subst (All P) (drop-append_seam xs ys) (All-drop P (length xs) (xs ++ ys) all)

module _ {R A : Type 0} where
  pub brings_all : (P : KnownRule R A → Type 0) (Q : R → Type 0) (old new : List (KnownRule R A)) (index : ℕ) → BringsFirst Q old new index
      → All P old → All P new
  brings_all P Q old new index b all =
      let parts : All P (b.before ++ b.found ∷ b.after) = subst (All P) b.old_is all in
      let rest : All P (b.found ∷ b.after) = last_part P b.before (b.found ∷ b.after) parts in
      subst (All P) (sym b.new_is) (All-cons P b.found (b.before ++ b.after) (All-head P b.found b.after rest)
      (All-append P b.before b.after (first_part P b.before (b.found ∷ b.after) parts) (All-tail P b.found b.after rest)))

  pub adds_all : (P : KnownRule R A → Type 0) (old new : List (KnownRule R A)) (index : ℕ) (rule : R) (note : A)
      → AddsFirst old new index rule note → ((word : ℕ) → P (record { index = index; word = word; rule = rule; note = note })) → All P old → All P new
  adds_all P old new index rule note a one all =
      subst (All P) (sym a.new_is) (All-cons P (record { index = index; word = a.word; rule = rule; note = note }) old (one a.word) all)

  -- the one that came to the front is known, and passes
  pub brings_found : (Q : R → Type 0) (old new : List (KnownRule R A)) (index : ℕ) → BringsFirst Q old new index
      → (k : KnownRule R A) × (Contains new k × ((k.index ≡ index) × Q k.rule))
  brings_found Q old new index b = (
    b.found,
    (
      subst (λ (ks : List (KnownRule R A)). Contains ks b.found) (sym b.new_is)
          (0, omega arith, refl),
      (b.index_is, b.passes),
    ),
  )

  -- what is known has what all have
  pub known_has : (P : KnownRule R A → Type 0) (rules : List (KnownRule R A)) (index : ℕ) → Knows rules index → All P rules
      → (k : KnownRule R A) × (Contains rules k × ((k.index ≡ index) × P k))
  known_has P rules index known all =
      let k = known.1 in let there : Contains rules k = (known.0, known.2, known.3) in (k, (there, (known.4, All-contains P rules k all there)))
