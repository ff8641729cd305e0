-- What a choice among known rules says.
use Rattle.std.specs.Prelude.{◌≡◌, ◌≢◌, ℕ, ◌⊎◌, List, ◌++◌, ◌∷◌, All, Any, Option, Some, None}
use Rattle.binder_cache.specs.Known.{KnownRule, BringsFirst}
use Rattle.call_site.specs.declared.choice.Level.{Level}
use Rattle.call_site.specs.declared.choice.Level.TheVariants.{Target, Site, Binder, Bind}

module _ {R A : Type 0} (Passes : R → Type 0) where
  -- the word names the known rule with this index, and that rule passes
  abbrev pub Hits : List (KnownRule R A) → ℕ → ℕ → Type 0
  Hits rules word index = Any (λ known. (known.word ≡ word) × (known.index ≡ index) × Passes known.rule) rules

  -- the word names no known rule, or one that does not pass
  abbrev pub PassedOver : List (KnownRule R A) → ℕ → Type 0
  PassedOver rules word =
      All (λ known. known.word ≢ word) rules ⊎ Any (λ known. (known.word ≡ word) × (¬ Passes known.rule)) rules

  -- the first word that is not passed over names the rule with this index
  pub record FirstHit (rules : List (KnownRule R A)) (ring : List ℕ) (index : ℕ) : Type 0 where
    pub before : List ℕ
    pub word : ℕ
    pub after : List ℕ
    pub ring_is : ring ≡ before ++ word ∷ after
    pub over : All (PassedOver rules) before
    pub hits : Hits rules word index

  -- the rule with this index is known and passes
  abbrev pub IsPassing : List (KnownRule R A) → ℕ → Type 0
  IsPassing rules index = Any (λ known. (known.index ≡ index) × Passes known.rule) rules

  -- a known rule that passes is chosen, or none where none does; a rule found at the binder comes before all others
  abbrev pub Chooses : List (KnownRule R A) → List (KnownRule R A) → Option Level → ℕ → Type 0
  Chooses old new None index = All (λ known. ¬ Passes known.rule) old × (index ≡ 0) × (new ≡ old)
  Chooses old new (Some Target) index = IsPassing old index × (new ≡ old)
  Chooses old new (Some Site) index = IsPassing old index × (new ≡ old)
  Chooses old new (Some Binder) index = BringsFirst Passes old new index
  Chooses old new (Some Bind) index = ⊥

  -- neither the target nor a word of the ring names a known rule that passes
  abbrev pub SiteFails : ℕ → List ℕ → List (KnownRule R A) → Type 0
  SiteFails target ring rules = PassedOver rules target × All (PassedOver rules) ring

  -- the target is tried first, then the ring from the word entered last on, then the known rules
  abbrev pub TriesInOrder : ℕ → List ℕ → List (KnownRule R A) → Option Level → ℕ → Type 0
  TriesInOrder target ring rules None index = SiteFails target ring rules
  TriesInOrder target ring rules (Some Target) index = Hits rules target index
  TriesInOrder target ring rules (Some Site) index = PassedOver rules target × FirstHit rules ring index
  TriesInOrder target ring rules (Some Binder) index = SiteFails target ring rules
  TriesInOrder target ring rules (Some Bind) index = ⊥
