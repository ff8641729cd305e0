-- How the words of sites and the known rules of binders stand to the operations so far.
use Rattle.std.specs.Prelude.{◌≡◌, ◌≢◌, ℕ, ◌<◌, Bool, List, ◌++◌, Option, Some, None, length, take, replicate, All, Any, AllPairs, Contains}
use Rattle.std.specs.List.{AllZip}
use Rattle.std.specs.List.Sorted.{IsPermutation}
use Rattle.binder_cache.specs.Known.{KnownRule, AddsFirst}
use Rattle.call_site.specs.declared.choice.Level.{Level}
use Rattle.call_site.specs.declared.choice.Level.TheVariants.{Target, Site, Binder, Bind}
use Rattle.call_site.specs.Chosen.{Chooses, TriesInOrder}
use Rattle.cache_levels.specs.Levels.{Asked, last_at, met_by, entered_at}

-- what a pass keeps: of each site its target and its ring, and of each binder the rules that it knows
pub record Memory (R A : Type 0) : Type 0 where
  pub target : ℕ → ℕ
  pub ring : ℕ → List ℕ
  pub known : ℕ → List (KnownRule R A)

-- no two of these rules have one word
abbrev pub AreApart : {R A : Type 0} → List (KnownRule R A) → Type 0
AreApart rules = AllPairs (λ one other. one.word ≢ other.word) rules

module _ {R A H : Type 0} (Tests : R → H → Type 0) where
  -- the word names a known rule that is for this shape
  pub record NamesShape (rules : List (KnownRule R A)) (word : ℕ) (shape : H) : Type 0 where
    pub there : Any (λ k. k.word ≡ word) rules
    pub tests : All (λ k. k.word ≡ word → Tests k.rule shape) rules

  -- the target: 0 before the site's first operation, and then the word of the last one's shape
  abbrev pub TargetHolds : List (KnownRule R A) → ℕ → Option H → Type 0
  TargetHolds rules word None = word ≡ 0
  TargetHolds rules word (Some shape) = NamesShape rules word shape

  -- the ring: the words of the last ten shapes that the site entered, the latest first, and 0 where there were fewer
  pub record RingHolds (rules : List (KnownRule R A)) (ring : List ℕ) (entered : List H) : Type 0 where
    pub words : List ℕ
    pub ring_is : ring ≡ take 10 (words ++ replicate 10 0)
    pub named : AllZip (NamesShape rules) words entered

  -- the known rules of a binder: one for each shape that it met
  pub record RulesHold (rules : List (KnownRule R A)) (met : List H) : Type 0 where
    pub each_met : All (λ k. Any (Tests k.rule) met) rules
    pub each_known : All (λ shape. Any (λ k. Tests k.rule shape) rules) met
    pub counted : length rules ≡ length met
    pub apart : AreApart rules
    pub named : All (λ k. k.word ≢ 0) rules

-- What a pass keeps is what these operations leave. Of a binder's number a rule is for a shape: it passes on the
-- operations of that shape and on no other.
pub record Remembers {R A H : Type 0} (Tests : ℕ → R → H → Type 0) (same : H → H → Bool) (binder_of : ℕ → ℕ) (sites : ℕ)
    (asked : List (Asked H)) (m : Memory R A) : Type 0 where
  pub targets : (site : ℕ) → site < sites →
      TargetHolds (Tests (binder_of site)) (m.known (binder_of site)) (m.target site) (last_at asked site)
  pub rings : (site : ℕ) → site < sites →
      RingHolds (Tests (binder_of site)) (m.known (binder_of site)) (m.ring site) (entered_at same binder_of asked site)
  pub rules : (binder : ℕ) → RulesHold (Tests binder) (m.known binder) (met_by same binder_of asked binder)

-- what is kept is the same, but for the order of the known rules
pub record HasMoved {R A : Type 0} (old new : Memory R A) : Type 0 where
  pub targets : (site : ℕ) → new.target site ≡ old.target site
  pub rings : (site : ℕ) → new.ring site ≡ old.ring site
  pub rules : (binder : ℕ) → IsPermutation (old.known binder) (new.known binder)

-- the word is that of the known rule with this index
abbrev pub HasWord : {R A : Type 0} → List (KnownRule R A) → ℕ → ℕ → Type 0
HasWord {R} {A} rules index word = (k : KnownRule R A) → Contains rules k → k.index ≡ index → word ≡ k.word

-- a known rule is chosen at this level, and this is its word
pub record Picks {R A : Type 0} (Passes : R → Type 0) (target : ℕ) (ring : List ℕ) (old new : List (KnownRule R A))
    (level : Level) (word : ℕ) : Type 0 where
  pub index : ℕ
  pub chooses : Chooses Passes old new (Some level) index
  pub tries : TriesInOrder Passes target ring old (Some level) index
  pub word_is : HasWord new index word
  pub apart : AreApart new

module _ {R A H : Type 0} (Tests : R → H → Type 0) (Passes : R → Type 0) (shape : H) where
  -- no known rule passes: one that was bound for the shape is published, and this is its word
  pub record Binds (old new : List (KnownRule R A)) (word : ℕ) : Type 0 where
    pub index : ℕ
    pub rule : R
    pub note : A
    pub tests : Tests rule shape
    pub none : All (λ k. ¬ Passes k.rule) old
    pub adds : AddsFirst old new index rule note
    pub word_is : HasWord new index word
    pub word_named : word ≢ 0
    pub apart : AreApart new

  -- how an operation was answered at a level: by a known rule, or by one that was bound
  abbrev pub Answers : ℕ → List ℕ → List (KnownRule R A) → List (KnownRule R A) → ℕ → Level → Type 0
  Answers target ring old new word Target = Picks Passes target ring old new Target word
  Answers target ring old new word Site = Picks Passes target ring old new Site word
  Answers target ring old new word Binder = Picks Passes target ring old new Binder word
  Answers target ring old new word Bind = Binds old new word

-- the rule passes on an operation exactly where it is for the operation's shape
abbrev pub Fits : {R H : Type 0} → (R → H → Type 0) → (R → Type 0) → H → Type 0
Fits {R} {H} Tests Passes shape =
    (rule : R) (other : H) → Tests rule other → (Passes rule → other ≡ shape) × (other ≡ shape → Passes rule)
