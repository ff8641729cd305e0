-- What passes know of the rules of a run's binders, and how the rule of an operation was chosen.
use Rattle.std.specs.Prelude.{◌≡◌, ◌∷◌, ◌++◌, ◌+◌, ◌==◌, ◌&&◌, ◌⊎◌, ℕ, Bool, false, List, [], Option, None, Some, not, slice_get}
use Rattle.std.specs.List.{list_any}
use Rattle.std.specs.List.Sorted.{IsPermutation}
use Rattle.std.specs.Option.{option_map}
use Rattle.dyn_value.specs.declared.value.Value.{Value}
use Rattle.binder_cache.specs.declared.cache.Cache.{Cache}
use Rattle.binder_cache.specs.Known.{KnownRule}
use Rattle.expando_class.specs.declared.table.ClassTable.{ClassTable}
use Rattle.expr_tree.specs.Meanings.{State, passes}
use Rattle.standard_binders.specs.declared.binder.Binder.{Binder as Named}
use Rattle.standard_binders.specs.Functions.{Functions}
use Rattle.object_model.specs.Members.{Members}
use Rattle.rule_model.specs.States.{HasMembers}
use Rattle.rule.specs.declared.claimed.Adopted.{Adopted}
use Rattle.rule.specs.declared.rule.Rule.{Rule}
use Rattle.rule.specs.Rules.{test_of}
use Rattle.known_rules.specs.declared.bound.BoundRule.{BoundRule}
use Rattle.known_rules.specs.declared.known.KnownRules.{KnownRules}
use Rattle.known_rules.specs.Adoptions.{Setting, setting}
use Rattle.known_rules.specs.Guarding.{IsAdoptedIn}
use Rattle.known_rules.specs.Knowledge.{IsChosen, published_in, rules_in, setting_of}
use Rattle.dlr_engine.specs.declared.answer.Level.{Level}
use Rattle.dlr_engine.specs.declared.answer.Level.TheVariants.{Bind, Binder}

-- rules that a pass knows of one binder, most recent first
abbrev pub KnownList : Type 0
KnownList = List (KnownRule Rule Adopted)

-- where the rules of a binder are known, if there are a cache and a binder
abbrev pub setting_with : Functions → ClassTable → Option (Cache Rule) → Option Named → Option Setting
setting_with functions table (Some cache) (Some b) = Some (setting cache b functions table)
setting_with functions table _ _ = None

-- for each binder there is what is known of its rules
abbrev pub KnowsEach : List (Cache Rule) → List Named → Functions → ClassTable → List KnownRules → Type 0
KnowsEach caches binders functions table known =
    (n : ℕ) → option_map setting_of (slice_get known n) ≡ setting_with functions table (slice_get caches n) (slice_get binders n)

-- the rules that are known, if there is what knows them
abbrev pub rules_of : Option KnownRules → KnownList
rules_of (Some k) = rules_in k
rules_of None = []

-- how many of them were published
abbrev pub published_by : Option KnownRules → ℕ
published_by (Some k) = published_in k
published_by None = 0

-- of no binder a rule is known or was published
abbrev pub KnowsNone : List KnownRules → Type 0
KnowsNone known = (n : ℕ) → (rules_of (slice_get known n) ≡ []) × (published_by (slice_get known n) ≡ 0)

-- a rule that was bound is one of this binder, and adopted
abbrev pub IsOwnRule : Functions → ClassTable → Named → BoundRule → Type 0
IsOwnRule functions table b bound = IsAdoptedIn b functions table bound.rule bound.adopted

-- the level at which an operation was answered: by a known rule, or by one that was bound
abbrev pub level_of : Option BoundRule → Level
level_of (Some bound) = Bind
level_of None = Binder

-- A known rule passes on the operands and a class of this number where the level is that of the binder, and none passes
-- where a rule was bound.
abbrev pub IsChosenFor : Level → KnownList → List Value → ℕ → Type 0
IsChosenFor Binder rules operands class = (index : ℕ) × IsChosen rules operands class (Some index)
IsChosenFor Bind rules operands class = IsChosen rules operands class None
IsChosenFor _ rules operands class = ⊥

-- a rule was so chosen on an object with these members, by its class
pub record IsChosenOn (members : Members) (Chosen : ℕ → Type 0) : Type 0 where
  pub state : State
  pub has : HasMembers state members
  pub chosen : Chosen state.class

-- More rules are known, in whatever order: those of other passes that were learned, where the run has others.
pub record ComesToKnow (others : Bool) (old new : KnownList) : Type 0 where
  pub learned : KnownList
  pub rules : IsPermutation (learned ++ old) new
  pub alone : others ≡ false → learned ≡ []

-- what a pass has of the rules of one binder: those that it knows, how many it published, and how many rules of all
-- binders it dropped for want of memory
pub record Kept : Type 0 where
  pub rules : KnownList
  pub published : ℕ
  pub dropped : ℕ

abbrev pub kept_with : KnownList → ℕ → ℕ → Kept
kept_with rules published dropped = record { rules = rules; published = published; dropped = dropped }

abbrev pub kept_in : KnownRules → ℕ → Kept
kept_in k dropped = kept_with (rules_in k) (published_in k) dropped

-- one rule more was published, which is known before all others
pub record Publishes (old new : Kept) : Type 0 where
  pub rule : KnownRule Rule Adopted
  pub is : new ≡ kept_with (rule ∷ old.rules) (old.published + 1) old.dropped

-- a rule was dropped: memory was refused, which is counted, or as many were published as may be
abbrev pub Drops : Kept → Kept → Type 0
Drops old new =
    (new ≡ kept_with old.rules old.published (old.dropped + 1)) ⊎ ((old.published ≡ 64) × (new ≡ old))

-- a rule that was bound was published or dropped
abbrev pub Leaves : Level → Kept → Kept → Type 0
Leaves Bind old new = Publishes old new ⊎ Drops old new
Leaves _ old new = new ≡ old

-- How an operation used the rules of its binder: it chose among all that were known before, and those of other passes
-- that it learned; a rule that it bound was then published or dropped.
pub record Uses (others : Bool) (level : Level) (old new : Kept) (Chosen : KnownList → Type 0) : Type 0 where
  pub knew : KnownList
  pub among : ComesToKnow others old.rules knew
  pub chosen : Chosen knew
  pub leaves : Leaves level (kept_with knew old.published old.dropped) new

-- memory was refused before anything was published or dropped
pub record LearnsAtMost (others : Bool) (old new : Kept) : Type 0 where
  pub rules : ComesToKnow others old.rules new.rules
  pub published : new.published ≡ old.published
  pub dropped : new.dropped ≡ old.dropped

-- a known rule with this index passes, or none passes, as a test
abbrev pub is_chosen : KnownList → List Value → ℕ → Option ℕ → Bool
is_chosen rules operands class (Some index) = list_any (λ k. (k.index == index) && passes (test_of k.rule) operands class) rules
is_chosen rules operands class None = not (list_any (λ k. passes (test_of k.rule) operands class) rules)
