-- The shapes of a run's operations. The names of an object's members are those that the operations before leave, so
-- that the operations alone, with their sites, determine the levels. Lists of operations have the latest first.
use Rattle.std.specs.Prelude.{◌≡◌, ◌≢◌, ℕ, ◌<◌, ◌==◌, All, if◌then◌else◌, List, [], ◌∷◌, get_or, length, map, replicate, reverse, Option, Some, None}
use Rattle.answered_operations.specs.declared.operation.AnsweredOperation.{AnsweredOperation}
use Rattle.standard_binders.specs.declared.binder.Binder.{Binder}
use Rattle.object_model.specs.Members.{Members, member_name}
use Rattle.object_model.specs.Steps.{OnObject, on_object}
use Rattle.object_model.specs.Journals.{left_by, step_of}
use Rattle.rule.specs.declared.claimed.Adopted.{Adopted}
use Rattle.rule.specs.declared.rule.Rule.{Rule}
use Rattle.rule_model.specs.ClassMaps.{ClassMap}
use Rattle.rule_model.specs.Soundness.{Suit}
use Rattle.call_site.specs.declared.choice.Level.{Level}
use Rattle.call_site.specs.Settled.{Settles}
use Rattle.cache_levels.specs.Levels.{Asked, Counts, levels_of, MeetsFew}
use Rattle.cache_levels.specs.Memories.{Answers, Memory, Remembers}
use Rattle.cache_levels.specs.RuleShapes.{IsFor, PassesOn, binder_in, shape_of}
use Rattle.cache_levels.specs.Shapes.{Shape, same_shape}

-- the number of a site's binder, by those of all sites
abbrev pub number_at : List ℕ → ℕ → ℕ
number_at sites site = get_or sites site 0

-- the members of an object after one more operation, of the binder of this number among these
abbrev pub members_by : List Binder → Option OnObject → ℕ → ℕ → Members → Members
members_by binders None number object ms = ms
members_by binders (Some on) number object ms =
    if on.object == object then left_by ms (step_of binders ms number on.operands) else ms

-- by the binders of a script, and the number of each site's binder
module _ (binders : List Binder) (sites : List ℕ) where
  -- the operation on an object that this is, if it is one; no other looks at an object
  abbrev pub target_of : AnsweredOperation → Option OnObject
  target_of o = on_object (binder_in binders (number_at sites o.site)) o.operands

  -- the members of an object after these operations
  abbrev pub members_left : List AnsweredOperation → ℕ → Members
  members_left [] object = []
  members_left (o ∷ earlier) object =
      members_by binders (target_of o) (number_at sites o.site) object (members_left earlier object)

  abbrev pub names_by : Option OnObject → List AnsweredOperation → List (List ℕ)
  names_by None earlier = []
  names_by (Some on) earlier = map member_name (members_left earlier on.object)

  -- the names of the members of an operation's object, after the operations before; none where it looks at no object
  abbrev pub names_before : List AnsweredOperation → AnsweredOperation → List (List ℕ)
  names_before earlier o = names_by (target_of o) earlier

  -- the shape of an operation after these
  abbrev pub shape_after : List AnsweredOperation → AnsweredOperation → Shape
  shape_after earlier o = shape_of binders (number_at sites o.site) o.operands (names_before earlier o)

  abbrev pub asked_after : List AnsweredOperation → AnsweredOperation → Asked Shape
  asked_after earlier o = record { site = o.site; shape = shape_after earlier o }

  -- the operations with their shapes
  abbrev pub shapes_of : List AnsweredOperation → List (Asked Shape)
  shapes_of [] = []
  shapes_of (o ∷ earlier) = asked_after earlier o ∷ shapes_of earlier

  -- Of a list that has the earliest first: the members that it leaves of an object.
  abbrev pub members_in : List AnsweredOperation → ℕ → Members
  members_in operations object = members_left (reverse operations) object

  -- the names of the members of an operation's object after these operations, and the operation's shape
  abbrev pub names_on : List AnsweredOperation → AnsweredOperation → List (List ℕ)
  names_on operations o = names_before (reverse operations) o

  abbrev pub shape_on : List AnsweredOperation → AnsweredOperation → Shape
  shape_on operations o = shape_after (reverse operations) o

  -- the operations with their shapes, the latest first
  abbrev pub shapes_in : List AnsweredOperation → List (Asked Shape)
  shapes_in operations = shapes_of (reverse operations)

  -- how many of them are answered at each level
  abbrev pub run_levels : List AnsweredOperation → Counts
  run_levels operations = levels_of same_shape (number_at sites) (shapes_in operations)

  -- no binder met more than 64 shapes
  abbrev pub HasFewShapes : List AnsweredOperation → Type 0
  HasFewShapes operations = MeetsFew same_shape (number_at sites) (shapes_in operations)

  -- what a pass keeps is what these operations leave
  abbrev pub RemembersRun : ClassMap → List AnsweredOperation → Memory Rule Adopted → Type 0
  RemembersRun classes operations m =
      Remembers (IsFor classes binders) same_shape (number_at sites) (length sites) (shapes_in operations) m

  -- A run's next operation looks at the members of its object, which has a class of the map.
  pub record IsAsked (classes : ClassMap) (earlier : List AnsweredOperation) (o : AnsweredOperation) (class : ℕ)
      : Type 0 where
    pub near : o.site < length sites
    pub suit : Suit (binder_in binders (number_at sites o.site)) o.operands
    pub shown : classes class ≡ Some (names_on earlier o)

  -- No known rule passes on it.
  abbrev pub HasNone : AnsweredOperation → ℕ → Memory Rule Adopted → Type 0
  HasNone o class m = All (λ k. ¬ PassesOn o.operands class k.rule) (m.known (number_at sites o.site))

  -- It was answered at a level: by a rule with some word, with which its site was settled; other binders' rules stay.
  pub record IsAnsweredAt (classes : ClassMap) (earlier : List AnsweredOperation) (o : AnsweredOperation) (class : ℕ)
      (old new : Memory Rule Adopted) (level : Level) : Type 0 where
    pub word : ℕ
    pub answers : let n = number_at sites o.site in
        Answers (IsFor classes binders n) (PassesOn o.operands class) (shape_on earlier o)
        (old.target o.site) (old.ring o.site) (old.known n) (new.known n) word level
    pub settles : Settles (length sites) o.site word level old.target new.target old.ring new.ring
    pub others : (other : ℕ) → other ≢ number_at sites o.site → new.known other ≡ old.known other

  -- What a lone pass keeps that dropped no rule: while no binder met more than 64 shapes, its counts are those of these
  -- operations, and what it keeps is what they leave.
  abbrev pub KeepsRun : ClassMap → List AnsweredOperation → Counts → Memory Rule Adopted → Type 0
  KeepsRun classes operations counts m = HasFewShapes operations →
      (counts ≡ run_levels operations) × ∥ RemembersRun classes operations m ∥₁

-- no word was written, and no rule is known
pub record KeepsNothing (m : Memory Rule Adopted) : Type 0 where
  pub targets : (site : ℕ) → m.target site ≡ 0
  pub rings : (site : ℕ) → m.ring site ≡ replicate 10 0
  pub rules : (binder : ℕ) → m.known binder ≡ []
