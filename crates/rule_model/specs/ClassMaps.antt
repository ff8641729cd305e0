-- What a sound rule does wherever its claim holds under a map of classes.
use Rattle.std.specs.Prelude.{◌≡◌, ℕ, true, Bool, List, ◌∷◌, Option, Some, unwrap_or}
use Rattle.dyn_value.specs.declared.value.Value.{Value}
use Rattle.dyn_value.specs.declared.value.Value.TheVariants as value
use Rattle.dyn_value.specs.declared.outcome.Outcome.{Outcome}
use Rattle.expr_tree.specs.declared.node.Node.{Node}
use Rattle.expr_tree.specs.Meanings.{State, state_after}
use Rattle.expr_tree.specs.Trees.{root}
use Rattle.standard_binders.specs.declared.binder.Binder.{Binder}
use Rattle.standard_binders.specs.Functions.{Functions}
use Rattle.object_model.specs.Accesses.{Access, access_of}
use Rattle.object_model.specs.Members.{Members, AreMembers}
use Rattle.object_model.specs.Plain.{plain_step}
use Rattle.object_model.specs.Steps.{Step, step_by}
use Rattle.rule_model.specs.declared.claim.Claim.{Claim}
use Rattle.rule_model.specs.declared.claim.ClassClaim.{ClassClaim}
use Rattle.rule_model.specs.Claims.{ListHolds, FunHolds, class_after}
use Rattle.rule_model.specs.Soundness.{Does, Answers, Suit, looks_at_none}
use Rattle.rule_model.specs.States.{HasMembers}

-- the names of classes, by their numbers
abbrev pub ClassMap : Type 0
ClassMap = ℕ → Option (List (List ℕ))

-- the claim on a class holds under the map: the class is in it, and so is the class after, where one is named
pub record ClassHoldsIn (classes : ClassMap) (c : ClassClaim) : Type 0 where
  pub names : List (List ℕ)
  pub more : List (List ℕ)
  pub class : classes c.class ≡ Some names
  pub after : (n : ℕ) → c.after ≡ Some n → classes n ≡ Some more
  pub lists : ListHolds c names more

-- the claim holds under the map and these functions
pub record HoldsIn (classes : ClassMap) (functions : Functions) (claim : Claim) : Type 0 where
  pub class : (c : ClassClaim) → claim.class ≡ Some c → ClassHoldsIn classes c
  pub fun : FunHolds claim functions

-- The body does to an object in this state what the step does. The object is then of the class after, where the claim
-- names one, and else of its own; its names are those of that class.
pub record DoesIn (classes : ClassMap) (body : List Node) (claim : Claim) (operands : List Value) (s : State) (to : Step)
    : Type 0 where
  pub more : List (List ℕ)
  pub does : Does body operands more s to
  pub class : (state_after operands more s (root body)).class ≡ unwrap_or (class_after claim) s.class
  pub names : classes (state_after operands more s (root body)).class
      ≡ Some (state_after operands more s (root body)).names

-- The body answers this, and leaves the object of this state alone.
pub record AnswersIn (body : List Node) (operands : List Value) (s : State) (to : Outcome) : Type 0 where
  pub answers : Answers body operands s to
  pub stays : (more : List (List ℕ)) → state_after operands more s (root body) ≡ s

-- Whatever the classes and the functions are under which the claim holds: wherever the test is true of operands that
-- suit the binder and of the class of a state whose names are those of its class, the body does what the operation does.
pub record IsSoundIn (b : Binder) (test : List Value → ℕ → Bool) (body : List Node) (claim : Claim) : Type 0 where
  pub object : (classes : ClassMap) (functions : Functions) (s : State) (ms : Members) (o : ℕ) (arguments : List Value)
      (access : Access) → HoldsIn classes functions claim → classes s.class ≡ Some s.names → HasMembers s ms → AreMembers ms
      → access_of b arguments ≡ Some access → test (value.Obj o ∷ arguments) s.class ≡ true
      → DoesIn classes body claim (value.Obj o ∷ arguments) s (step_by access ms)
  pub plain : (classes : ClassMap) (functions : Functions) (s : State) (operands : List Value)
      → HoldsIn classes functions claim → classes s.class ≡ Some s.names
      → looks_at_none b operands ≡ true → Suit b operands → test operands s.class ≡ true
      → AnswersIn body operands s (plain_step functions b operands)
