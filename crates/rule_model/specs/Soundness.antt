-- When a rule is sound: what it answers is what binding afresh gives.
use Rattle.std.specs.Prelude.{◌≡◌, ℕ, ◌+◌, ◌&&◌, Bool, true, false, not, IsTrue, List, [], ◌∷◌, length, take, remove, Option, None, Some}
use Rattle.std.specs.List.{AllByRecursion, list_all}
use Rattle.dyn_value.specs.declared.value.Value.{Value}
use Rattle.dyn_value.specs.declared.value.Value.TheVariants as value
use Rattle.dyn_value.specs.declared.outcome.Outcome.{Outcome}
use Rattle.dyn_value.specs.Outcomes.{at}
use Rattle.expr_tree.specs.declared.node.Node.{Node}
use Rattle.expr_tree.specs.declared.node.Node.TheVariants.{Append, Remove}
use Rattle.expr_tree.specs.Meanings.{State, answer_in, state_after, IsThere, is_plain}
use Rattle.expr_tree.specs.Trees.{root}
use Rattle.standard_binders.specs.declared.binder.Binder.{Binder}
use Rattle.standard_binders.specs.Binders.{is_on_members, operand_count_of}
use Rattle.standard_binders.specs.Functions.{Functions}
use Rattle.object_model.specs.Accesses.{Access, access_of}
use Rattle.object_model.specs.Members.{Members, AreMembers}
use Rattle.object_model.specs.Plain.{plain_step}
use Rattle.object_model.specs.Steps.{Step, step_by}
use Rattle.rule_model.specs.declared.claim.Claim.{Claim}
use Rattle.rule_model.specs.declared.claim.ClassClaim.{ClassClaim}
use Rattle.rule_model.specs.Claims.{ClassHolds, FunHolds, class_after}
use Rattle.rule_model.specs.States.{HasMembers}

-- the class that a node names
abbrev pub named_class : Node → Option ℕ
named_class (Append n a) = Some n
named_class (Remove p n) = Some n
named_class _ = None

-- the class after has one name more at the end, or is without that of the place
abbrev pub IsEven : List (List ℕ) → List (List ℕ) → Node → Type 0
IsEven names more (Append n a) = (take (length names) more ≡ names) × (length more ≡ length names + 1)
IsEven names more (Remove p n) = more ≡ remove names p
IsEven names more _ = Unit {0}

-- A body does to an object in this state, of these operands and the names of the class after, what a step does to its
-- members, and answers its outcome; the operands and places that its nodes name are there.
pub record Does (body : List Node) (operands : List Value) (more : List (List ℕ)) (s : State) (to : Step) : Type 0 where
  pub there : AllByRecursion (IsThere operands s.values) body
  pub even : IsEven s.names more (root body)
  pub state : HasMembers (state_after operands more s (root body)) to.members
  pub outcome : answer_in operands s (root body) ≡ to.outcome

-- A body leaves objects alone, and answers this; the operands that its nodes name are there.
pub record Answers (body : List Node) (operands : List Value) (s : State) (to : Outcome) : Type 0 where
  pub there : AllByRecursion (IsThere operands []) body
  pub plain : IsTrue (list_all is_plain body)
  pub outcome : answer_in operands s (root body) ≡ to

abbrev pub is_object : Value → Bool
is_object (value.Obj o) = true
is_object _ = false

-- whether the operation looks at no object: its target is none, or its binder is none of those on members
abbrev pub looks_at_none : Binder → List Value → Bool
looks_at_none b operands = not (is_on_members b && is_object (at operands 0))

-- the operands suit the binder: they are as many as it has, the target counted too
abbrev pub Suit : Binder → List Value → Type 0
Suit b operands = length operands ≡ operand_count_of b

-- A rule for a binder, by its test, its body and its claim, is sound: wherever its test is true of operands that suit
-- the binder and a state's class, and its claim holds, the body does what the operation does.
pub record IsSound (b : Binder) (test : List Value → ℕ → Bool) (body : List Node) (claim : Claim) : Type 0 where
  -- it passes on the class alone of which it claims something
  pub guarded : (c : ClassClaim) (operands : List Value) (class : ℕ) → claim.class ≡ Some c → test operands class ≡ true
      → class ≡ c.class
  -- the class that the body names is the claim's class after
  pub moves : class_after claim ≡ named_class (root body)
  -- of an operation on an object, on its members
  pub object : (s : State) (ms : Members) (more : List (List ℕ)) (o : ℕ) (arguments : List Value) (access : Access)
      → HasMembers s ms → AreMembers ms → access_of b arguments ≡ Some access
      → test (value.Obj o ∷ arguments) s.class ≡ true → ClassHolds claim s.names more
      → Does body (value.Obj o ∷ arguments) more s (step_by access ms)
  -- of an operation that looks at no object
  pub plain : (functions : Functions) (s : State) (operands : List Value)
      → looks_at_none b operands ≡ true → Suit b operands → test operands s.class ≡ true → FunHolds claim functions
      → Answers body operands s (plain_step functions b operands)
