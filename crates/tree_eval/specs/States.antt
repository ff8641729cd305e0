-- Bodies over the state of an object: what is prepared for one, and to which class it moves the object.
use Rattle.std.specs.Prelude.{◌≡◌, ◌≤◌, ℕ, List, [], ◌∷◌, ◌++◌, Option, Some, None, ⊤, IsSomeAnd, remove}
use Rattle.dyn_value.specs.declared.value.Value.{Value}
use Rattle.dyn_value.specs.declared.outcome.Outcome.{Outcome}
use Rattle.dyn_value.specs.Outcomes.{at}
use Rattle.expr_tree.specs.declared.node.Node.{Node}
use Rattle.expr_tree.specs.declared.node.Node.TheVariants.{Write, Append, Remove}
use Rattle.expr_tree.specs.Meanings.{State, answer_in, IsThere}
use Rattle.expando_class.specs.declared.class.ClassRef.{ClassRef}
use Rattle.expando_class.specs.Class.{number_of, names_of}
use Rattle.expando_object.specs.declared.state.ObjState.{ObjState}
use Rattle.expando_object.specs.State.{class_in, names_in, values_in, spare_in}
use Rattle.tree_eval.specs.declared.prepared.Prepared.{Prepared}

-- the state of an object, as the meaning of trees speaks of it
abbrev pub state_of : ObjState → State
state_of s = record { class = number_of (class_in s); names = names_in s; values = values_in s }

-- the value that a body with this root writes, of these operands
abbrev pub value_written : List Value → Node → Option Value
value_written ops (Write p a) = Some (at ops a)
value_written ops (Append c a) = Some (at ops a)
value_written ops _ = None

-- there is room for one more value where the node appends
abbrev pub HasRoom : ObjState → Node → Type 0
HasRoom s (Append c a) = 1 ≤ spare_in s
HasRoom s _ = ⊤

-- what will be answered
abbrev pub answer_kept : Prepared → Outcome
answer_kept p = p.outcome

-- what is kept was made for a body with this root, of these operands and this state
pub record IsPrepared (p : Prepared) (ops : List Value) (s : ObjState) (n : Node) : Type 0 where
  pub there : IsThere ops (values_in s) n
  pub answer : answer_kept p ≡ answer_in ops (state_of s) n
  pub written : p.written ≡ value_written ops n
  pub room : HasRoom s n

-- the class to which a body with this root moves an object with these names: the one that an Append or a Remove names
abbrev pub IsClassAfter : Option ClassRef → List (List ℕ) → Node → Type 0
IsClassAfter after names (Append c a) = IsSomeAnd after (λ class. (number_of class ≡ c) × ((name : List ℕ) × (names_of class ≡ names ++ name ∷ [])))
IsClassAfter after names (Remove p c) = IsSomeAnd after (λ class. (number_of class ≡ c) × (names_of class ≡ remove names p))
IsClassAfter after names _ = after ≡ None

-- the names of that class
abbrev pub names_after : Option ClassRef → List (List ℕ)
names_after (Some class) = names_of class
names_after None = []
