-- What trees mean. As a test a tree is true or false; as a body it gives an outcome and a new state.
use Rattle.std.specs.Prelude.{ℕ, ◌-◌, ◌==◌, ◌&&◌, Bool, true, false, IsTrue, List, [], ◌∷◌, ◌++◌, Option, Some, None, length, nat_lt, slice_get, slice_set, remove, unwrap_or, encode_utf8_all}
use Rattle.std.specs.List.{list_all}
use Rattle.std.specs.Str.{bytes_eq}
use Rattle.dyn_value.specs.declared.value.Value.{Value}
use Rattle.dyn_value.specs.declared.value.Value.TheVariants as value
use Rattle.dyn_value.specs.declared.fault.Fault.TheVariants as fault
use Rattle.dyn_value.specs.declared.outcome.Outcome.{Outcome}
use Rattle.dyn_value.specs.declared.outcome.Outcome.TheVariants as outcome
use Rattle.dyn_value.specs.Conversions.{convert_of}
use Rattle.dyn_value.specs.Kinds.{kind_of, same_kind}
use Rattle.dyn_value.specs.Operations.{unary_of, binary_of, length_of, char_of}
use Rattle.dyn_value.specs.Outcomes.{at, outcome_of}
use Rattle.expr_tree.specs.declared.node.Node.{Node}
use Rattle.expr_tree.specs.declared.node.Node.TheVariants.{Param, Const, IsKind, IsFun, IsKey, LongKey, IsClass, Both, Unary, Binary, Convert, Length, CharAt, Read, Write, Append, Remove, Call, Make, Throw}
use Rattle.expr_tree.specs.InOrder.{in_order}
use Rattle.expr_tree.specs.Trees.{operands_of, places_of}

-- an object's class number, and its members' names and values in one order
pub record State : Type 0 where
  pub class : ℕ
  pub names : List (List ℕ)
  pub values : List Value

-- whether a value is the function of this number
abbrev pub is_fun : ℕ → Value → Bool
is_fun f (value.Fun g) = g == f
is_fun f _ = false

-- whether a value is this text
abbrev pub is_text : List ℕ → Value → Bool
is_text t (value.Text s) = bytes_eq s t
is_text t _ = false

-- whether a value is a text of more than 64 bytes
abbrev pub is_long : Value → Bool
is_long (value.Text s) = nat_lt 64 (length (encode_utf8_all s))
is_long _ = false

-- whether an operand is there and passes a test
abbrev pub passes_there : (Value → Bool) → Option Value → Bool
passes_there test (Some v) = test v
passes_there test None = false

-- whether a node is true, where those before it have these truth values
abbrev pub node_test : List Value → ℕ → List Bool → Node → Bool
node_test ops class before (Const (value.Bool b)) = b
node_test ops class before (IsKind a k) = passes_there (λ v. same_kind (kind_of v) k) (slice_get ops a)
node_test ops class before (IsFun a f) = passes_there (is_fun f) (slice_get ops a)
node_test ops class before (IsKey a t) = passes_there (is_text t) (slice_get ops a)
node_test ops class before (LongKey a) = passes_there is_long (slice_get ops a)
node_test ops class before (IsClass c) = class == c
node_test ops class before (Both a b) = unwrap_or (slice_get before a) false && unwrap_or (slice_get before b) false
node_test ops class before _ = false

-- the truth values of nodes, after those of the nodes before them
abbrev pub tests : List Value → ℕ → List Bool → List Node → List Bool
tests ops class = in_order (node_test ops class)

-- whether a tree is true as a test, of operands and a class number: whether its last node is
abbrev pub passes : List Node → List Value → ℕ → Bool
passes nodes ops class = unwrap_or (slice_get (tests ops class [] nodes) (length nodes - 1)) false

-- what a body with this root answers, of operands and a state; the other nodes are the root of no body
abbrev pub answer_in : List Value → State → Node → Outcome
answer_in ops s (Param a) = outcome.Value (at ops a)
answer_in ops s (Const v) = outcome.Value v
answer_in ops s (Unary op a) = outcome_of (unary_of op (at ops a))
answer_in ops s (Binary op a b) = outcome_of (binary_of op (at ops a) (at ops b))
answer_in ops s (Convert k a) = outcome_of (convert_of (at ops a) k)
answer_in ops s (Length a) = outcome_of (length_of (at ops a))
answer_in ops s (CharAt a b) = outcome_of (char_of (at ops a) (at ops b))
answer_in ops s (Read p) = outcome.Value (at s.values p)
answer_in ops s (Write p a) = outcome.Value value.Nil
answer_in ops s (Append c a) = outcome.Value value.Nil
answer_in ops s (Remove p c) = outcome.Value value.Nil
answer_in ops s (Call f) = outcome.Call f
answer_in ops s (Make f) = outcome.Make f
answer_in ops s (Throw f) = outcome.Fault f
answer_in ops s _ = outcome.Fault fault.NoOperator

-- the state after a body with this root, of operands, the names of the class that it names, and the state before
abbrev pub state_after : List Value → List (List ℕ) → State → Node → State
state_after ops names s (Write p a) = record { class = s.class; names = s.names; values = slice_set s.values p (at ops a) }
state_after ops names s (Append c a) = record { class = c; names = names; values = s.values ++ at ops a ∷ [] }
state_after ops names s (Remove p c) = record { class = c; names = names; values = remove s.values p }
state_after ops names s _ = s

-- the operands and places that a node names are there
abbrev pub IsThere : List Value → List Value → Node → Type 0
IsThere ops values n = IsTrue (list_all (λ a. nat_lt a (length ops)) (operands_of n) && list_all (λ p. nat_lt p (length values)) (places_of n))

-- whether a node neither reads nor changes an object's members
abbrev pub is_plain : Node → Bool
is_plain (Read p) = false
is_plain (Write p a) = false
is_plain (Append c a) = false
is_plain (Remove p c) = false
is_plain _ = true
