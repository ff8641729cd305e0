-- The nodes of the language's own answers: each gives an answer by itself, and moves no object to another class.
use Rattle.std.proofs.Common.{◌≡◌, Bool, true, false, List, Option, None, Some, IsTrue, refl, cond}
use Rattle.dyn_value.specs.declared.outcome.Outcome.{Outcome}
use Rattle.dyn_value.specs.declared.outcome.Outcome.TheVariants as outcome
use Rattle.dyn_value.specs.declared.value.Kind.{Kind}
use Rattle.dyn_value.specs.declared.value.Kind.TheVariants as kind
use Rattle.dyn_value.specs.declared.value.Value.{Value}
use Rattle.dyn_value.specs.declared.value.Value.TheVariants as value
use Rattle.dyn_value.specs.Kinds.{same_kind}
use Rattle.expr_tree.specs.declared.node.Node.{Node}
use Rattle.expr_tree.specs.Trees.{answers, fits}
use Rattle.object_model.specs.Plain.{called}
use Rattle.rule_model.specs.Soundness.{named_class}
use Rattle.rule_model.specs.Tests.{Known}
use Rattle.standard_binders.specs.Arguments.{Arguments}
use Rattle.standard_binders.specs.declared.binder.Binder.{Binder}
use Rattle.standard_binders.specs.declared.binder.Binder.TheVariants as binder
use Rattle.standard_binders.specs.Functions.{Functions, parameters_of}
use Rattle.fallback.specs.Own.{char_node, create_node, invoke_node, is_binary_on, is_convertible, is_length, is_unary_on, known_at, node_giving, own_node}

-- a node that is a body by itself and names no class
record IsOwn (n : Node) : Type 0 where
  pub answering : IsTrue (answers n)
  pub fitting : IsTrue (fits 0 n)
  pub unmoved : named_class n ≡ None

simple : (n : Node) → answers n ≡ true → fits 0 n ≡ true → named_class n ≡ None → IsOwn n
simple n a f m = record { answering = a; fitting = f; unmoved = m }

either : (on : Bool) (n m : Node) → IsOwn n → IsOwn m → IsOwn (cond on n m)
either true n m one other = one
either false n m one other = other

giving : (to : Outcome) → IsOwn (node_giving to)
giving (outcome.Value v) = simple _ refl refl refl
giving (outcome.Call f) = simple _ refl refl refl
giving (outcome.Make f) = simple _ refl refl refl
giving (outcome.Fault f) = simple _ refl refl refl

invoking : (functions : Functions) (a : Arguments) (k : Kind) (v : Option Value) → IsOwn (invoke_node functions a k v)
invoking functions a k (Some (value.Fun f)) = giving (called (parameters_of functions f) 0 a (outcome.Call f))
invoking functions a k _ = simple _ refl refl refl

creating : (functions : Functions) (a : Arguments) (k : Kind) (v : Option Value) → IsOwn (create_node functions a k v)
creating functions a k (Some (value.Fun f)) = giving (called (parameters_of functions f) 1 a (outcome.Make f))
creating functions a k _ = simple _ refl refl refl

is_own : (functions : Functions) (b : Binder) (knowns : List Known) → IsOwn (own_node functions b knowns)
is_own functions (binder.GetMember name ic) knowns = either (is_length name (known_at knowns 0).kind) _ _ (simple _ refl refl refl) (simple _ refl refl refl)
is_own functions (binder.SetMember name ic) knowns = simple _ refl refl refl
is_own functions (binder.DeleteMember name ic) knowns = simple _ refl refl refl
is_own functions binder.GetIndex knowns =
    either (same_kind (known_at knowns 0).kind kind.Text) (char_node (known_at knowns 1).kind) _
    (either (same_kind (known_at knowns 1).kind kind.Int) _ _ (simple _ refl refl refl) (simple _ refl refl refl)) (simple _ refl refl refl)
is_own functions binder.SetIndex knowns = simple _ refl refl refl
is_own functions binder.DeleteIndex knowns = simple _ refl refl refl
is_own functions (binder.Invoke info) knowns = invoking functions info (known_at knowns 0).kind (known_at knowns 0).value
is_own functions (binder.InvokeMember name ic info) knowns = simple _ refl refl refl
is_own functions (binder.CreateInstance info) knowns = creating functions info (known_at knowns 0).kind (known_at knowns 0).value
is_own functions (binder.Convert to) knowns = either (is_convertible (known_at knowns 0).kind to) _ _ (simple _ refl refl refl) (simple _ refl refl refl)
is_own functions (binder.UnaryOperation o) knowns = either (is_unary_on o (known_at knowns 0).kind) _ _ (simple _ refl refl refl) (simple _ refl refl refl)
is_own functions (binder.BinaryOperation o) knowns = either (is_binary_on o (known_at knowns 0).kind (known_at knowns 1).kind) _ _ (simple _ refl refl refl) (simple _ refl refl refl)

pub own_answers : (functions : Functions) (b : Binder) (knowns : List Known) → IsTrue (answers (own_node functions b knowns))
own_answers functions b knowns = (is_own functions b knowns).answering

pub own_fits : (functions : Functions) (b : Binder) (knowns : List Known) → IsTrue (fits 0 (own_node functions b knowns))
own_fits functions b knowns = (is_own functions b knowns).fitting

pub own_moves : (functions : Functions) (b : Binder) (knowns : List Known) → named_class (own_node functions b knowns) ≡ None
own_moves functions b knowns = (is_own functions b knowns).unmoved
