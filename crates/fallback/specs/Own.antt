-- What the language itself answers where it looks at no member of an object, by what is known of the operands: one row
-- for each operation.
use Rattle.std.specs.Prelude.{◌≡◌, ℕ, codes, Bool, true, false, ◌&&◌, if◌then◌else◌, IsTrue, List, length, Option, None, Some, unwrap_or, slice_get}
use Rattle.std.specs.Str.{bytes_eq}
use Rattle.dyn_value.specs.declared.fault.Fault.TheVariants.{NoMember, NoIndex, NotIndexable, NotCallable, NotCreatable, NoOperator, NoConvert}
use Rattle.dyn_value.specs.declared.operator.UnOp.{UnOp}
use Rattle.dyn_value.specs.declared.operator.UnOp.TheVariants as unary
use Rattle.dyn_value.specs.declared.operator.BinOp.{BinOp}
use Rattle.dyn_value.specs.declared.operator.BinOp.TheVariants as op
use Rattle.dyn_value.specs.declared.outcome.Outcome.{Outcome}
use Rattle.dyn_value.specs.declared.outcome.Outcome.TheVariants as outcome
use Rattle.dyn_value.specs.declared.value.Kind.{Kind}
use Rattle.dyn_value.specs.declared.value.Kind.TheVariants as kind
use Rattle.dyn_value.specs.declared.value.Value.{Value}
use Rattle.dyn_value.specs.declared.value.Value.TheVariants as value
use Rattle.dyn_value.specs.Kinds.{same_kind}
use Rattle.expr_tree.specs.declared.node.Node.{Node}
use Rattle.expr_tree.specs.declared.node.Node.TheVariants.{Const, Unary, Binary, Convert, Length, CharAt, Call, Make, Throw}
use Rattle.object_model.specs.Plain.{called}
use Rattle.meta_object.specs.Metas.{IsValueFor, is_callable}
use Rattle.rule_model.specs.declared.claim.Claim.{Claim}
use Rattle.rule_model.specs.Tests.{Known}
use Rattle.standard_binders.specs.Arguments.{Arguments}
use Rattle.standard_binders.specs.Binders.{is_on_members, operand_count_of}
use Rattle.standard_binders.specs.Functions.{Functions, parameters_of}
use Rattle.standard_binders.specs.declared.binder.Binder.{Binder}
use Rattle.standard_binders.specs.declared.binder.Binder.TheVariants as binder

-- whether an operator with one operand is one on values of a kind; on all others it gives NoOperator
abbrev pub is_unary_on : UnOp → Kind → Bool
is_unary_on unary.Negate kind.Int = true
is_unary_on unary.Not kind.Nil = true
is_unary_on unary.Not kind.Bool = true
is_unary_on unary.IsTrue kind.Nil = true
is_unary_on unary.IsTrue kind.Bool = true
is_unary_on _ _ = false

-- two numbers, and two texts
abbrev pub are_numbers : Kind → Kind → Bool
are_numbers kind.Int kind.Int = true
are_numbers _ _ = false

abbrev pub are_ordered : Kind → Kind → Bool
are_ordered kind.Int kind.Int = true
are_ordered kind.Text kind.Text = true
are_ordered _ _ = false

abbrev pub are_truths : Kind → Kind → Bool
are_truths kind.Bool kind.Bool = true
are_truths _ _ = false

-- whether an operator with two operands is one on values of these kinds; on all others it gives NoOperator
abbrev pub is_binary_on : BinOp → Kind → Kind → Bool
is_binary_on op.Add j k = are_ordered j k
is_binary_on op.Subtract j k = are_numbers j k
is_binary_on op.Multiply j k = are_numbers j k
is_binary_on op.Divide j k = are_numbers j k
is_binary_on op.Modulo j k = are_numbers j k
is_binary_on op.Equal j k = true
is_binary_on op.NotEqual j k = true
is_binary_on op.LessThan j k = are_ordered j k
is_binary_on op.LessThanOrEqual j k = are_ordered j k
is_binary_on op.GreaterThan j k = are_ordered j k
is_binary_on op.GreaterThanOrEqual j k = are_ordered j k
is_binary_on op.And j k = are_truths j k
is_binary_on op.Or j k = are_truths j k

-- whether values of a kind may be converted to another; all others give NoConvert
abbrev pub is_convertible : Kind → Kind → Bool
is_convertible k kind.Text = true
is_convertible kind.Bool kind.Int = true
is_convertible kind.Int kind.Int = true
is_convertible kind.Text kind.Int = true
is_convertible kind.Nil kind.Bool = true
is_convertible kind.Bool kind.Bool = true
is_convertible kind.Int kind.Bool = true
is_convertible k to = same_kind k to

abbrev pub unary_node : UnOp → Kind → Node
unary_node o k = if is_unary_on o k then Unary o 0 else Throw NoOperator

abbrev pub binary_node : BinOp → Kind → Kind → Node
binary_node o j k = if is_binary_on o j k then Binary o 0 1 else Throw NoOperator

abbrev pub convert_node : Kind → Kind → Node
convert_node k to = if is_convertible k to then Convert to 0 else Throw NoConvert

-- a text has the member `length`; all other members of a value that is no object are missing
abbrev pub is_length : List ℕ → Kind → Bool
is_length name k = same_kind k kind.Text && bytes_eq name (codes "length")

abbrev pub member_node : List ℕ → Kind → Node
member_node name k = if is_length name k then Length 0 else Throw (NoMember name)

-- a text is read at a number's place
abbrev pub char_node : Kind → Node
char_node key = if same_kind key kind.Int then CharAt 0 1 else Throw NoIndex

-- no other value that is no object is indexed
abbrev pub index_node : Kind → Kind → Node
index_node k key = if same_kind k kind.Text then char_node key else Throw (NotIndexable k)

-- the node that gives an outcome whatever the operands
abbrev pub node_giving : Outcome → Node
node_giving (outcome.Value v) = Const v
node_giving (outcome.Call f) = Call f
node_giving (outcome.Make f) = Make f
node_giving (outcome.Fault f) = Throw f

-- a function is called
abbrev pub invoke_node : Functions → Arguments → Kind → Option Value → Node
invoke_node functions a k (Some (value.Fun f)) = node_giving (called (parameters_of functions f) 0 a (outcome.Call f))
invoke_node functions a k _ = Throw (NotCallable k)

-- an object is made by a function
abbrev pub create_node : Functions → Arguments → Kind → Option Value → Node
create_node functions a k (Some (value.Fun f)) = node_giving (called (parameters_of functions f) 1 a (outcome.Make f))
create_node functions a k _ = Throw (NotCreatable k)

-- what is known of no operand
abbrev pub nothing_known : Known
nothing_known = record { kind = kind.Nil; value = None; class = None }

-- what is known of the operand of a number
abbrev pub known_at : List Known → ℕ → Known
known_at knowns i = unwrap_or (slice_get knowns i) nothing_known

-- what the language answers, by what is known of the operands, the target first
abbrev pub own_node : Functions → Binder → List Known → Node
own_node functions (binder.GetMember name ignore_case) knowns = member_node name (known_at knowns 0).kind
own_node functions (binder.SetMember name ignore_case) knowns = Throw (NoMember name)
own_node functions (binder.DeleteMember name ignore_case) knowns = Throw (NoMember name)
own_node functions binder.GetIndex knowns = index_node (known_at knowns 0).kind (known_at knowns 1).kind
own_node functions binder.SetIndex knowns = Throw (NotIndexable (known_at knowns 0).kind)
own_node functions binder.DeleteIndex knowns = Throw (NotIndexable (known_at knowns 0).kind)
own_node functions (binder.Invoke info) knowns =
    invoke_node functions info (known_at knowns 0).kind (known_at knowns 0).value
own_node functions (binder.InvokeMember name ignore_case info) knowns = Throw (NoMember name)
own_node functions (binder.CreateInstance info) knowns =
    create_node functions info (known_at knowns 0).kind (known_at knowns 0).value
own_node functions (binder.Convert to) knowns = convert_node (known_at knowns 0).kind to
own_node functions (binder.UnaryOperation o) knowns = unary_node o (known_at knowns 0).kind
own_node functions (binder.BinaryOperation o) knowns = binary_node o (known_at knowns 0).kind (known_at knowns 1).kind

-- of a function that is known, its parameters are claimed; of a class nothing is
abbrev pub called_claim : Functions → Option Value → Claim
called_claim functions (Some (value.Fun f)) =
    record { class = None; fun = Some (record { number = f; params = parameters_of functions f }) }
called_claim functions _ = record { class = None; fun = None }

-- what the answer rests on: where the target is called or makes an object, on the parameters of the function that it is
abbrev pub own_claim : Functions → List Known → Binder → Claim
own_claim functions knowns (binder.Invoke info) = called_claim functions (known_at knowns 0).value
own_claim functions knowns (binder.CreateInstance info) = called_claim functions (known_at knowns 0).value
own_claim functions knowns _ = record { class = None; fun = None }

-- it is no object, and no class of it is looked at
pub record IsOther (k : Known) : Type 0 where
  pub kind : same_kind k.kind kind.Obj ≡ false
  pub class : k.class ≡ None

-- Something is known of each operand of the binder, and of the target of an operation on members that it is no object.
-- A value that is there has its kind, and is there of functions and texts; the functions are those of the language.
pub record AreKnown (functions : Functions) (b : Binder) (knowns : List Known) : Type 0 where
  pub count : length knowns ≡ operand_count_of b
  pub other : (k : Known) → is_on_members b ≡ true → slice_get knowns 0 ≡ Some k → IsOther k
  pub valued : (i : ℕ) (k : Known) → slice_get knowns i ≡ Some k → IsValueFor k.kind k.value
  pub callable : (i : ℕ) (k : Known) → slice_get knowns i ≡ Some k → IsTrue (is_callable functions k.value)
