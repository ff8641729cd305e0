-- What metaobjects describe.
use Rattle.std.specs.Prelude.{◌≡◌, ℕ, Bool, true, false, List, [], ◌∷◌, length, nat_le, slice_get, IsTrue, Option, None, Some, ⊤}
use Rattle.std.specs.Option.{option_map}
use Rattle.dyn_value.specs.declared.value.Kind.{Kind}
use Rattle.dyn_value.specs.declared.value.Kind.TheVariants as kind
use Rattle.dyn_value.specs.declared.value.Value.{Value}
use Rattle.dyn_value.specs.declared.value.Value.TheVariants as value
use Rattle.dyn_value.specs.Kinds.{kind_of}
use Rattle.expando_class.specs.declared.class.ClassRef.{ClassRef}
use Rattle.expando_class.specs.declared.pass.ClassPass.{ClassPass}
use Rattle.expando_class.specs.declared.table.ClassTable.{ClassTable}
use Rattle.expando_class.specs.Class.{number_of, IsClassOf}
use Rattle.expando_class.specs.Pass.{IsPassOf}
use Rattle.standard_binders.specs.declared.binder.Binder.{Binder}
use Rattle.standard_binders.specs.declared.binder.Binder.TheVariants as binder
use Rattle.standard_binders.specs.Binders.{is_on_members, operand_count_of}
use Rattle.standard_binders.specs.Functions.{Functions}
use Rattle.object_model.specs.Accesses.{is_key}
use Rattle.rule_model.specs.Tests.{Known, known_value}
use Rattle.meta_object.specs.declared.meta.MetaObject.{MetaObject}
use Rattle.meta_object.specs.declared.meta.Shape.{Shape}
use Rattle.meta_object.specs.declared.meta.Shape.TheVariants.{Plain, Expando}

abbrev pub kind_in : Shape → Kind
kind_in (Plain k) = k
kind_in (Expando class) = kind.Obj

-- the class that a shape shows
abbrev pub class_in_shape : Shape → Option ClassRef
class_in_shape (Plain k) = None
class_in_shape (Expando class) = Some class

-- the class of the target
abbrev pub target_class : List MetaObject → Option ClassRef
target_class [] = None
target_class (m ∷ ms) = class_in_shape m.shape

-- what is known of a metaobject's operand
abbrev pub known_in : MetaObject → Known
known_in m = record { kind = kind_in m.shape; value = m.value; class = option_map number_of (class_in_shape m.shape) }

-- a class is lent for an object alone
abbrev pub IsLendable : Option ClassRef → Value → Type 0
IsLendable None v = ⊤
IsLendable (Some class) v = kind_of v ≡ kind.Obj

abbrev pub shape_with : Option ClassRef → Value → Shape
shape_with (Some class) v = Expando class
shape_with None v = Plain (kind_of v)

-- the metaobject of this operand, of this value and the class that is lent
pub record IsMetaOf (operand : ℕ) (v : Value) (class : Option ClassRef) (m : MetaObject) : Type 0 where
  pub operand_is : m.operand ≡ operand
  pub shape_is : m.shape ≡ shape_with class v
  pub value_is : m.value ≡ known_value v
  pub restrictions_is : m.restrictions ≡ []

-- whether the name of a member binder may be one
abbrev pub has_key : Binder → Bool
has_key (binder.GetMember name ignore_case) = is_key name
has_key (binder.SetMember name ignore_case) = is_key name
has_key (binder.DeleteMember name ignore_case) = is_key name
has_key (binder.InvokeMember name ignore_case info) = is_key name
has_key _ = true

-- a value that is there has this kind, and is there for functions and texts
abbrev pub IsValueFor : Kind → Option Value → Type 0
IsValueFor k (Some v) = kind_of v ≡ k
IsValueFor kind.Fun None = ⊥
IsValueFor kind.Text None = ⊥
IsValueFor k None = ⊤

abbrev pub has_few : Option (List (List ℕ)) → Bool
has_few (Some parameters) = nat_le (length parameters) 16
has_few None = false

-- whether a value, if it is a function, is one of these and has at most 16 parameters
abbrev pub is_callable : Functions → Option Value → Bool
is_callable functions (Some (value.Fun f)) = has_few (slice_get functions f)
is_callable functions _ = true

-- a class that a shape shows is of the table
abbrev pub IsOfTable : ClassTable → Shape → Type 0
IsOfTable table (Plain k) = ⊤
IsOfTable table (Expando class) = IsClassOf table class

-- a target that is an object shows its class
abbrev pub IsExpandoOr : Shape → Type 0
IsExpandoOr (Plain kind.Obj) = ⊥
IsExpandoOr _ = ⊤

-- One metaobject for each operand of the binder, in order; what they show is of the table, as are the classes that the
-- pass knows; and the functions that they show are of the language.
pub record CanBind (functions : Functions) (table : ClassTable) (pass : ClassPass) (b : Binder) (metas : List MetaObject)
    : Type 0 where
  pub key : IsTrue (has_key b)
  pub count : length metas ≡ operand_count_of b
  pub own : IsPassOf table pass
  pub placed : (i : ℕ) (m : MetaObject) → slice_get metas i ≡ Some m → m.operand ≡ i
  pub valued : (i : ℕ) (m : MetaObject) → slice_get metas i ≡ Some m → IsValueFor (kind_in m.shape) m.value
  pub callable : (i : ℕ) (m : MetaObject) → slice_get metas i ≡ Some m → IsTrue (is_callable functions m.value)
  pub of : (i : ℕ) (m : MetaObject) → slice_get metas i ≡ Some m → IsOfTable table m.shape
  pub expando : (m : MetaObject) → is_on_members b ≡ true → slice_get metas 0 ≡ Some m → IsExpandoOr m.shape

-- the number of an object's class is the one that its metaobject shows
abbrev pub IsInClass : Shape → ℕ → Type 0
IsInClass (Plain k) class = ⊤
IsInClass (Expando shown) class = class ≡ number_of shown

abbrev pub IsValue : Option Value → Value → Type 0
IsValue None v = ⊤
IsValue (Some known) v = v ≡ known

-- the metaobjects describe these operands, and the number of the target's class
pub record Describes (metas : List MetaObject) (operands : List Value) (class : ℕ) : Type 0 where
  pub count : length operands ≡ length metas
  pub kinds : (i : ℕ) (m : MetaObject) (v : Value) → slice_get metas i ≡ Some m → slice_get operands i ≡ Some v
      → kind_of v ≡ kind_in m.shape
  pub values : (i : ℕ) (m : MetaObject) (v : Value) → slice_get metas i ≡ Some m → slice_get operands i ≡ Some v
      → IsValue m.value v
  pub in_class : (m : MetaObject) → slice_get metas 0 ≡ Some m → IsInClass m.shape class
