-- Metaobjects that are made of the operands of an operation.
use Rattle.std.specs.Prelude.{◌≡◌, ℕ, zero, suc, IfSome, IsTrue, if◌then◌else◌, List, length, Option, None, Some, slice_get}
use Rattle.std.specs.Option.{option_map}
use Rattle.dyn_value.specs.declared.value.Value.{Value}
use Rattle.expando_class.specs.declared.class.ClassRef.{ClassRef}
use Rattle.expando_class.specs.declared.pass.ClassPass.{ClassPass}
use Rattle.expando_class.specs.declared.table.ClassTable.{ClassTable}
use Rattle.expando_class.specs.Class.{number_of, IsClassOf}
use Rattle.expando_class.specs.Pass.{IsPassOf}
use Rattle.standard_binders.specs.declared.binder.Binder.{Binder}
use Rattle.standard_binders.specs.Functions.{Functions}
use Rattle.rule_model.specs.Soundness.{Suit, looks_at_none}
use Rattle.rule_model.specs.Tests.{known_value}
use Rattle.meta_object.specs.declared.meta.MetaObject.{MetaObject}
use Rattle.meta_object.specs.Metas.{IsMetaOf, has_key, is_callable}

-- the class is lent to the target
abbrev pub lent_at : ℕ → Option ClassRef → Option ClassRef
lent_at zero class = class
lent_at (suc operand) class = None

-- the metaobjects of these operands, in order
pub record AreMetasOf (operands : List Value) (class : Option ClassRef) (metas : List MetaObject) : Type 0 where
  pub count : length metas ≡ length operands
  pub each : (i : ℕ) (m : MetaObject) (v : Value) → slice_get metas i ≡ Some m → slice_get operands i ≡ Some v
      → IsMetaOf i v (lent_at i class) m

-- the class of this number is lent for an operation on an object, and none for one that looks at no object
abbrev pub IsLentFor : Binder → List Value → ℕ → Option ClassRef → Type 0
IsLentFor b operands number class =
    option_map number_of class ≡ (if looks_at_none b operands then None else Some number)

-- The operands suit the binder, whose name may be one; the classes are of the table; and the functions among the
-- operands are of the language.
pub record CanBeBound (functions : Functions) (table : ClassTable) (pass : ClassPass) (b : Binder)
    (operands : List Value) (class : Option ClassRef) : Type 0 where
  pub key : IsTrue (has_key b)
  pub suit : Suit b operands
  pub own : IsPassOf table pass
  pub of : IfSome class (IsClassOf table)
  pub callable : (i : ℕ) (v : Value) → slice_get operands i ≡ Some v → IsTrue (is_callable functions (known_value v))
