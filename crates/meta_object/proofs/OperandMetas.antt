-- Metaobjects that are made of operands can be bound, and describe them.
use Rattle.std.proofs.Common.{◌≡◌, ◌<◌, ℕ, zero, suc, Bool, true, false, ◌&&◌, not, IsTrue, List, length, Option, None, Some, refl, sym, ◌∙◌, ap, subst, cond, arith, slice_get, get_or, unwrap_or, IfSome}
use Rattle.std.specs.Option.{option_map}
use Rattle.std.proofs.lemmas.Option.{slice_get_within, slice_get-get_or}
use Rattle.dyn_value.specs.declared.value.Kind.{Kind}
use Rattle.dyn_value.specs.declared.value.Value.{Value}
use Rattle.dyn_value.specs.declared.value.Value.TheVariants as value
use Rattle.dyn_value.specs.Kinds.{kind_of}
use Rattle.dyn_value.specs.Outcomes.{at}
use Rattle.expando_class.specs.declared.class.ClassRef.{ClassRef}
use Rattle.expando_class.specs.declared.pass.ClassPass.{ClassPass}
use Rattle.expando_class.specs.declared.table.ClassTable.{ClassTable}
use Rattle.expando_class.specs.Class.{number_of, IsClassOf}
use Rattle.standard_binders.specs.declared.binder.Binder.{Binder}
use Rattle.standard_binders.specs.Binders.{is_on_members}
use Rattle.standard_binders.specs.Functions.{Functions}
use Rattle.rule_model.specs.Soundness.{is_object, looks_at_none}
use Rattle.rule_model.specs.Tests.{known_value}
use Rattle.meta_object.specs.declared.meta.MetaObject.{MetaObject}
use Rattle.meta_object.specs.declared.meta.Shape.{Shape}
use Rattle.meta_object.specs.Metas.{CanBind, Describes, IsExpandoOr, IsInClass, IsLendable, IsMetaOf, IsOfTable, IsValue, IsValueFor, is_callable, kind_in, shape_with}
use Rattle.meta_object.specs.Operands.{AreMetasOf, CanBeBound, IsLentFor, lent_at}
use Rattle.meta_object.proofs.OperandTests.{kind_with, lent_object}

-- the operand of each metaobject
record Operand (operands : List Value) (class : Option ClassRef) (i : ℕ) (m : MetaObject) : Type 0 where
  pub v : Value
  pub stands : slice_get operands i ≡ Some v
  pub is : IsMetaOf i v (lent_at i class) m

operand_of : (operands : List Value) (class : Option ClassRef) (metas : List MetaObject) (i : ℕ) (m : MetaObject) → AreMetasOf operands class metas → slice_get metas i ≡ Some m → Operand operands class i m
operand_of operands class metas i m are e =
    let within : i < length metas = slice_get_within metas i m e in
    let there : slice_get operands i ≡ Some (get_or operands i value.Nil) = slice_get-get_or operands i value.Nil (let count = are.count in omega arith) in
    record { v = get_or operands i value.Nil; stands = there; is = are.each i m (get_or operands i value.Nil) e there }

first_is : (operands : List Value) (v : Value) → slice_get operands 0 ≡ Some v → at operands 0 ≡ v
first_is operands v e = ap (λ (o : Option Value). unwrap_or o value.Nil) e

-- a class is lent for an object alone
lendable : (b : Binder) (operands : List Value) (class : Option ClassRef) (n i : ℕ) (v : Value) → IsLentFor b operands n class → slice_get operands i ≡ Some v → IsLendable (lent_at i class) v
lendable b operands class n zero v lent e =
    lent_object (is_on_members b) v class n (lent ∙ ap (λ (w : Value). cond (not (is_on_members b && is_object w)) None (Some n)) (first_is operands v e))
lendable b operands class n (suc i) v lent e = tt

value_for : (v : Value) → IsValueFor (kind_of v) (known_value v)
value_for value.Nil = tt
value_for (value.Bool b) = tt
value_for (value.Int n) = tt
value_for (value.Text t) = refl
value_for (value.Fun f) = refl
value_for (value.Obj o) = tt

of_table : (table : ClassTable) (class : Option ClassRef) (i : ℕ) (v : Value) → IfSome class (IsClassOf table) → IsOfTable table (shape_with (lent_at i class) v)
of_table table None zero v of = tt
of_table table (Some class) zero v of = of
of_table table class (suc i) v of = tt

-- a target that is an object shows its class
shows : (on : Bool) (class : Option ClassRef) (n : ℕ) (v : Value) → on ≡ true → option_map number_of class ≡ cond (not (on && is_object v)) None (Some n) → IsExpandoOr (shape_with class v)
shows on (Some class) n v e lent = tt
shows false None n v e lent = cc
shows true None n (value.Obj o) e lent = cc
shows true None n value.Nil e lent = tt
shows true None n (value.Bool b) e lent = tt
shows true None n (value.Int k) e lent = tt
shows true None n (value.Text t) e lent = tt
shows true None n (value.Fun f) e lent = tt

pub can_bind : (functions : Functions) (table : ClassTable) (pass : ClassPass) (b : Binder) (operands : List Value) (class : Option ClassRef) (metas : List MetaObject) (n : ℕ)
    → AreMetasOf operands class metas → IsLentFor b operands n class → CanBeBound functions table pass b operands class → CanBind functions table pass b metas
can_bind functions table pass b operands class metas n are lent can = record {
  key = can.key;
  count = are.count ∙ can.suit;
  own = can.own;
  placed = λ i m e. (operand_of operands class metas i m are e).is.operand_is;
  valued = λ i m e. (let o = operand_of operands class metas i m are e in
      let kind : kind_in m.shape ≡ kind_of o.v = ap kind_in o.is.shape_is ∙ kind_with (lent_at i class) o.v (lendable b operands class n i o.v lent o.stands) in
      subst (λ (k : Kind). IsValueFor k m.value) (sym kind) (subst (λ (known : Option Value). IsValueFor (kind_of o.v) known) (sym o.is.value_is) (value_for o.v)));
  callable = λ i m e. (let o = operand_of operands class metas i m are e in
      subst (λ (known : Option Value). IsTrue (is_callable functions known)) (sym o.is.value_is) (can.callable i o.v o.stands));
  of = λ i m e. (let o = operand_of operands class metas i m are e in
      subst (λ (s : Shape). IsOfTable table s) (sym o.is.shape_is) (of_table table class i o.v can.of));
  expando = λ m on e. (let o = operand_of operands class metas 0 m are e in
      let asked : option_map number_of class ≡ cond (not (is_on_members b && is_object o.v)) None (Some n) =
      lent ∙ ap (λ (w : Value). cond (not (is_on_members b && is_object w)) None (Some n)) (first_is operands o.v o.stands) in
      subst IsExpandoOr (sym o.is.shape_is) (shows (is_on_members b) class n o.v on asked));
}

-- the number of the class is the one that is lent
in_class : (looks : Bool) (class : Option ClassRef) (n : ℕ) (v : Value) → option_map number_of class ≡ cond looks None (Some n) → IsInClass (shape_with class v) n
in_class looks None n v e = tt
in_class true (Some class) n v e = cc
in_class false (Some class) n v e = let same : number_of class ≡ n = cc in sym same

known_is : (v : Value) → IsValue (known_value v) v
known_is value.Nil = tt
known_is (value.Bool b) = tt
known_is (value.Int n) = tt
known_is (value.Text t) = refl
known_is (value.Fun f) = refl
known_is (value.Obj o) = tt

pub describes : (b : Binder) (operands : List Value) (class : Option ClassRef) (metas : List MetaObject) (n : ℕ) → AreMetasOf operands class metas → IsLentFor b operands n class → Describes metas operands n
describes b operands class metas n are lent = record {
  count = sym are.count;
  kinds = λ i m v e f. (let is = are.each i m v e f in sym (ap kind_in is.shape_is ∙ kind_with (lent_at i class) v (lendable b operands class n i v lent f)));
  values = λ i m v e f. subst (λ (known : Option Value). IsValue known v) (sym (are.each i m v e f).value_is) (known_is v);
  in_class = λ m e. (let o = operand_of operands class metas 0 m are e in
      subst (λ (s : Shape). IsInClass s n) (sym o.is.shape_is) (in_class (looks_at_none b operands) class n o.v lent));
}
