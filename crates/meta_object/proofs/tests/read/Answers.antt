-- The read of a member is bound by the metaobject of its target.
use Rattle.std.proofs.Common.{◌≡◌, ◌≤◌, ℕ, zero, suc, true, List, [], ◌∷◌, length, Some, refl, sym, ◌∙◌, ap, subst, arith, slice_get, encode_utf8_all, false}
use Rattle.std.proofs.lemmas.Bool.Decides.{nat_tests}
use Rattle.dyn_value.specs.declared.value.Value.{Value}
use Rattle.dyn_value.specs.declared.value.Value.TheVariants as value
use Rattle.expando_class.specs.Class.{number_of}
use Rattle.object_model.specs.Accesses.{is_key}
use Rattle.rule_model.specs.Tests.{known_value}
use Rattle.standard_binders.specs.declared.binder.Binder.{Binder}
use Rattle.standard_binders.specs.declared.binder.Binder.TheVariants as binder
use Rattle.standard_binders.specs.Functions.{Functions}
use Rattle.meta_object.specs.declared.meta.MetaObject.{MetaObject}
use Rattle.meta_object.specs.Metas.{CanBind, is_callable}
use Rattle.meta_object.proofs.OperandMetas.{can_bind}
use Rattle.meta_object.proofs.tests.read.Goals as goal

short : (bytes name copy : List ℕ) → bytes ≡ encode_utf8_all name → copy ≡ name → length bytes ≤ 64 → is_key copy ≡ true
short bytes name copy spelled same few =
    let fits : length (encode_utf8_all copy) ≤ 64 = subst (λ (k : List ℕ). length k ≤ 64) (spelled ∙ ap encode_utf8_all (sym same)) few in
    grind (arith, nat_tests)

no_function : (functions : Functions) (i : ℕ) (v : Value) → slice_get (value.Obj 0 ∷ []) i ≡ Some v → is_callable functions (known_value v) ≡ true
no_function functions zero v e = subst (λ (k : Value). is_callable functions (known_value k) ≡ true) (let same : value.Obj 0 ≡ v = cc in same) refl
no_function functions (suc i) v e = cc

pub bind_get_member-requires-clause-can : goal.bind_get_member-requires-clause-can
bind_get_member-requires-clause-can g c =
    let functions : Functions = c.new-2.result in
    let b : Binder = binder.GetMember c.in_ok-copy.field-0 false in
    subst (λ (metas : List MetaObject). CanBind functions c.in_ok-table.table c.class_of.new.pass b metas) (sym c.deref.ensures.value)
    (can_bind functions c.in_ok-table.table c.class_of.new.pass b (value.Obj 0 ∷ []) (Some c.in_ok-class.class) c.in_ok-metas.metas.items (number_of c.in_ok-class.class) c.in_ok-metas.ensures refl
    (record {
      key = short c.as_str.result.now c.args.name.now c.in_ok-copy.field-0 c.as_str.ensures.bytes c.in_ok-copy.ensures c.if-as_str-gt64.false;
      suit = refl;
      own = c.class_of.ensures.pass;
      of = c.in_ok-class.ensures.of;
      callable = no_function functions;
    }))
