-- What is known of operands by their metaobjects.
use Rattle.std.proofs.Common.{◌≡◌, ℕ, true, false, List, [], ◌∷◌, map, Option, None, Some, IsTrue, refl, sym, ◌∙◌, ap, subst, slice_get}
use Rattle.std.specs.Option.{option_map}
use Rattle.std.proofs.lemmas.List.{length-map}
use Rattle.std.proofs.lemmas.Option.{get_or_from_slice_get, slice_get-map}
use Rattle.dyn_value.specs.declared.value.Kind.TheVariants as kind
use Rattle.dyn_value.specs.declared.value.Value.{Value}
use Rattle.dyn_value.specs.declared.value.Value.TheVariants as value
use Rattle.dyn_value.specs.Kinds.{same_kind}
use Rattle.expando_class.specs.declared.pass.ClassPass.{ClassPass}
use Rattle.expando_class.specs.declared.table.ClassTable.{ClassTable}
use Rattle.expando_class.specs.Class.{number_of}
use Rattle.meta_object.specs.declared.bound.Bound.{Bound}
use Rattle.meta_object.specs.declared.meta.MetaObject.{MetaObject}
use Rattle.meta_object.specs.declared.meta.Shape.{Shape}
use Rattle.meta_object.specs.declared.meta.Shape.TheVariants.{Plain, Expando}
use Rattle.meta_object.specs.Bindings.{HasTests, IsBinding}
use Rattle.meta_object.specs.Metas.{CanBind, Describes, IsExpandoOr, IsValueFor, class_in_shape, has_few, is_callable, kind_in, known_in, target_class}
use Rattle.meta_object.proofs.Described.{described_hold}
use Rattle.expr_tree.specs.declared.node.Node.{Node}
use Rattle.restrictions.specs.declared.restriction.Restriction.{Restriction}
use Rattle.restrictions.specs.Meanings.{all_hold}
use Rattle.rule_model.specs.declared.claim.Claim.{Claim}
use Rattle.rule_model.specs.declared.claim.FunClaim.{FunClaim}
use Rattle.rule_model.specs.Claims.{FunHolds}
use Rattle.rule_model.specs.Soundness.{IsSound}
use Rattle.rule_model.specs.Tests.{Known, form_of, tests_by}
use Rattle.standard_binders.specs.Binders.{is_on_members}
use Rattle.standard_binders.specs.declared.binder.Binder.{Binder}
use Rattle.standard_binders.specs.declared.binder.Binder.TheVariants as binder
use Rattle.standard_binders.specs.Functions.{Functions, parameters_of}
use Rattle.fallback.specs.Own.{AreKnown, IsOther, called_claim, known_at, own_claim, own_node}
use Rattle.fallback.proofs.OwnSoundness.{own_class, own_sound}

-- what is known at a place is known by the metaobject there
record IsKnownBy (metas : List MetaObject) (i : ℕ) (k : Known) : Type 0 where
  pub meta : MetaObject
  pub there : slice_get metas i ≡ Some meta
  pub is : known_in meta ≡ k

known_by : (metas : List MetaObject) (i : ℕ) (k : Known) → slice_get (map known_in metas) i ≡ Some k → IsKnownBy metas i k
known_by metas i k e = by (slice_get metas i) refl (sym (slice_get-map known_in metas i) ∙ e)
  where
    by : (o : Option MetaObject) → slice_get metas i ≡ o → option_map known_in o ≡ Some k → IsKnownBy metas i k
    by None there is = cc
    by (Some m) there is = record { meta = m; there = there; is = cc }

-- a target that shows no class is no object, where the operation is on members
other_shape : (shape : Shape) → class_in_shape shape ≡ None → IsExpandoOr shape → (same_kind (kind_in shape) kind.Obj ≡ false) × (option_map number_of (class_in_shape shape) ≡ None)
other_shape (Plain kind.Obj) none or = absurd or
other_shape (Plain _) none or = (refl, refl)
other_shape (Expando class) none or = cc

target_is : (metas : List MetaObject) (m : MetaObject) → slice_get metas 0 ≡ Some m → target_class metas ≡ class_in_shape m.shape
target_is [] m e = cc
target_is (l ∷ ls) m e = let same : l ≡ m = cc in ap (λ (k : MetaObject). class_in_shape k.shape) same

pub known_from : (functions : Functions) (table : ClassTable) (pass : ClassPass) (b : Binder) (metas : List MetaObject) → CanBind functions table pass b metas
    → (is_on_members b ≡ true → target_class metas ≡ None) → AreKnown functions b (map known_in metas)
known_from functions table pass b metas can shows = record {
  count = length-map metas known_in ∙ can.count;
  other = λ k on e. (let by = known_by metas 0 k e in
      subst (λ (j : Known). IsOther j) by.is
      (let o = other_shape by.meta.shape (sym (target_is metas by.meta by.there) ∙ shows on) (can.expando by.meta on by.there) in record { kind = o.0; class = o.1 }));
  valued = λ i k e. (let by = known_by metas i k e in subst (λ (j : Known). IsValueFor j.kind j.value) by.is (can.valued i by.meta by.there));
  callable = λ i k e. (let by = known_by metas i k e in subst (λ (j : Known). IsTrue (is_callable functions j.value)) by.is (can.callable i by.meta by.there));
}

-- what is claimed of a function that is known holds
present : (functions : Functions) (f : ℕ) → has_few (slice_get functions f) ≡ true → slice_get functions f ≡ Some (parameters_of functions f)
present functions f few = by (slice_get functions f) refl few
  where
    by : (o : Option (List (List ℕ))) → slice_get functions f ≡ o → has_few o ≡ true → slice_get functions f ≡ Some (parameters_of functions f)
    by None is few = cc
    by (Some ps) is few = is ∙ ap Some (sym (get_or_from_slice_get functions f ps [] is))

called_holds : (functions : Functions) (v : Option Value) → IsTrue (is_callable functions v) → FunHolds (called_claim functions v) functions
called_holds functions (Some (value.Fun f)) callable = record {
  params = λ c e. (let same : record { number = f; params = parameters_of functions f } ≡ c = cc in
      subst (λ (k : FunClaim). slice_get functions k.number ≡ Some k.params) same (present functions f callable));
}
called_holds functions _ callable = record { params = λ c e. cc }

target_holds : (functions : Functions) (b : Binder) (knowns : List Known) → AreKnown functions b knowns → FunHolds (called_claim functions (known_at knowns 0).value) functions
target_holds functions b [] known = called_holds functions None refl
target_holds functions b (k ∷ ks) known = called_holds functions k.value (known.callable 0 k refl)

pub own_claimed : (functions : Functions) (b : Binder) (knowns : List Known) → AreKnown functions b knowns → FunHolds (own_claim functions knowns b) functions
own_claimed functions (binder.Invoke info) knowns known = target_holds functions (binder.Invoke info) knowns known
own_claimed functions (binder.CreateInstance info) knowns known = target_holds functions (binder.CreateInstance info) knowns known
own_claimed functions _ knowns known = record { params = λ c e. cc }

-- what metaobjects describe passes
pub own_passes : (b : Binder) (metas : List MetaObject) (operands : List Value) (class : ℕ) → Describes metas operands class → all_hold (tests_by (form_of b) (map known_in metas)) operands class ≡ true
own_passes b metas operands class d = described_hold (form_of b) metas operands class (tests_by (form_of b) (map known_in metas)) refl d

-- a bound of the language's own answer is a binding
pub own_binding : (functions : Functions) (table : ClassTable) (pass : ClassPass) (b : Binder) (metas : List MetaObject) (bound : Bound) → CanBind functions table pass b metas
    → (is_on_members b ≡ true → target_class metas ≡ None) → HasTests b metas bound → bound.body ≡ own_node functions b (map known_in metas) ∷ [] → bound.claim ≡ own_claim functions (map known_in metas) b
    → IsBinding functions pass b metas bound
own_binding functions table pass b metas bound can shows tests body claim =
    let knowns = map known_in metas in
    let known : AreKnown functions b knowns = known_from functions table pass b metas can shows in
    record {
      sound = subst (λ (rs : List Restriction). IsSound b (all_hold rs) bound.body bound.claim) (sym tests)
          (subst (λ (ns : List Node). IsSound b (all_hold (tests_by (form_of b) knowns)) ns bound.claim) (sym body)
          (subst (λ (c : Claim). IsSound b (all_hold (tests_by (form_of b) knowns)) (own_node functions b knowns ∷ []) c) (sym claim) (own_sound functions b knowns known)));
      passing = λ operands class d. described_hold (form_of b) metas operands class bound.restrictions tests d;
      holds = record {
        class = λ c e. (let no : None ≡ Some c = sym (own_class functions knowns b) ∙ sym (ap (λ (k : Claim). k.class) claim) ∙ e in cc);
        fun = subst (λ (c : Claim). FunHolds c functions) (sym claim) (own_claimed functions b knowns known);
      };
    }
