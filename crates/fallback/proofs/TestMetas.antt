-- The metaobjects that the tests make of operands.
use Rattle.std.proofs.Common.{◌≡◌, ℕ, zero, suc, Bool, true, false, cond, List, [], ◌∷◌, ◌++◌, length, Option, None, Some, IfSome, IsTrue, refl, sym, ◌∙◌, ap, subst, slice_get, get_or}
use Rattle.std.specs.List.{list_all}
use Rattle.std.specs.Option.{option_map}
use Rattle.std.proofs.lemmas.Bool.{and_parts}
use Rattle.std.proofs.lemmas.Option.{get_or_from_slice_get}
use Rattle.dyn_value.specs.declared.fault.Fault.TheVariants.{NoIndex}
use Rattle.dyn_value.specs.declared.value.Kind.TheVariants as kind
use Rattle.dyn_value.specs.declared.value.Value.{Value}
use Rattle.dyn_value.specs.declared.value.Value.TheVariants as value
use Rattle.expando_class.specs.declared.class.ClassRef.{ClassRef}
use Rattle.expando_class.specs.declared.pass.ClassPass.{ClassPass}
use Rattle.expando_class.specs.declared.table.ClassTable.{ClassTable}
use Rattle.expando_class.specs.Class.{IsClassOf, number_of}
use Rattle.expr_tree.specs.declared.node.Node.{Node}
use Rattle.expr_tree.specs.declared.node.Node.TheVariants.{Throw}
use Rattle.restrictions.specs.declared.restriction.Restriction.{Restriction}
use Rattle.restrictions.specs.declared.restriction.Restriction.TheVariants.{Kind as IsKind, LongKey}
use Rattle.restrictions.specs.Meanings.{all_hold}
use Rattle.standard_binders.specs.declared.binder.Binder.{Binder}
use Rattle.standard_binders.specs.declared.binder.Binder.TheVariants as binder
use Rattle.standard_binders.specs.Functions.{Functions}
use Rattle.rule_model.specs.declared.claim.Claim.{Claim}
use Rattle.rule_model.specs.Soundness.{IsSound, looks_at_none}
use Rattle.rule_model.proofs.MemberSoundness.{long_sound}
use Rattle.meta_object.specs.declared.bound.Bound.{Bound}
use Rattle.meta_object.specs.Bindings.{IsSoundFor}
use Rattle.meta_object.specs.declared.context.BindContext.{BindContext}
use Rattle.meta_object.specs.declared.meta.MetaObject.{MetaObject}
use Rattle.meta_object.specs.Contexts.{KeepsContext}
use Rattle.meta_object.specs.Metas.{CanBind, IsMetaOf}
use Rattle.meta_object.specs.Operands.{IsLentFor, lent_at}

-- what holds of each element and of one more
pub appended : (xs : List MetaObject) (x : MetaObject) (P : ℕ → MetaObject → Type 0) → ((i : ℕ) (m : MetaObject) → slice_get xs i ≡ Some m → P i m) → P (length xs) x
    → (i : ℕ) (m : MetaObject) → slice_get (xs ++ x ∷ []) i ≡ Some m → P i m
appended [] x P all last zero m e = subst (P 0) (let same : x ≡ m = cc in same) last
appended [] x P all last (suc i) m e = cc
appended (y ∷ ys) x P all last zero m e = all zero m e
appended (y ∷ ys) x P all last (suc i) m e = appended ys x (λ k. P (suc k)) (λ k. all (suc k)) last i m e

-- a metaobject more is that of its operand
last_meta : (operands : List Value) (class : Option ClassRef) (place n : ℕ) (value : Value) (meta : MetaObject) → n ≡ place → value ≡ get_or operands place value → IsMetaOf place value (lent_at place class) meta
    → (v : Value) → slice_get operands n ≡ Some v → IsMetaOf n v (lent_at n class) meta
last_meta operands class place n value meta count element is v stands =
    let there : slice_get operands place ≡ Some v = subst (λ (k : ℕ). slice_get operands k ≡ Some v) count stands in
    let same : value ≡ v = element ∙ get_or_from_slice_get operands place v value there in
    subst (λ (k : ℕ). IsMetaOf k v (lent_at k class) meta) (sym count) (subst (λ (k : Value). IsMetaOf place k (lent_at place class) meta) same is)

pub metas_more : (operands : List Value) (class : Option ClassRef) (xs ys : List MetaObject) (place : ℕ) (value : Value) (meta : MetaObject) → length xs ≡ place
    → ((i : ℕ) (m : MetaObject) (v : Value) → slice_get xs i ≡ Some m → slice_get operands i ≡ Some v → IsMetaOf i v (lent_at i class) m) → ys ≡ xs ++ meta ∷ []
    → value ≡ get_or operands place value → IsMetaOf place value (lent_at place class) meta
    → (i : ℕ) (m : MetaObject) (v : Value) → slice_get ys i ≡ Some m → slice_get operands i ≡ Some v → IsMetaOf i v (lent_at i class) m
metas_more operands class xs ys place value meta count each more element is i m v e stands =
    appended xs meta (λ k n. (w : Value) → slice_get operands k ≡ Some w → IsMetaOf k w (lent_at k class) n) (λ k n there w stand. each k n w there stand)
    (last_meta operands class place (length xs) value meta count element is) i m (subst (λ (l : List MetaObject). slice_get l i ≡ Some m) more e) v stands

-- to no operand after the target the class is lent
pub lent_past : (place : ℕ) (class : Option ClassRef) → (place ≡ 0 → ⊥) → lent_at place class ≡ None
lent_past zero class other = absurd (other refl)
lent_past (suc place) class other = refl

-- what holds of all holds of each
pub each_of : (p : Value → Bool) (vs : List Value) → list_all p vs ≡ true → (i : ℕ) (v : Value) → slice_get vs i ≡ Some v → IsTrue (p v)
each_of p [] all i v e = cc
each_of p (w ∷ ws) all zero v e = subst (λ (k : Value). IsTrue (p k)) (let same : w ≡ v = cc in same) (and_parts (p w) (list_all p ws) all).0
each_of p (w ∷ ws) all (suc i) v e = each_of p ws (and_parts (p w) (list_all p ws) all).1 i v e

-- the class is lent as the operation wants it
lent_as : (none : Bool) (lent : Option ClassRef) (class : ClassRef) → lent ≡ cond none None (Some class) → option_map number_of lent ≡ cond none None (Some (number_of class))
lent_as true lent class e = ap (option_map number_of) e
lent_as false lent class e = ap (option_map number_of) e

pub lent_for : (b : Binder) (operands : List Value) (lent : Option ClassRef) (class : ClassRef) → lent ≡ cond (looks_at_none b operands) None (Some class) → IsLentFor b operands (number_of class) lent
lent_for b operands lent class e = lent_as (looks_at_none b operands) lent class e

lent_of : (table : ClassTable) (none : Bool) (class : ClassRef) → IsClassOf table class → IfSome (cond none None (Some class)) (IsClassOf table)
lent_of table true class of = tt
lent_of table false class of = of

pub lent_of_table : (table : ClassTable) (b : Binder) (operands : List Value) (lent : Option ClassRef) (class : ClassRef) → lent ≡ cond (looks_at_none b operands) None (Some class) → IsClassOf table class → IfSome lent (IsClassOf table)
lent_of_table table b operands lent class e of = subst (λ (o : Option ClassRef). IfSome o (IsClassOf table)) (sym e) (lent_of table (looks_at_none b operands) class of)

-- the bound of the reads by a long key is sound
pub long_key_sound : (functions : Functions) (pass : ClassPass) (metas : List MetaObject) (bound : Bound) → bound.restrictions ≡ IsKind 0 kind.Obj ∷ LongKey 1 ∷ [] → bound.body ≡ Throw NoIndex ∷ []
    → bound.claim ≡ record { class = None; fun = None } → IsSoundFor functions pass binder.GetIndex metas bound
long_key_sound functions pass metas bound tests body claim = record {
  sound = subst (λ (rs : List Restriction). IsSound binder.GetIndex (all_hold rs) bound.body bound.claim) (sym tests)
      (subst (λ (ns : List Node). IsSound binder.GetIndex (all_hold (IsKind 0 kind.Obj ∷ LongKey 1 ∷ [])) ns bound.claim) (sym body)
      (long_sound binder.GetIndex bound.claim refl (ap (λ (k : Claim). k.class) claim)));
  holds = record {
    class = λ c e. (let no : None ≡ Some c = sym (ap (λ (k : Claim). k.class) claim) ∙ e in cc);
    fun = record { params = λ f e. (let no : None ≡ Some f = sym (ap (λ (k : Claim). k.fun) claim) ∙ e in cc) };
  };
}

-- what can be bound can be after a binding
pub can_still : (functions : Functions) (old new : BindContext) (b : Binder) (metas : List MetaObject) → KeepsContext old new → CanBind functions old.table.now old.pass.now b metas → CanBind functions new.table.now new.pass.now b metas
can_still functions old new b metas keeps can =
    let still : CanBind functions old.table.now new.pass.now b metas = record {
      key = can.key;
      count = can.count;
      own = keeps.own;
      placed = can.placed;
      valued = can.valued;
      callable = can.callable;
      of = can.of;
      expando = can.expando;
    } in
    let same = keeps.table in
    rw same still
