-- Operations of tests: the metaobjects of their operands, made one after the other.
use Rattle.std.proofs.Common.{◌≡◌, ◌⊎◌, ℕ, zero, suc, ◌+◌, ◌<◌, Bool, true, List, [], ◌∷◌, ◌++◌, length, take, get_or, slice_get, Option, None, Some, IfSome, inl, inr, refl, sym, ◌∙◌, ap, subst, arith, length-append, length-take}
use Rattle.std.specs.List.{list_all}
use Rattle.std.proofs.lemmas.Bool.{and_parts}
use Rattle.std.proofs.lemmas.List.{take_more}
use Rattle.std.proofs.lemmas.Option.{slice_get_within}
use Rattle.dyn_value.specs.declared.value.Value.{Value}
use Rattle.expando_class.specs.declared.class.ClassRef.{ClassRef}
use Rattle.expando_class.specs.declared.pass.ClassPass.{ClassPass}
use Rattle.expando_class.specs.declared.table.ClassTable.{ClassTable}
use Rattle.expando_class.specs.Class.{IsClassOf}
use Rattle.expando_class.specs.Pass.{IsPassOf}
use Rattle.rule_model.specs.Tests.{known_value}
use Rattle.standard_binders.specs.declared.binder.Binder.{Binder}
use Rattle.standard_binders.specs.Binders.{operand_count_of}
use Rattle.standard_binders.specs.Functions.{Functions}
use Rattle.meta_object.specs.declared.meta.MetaObject.{MetaObject}
use Rattle.meta_object.specs.Metas.{CanBind, IsMetaOf, has_key, is_callable}
use Rattle.meta_object.specs.Operands.{AreMetasOf, IsLentFor, lent_at}
use Rattle.meta_object.proofs.OperandMetas.{can_bind}

grown_got : {A : Type 0} (bs : List A) (x b : A) (n : ℕ) → slice_get (bs ++ x ∷ []) n ≡ Some b → (slice_get bs n ≡ Some b) ⊎ ((n ≡ length bs) × (x ≡ b))
grown_got [] x b zero e = inr (refl, cc)
grown_got [] x b (suc n) e = absurd (cc)
grown_got (c ∷ bs) x b zero e = inl e
grown_got (c ∷ bs) x b (suc n) e = elim (grown_got bs x b n e) [ inl h ↦ inl h | inr h ↦ inr (omega arith, h.1) ]

metas_push : (operands : List Value) (class : Option ClassRef) (metas : List MetaObject) (v : Value) (m : MetaObject) → AreMetasOf operands class metas
    → IsMetaOf (length operands) v (lent_at (length operands) class) m → AreMetasOf (operands ++ v ∷ []) class (metas ++ m ∷ [])
metas_push operands class metas v m are is = record {
  count = omega (arith, length-append operands (v ∷ []), length-append metas (m ∷ []), are.count);
  each = λ i n w at_m at_v. elim (grown_got metas m n i at_m) [
    | inl old ↦ elim (grown_got operands v w i at_v) [
      | inl given ↦ are.each i n w old given
      | inr last ↦ let inside = slice_get_within metas i n old in absurd (omega (arith, inside, last.0, are.count))
    ]
    | inr new ↦ elim (grown_got operands v w i at_v) [
      | inl given ↦ let inside = slice_get_within operands i w given in absurd (omega (arith, inside, new.0, are.count))
      | inr last ↦ subst (λ (k : ℕ). IsMetaOf k w (lent_at k class) n) (sym last.0)
          (subst (λ (x : Value). IsMetaOf (length operands) x (lent_at (length operands) class) n) last.1
          (subst (λ (y : MetaObject). IsMetaOf (length operands) v (lent_at (length operands) class) y) new.1 is))
    ]
  ];
}

-- one operand more
pub one_more : (operands : List Value) (class : Option ClassRef) (metas new : List MetaObject) (n : ℕ) (v : Value) (m : MetaObject) (lent : Option ClassRef) → n < length operands → v ≡ get_or operands n v
    → AreMetasOf (take n operands) class metas → new ≡ metas ++ m ∷ [] → lent ≡ lent_at n class → IsMetaOf n v lent m → AreMetasOf (take (n + 1) operands) class new
one_more operands class metas new n v m lent below at are pushed same is =
    let front = take n operands in
    let long : length front ≡ n = let taken = length-take n operands in omega arith in
    let last : IsMetaOf (length front) v (lent_at (length front) class) m =
    subst (λ (k : ℕ). IsMetaOf k v (lent_at k class) m) (sym long) (subst (λ (l : Option ClassRef). IsMetaOf n v l m) same is) in
    subst (λ (values : List Value). AreMetasOf values class new) (ap (λ (x : Value). front ++ x ∷ []) at ∙ sym (take_more operands n v below))
    (subst (AreMetasOf (front ++ v ∷ []) class) (sym pushed) (metas_push front class metas v m are last))

-- each of the operands passes a test that all pass
each_passes : (test : Value → Bool) (operands : List Value) (i : ℕ) (v : Value) → list_all test operands ≡ true → slice_get operands i ≡ Some v → test v ≡ true
each_passes test [] i v all at = cc
each_passes test (w ∷ ws) zero v all at = let same : w ≡ v = cc in subst (λ (x : Value). test x ≡ true) same (and_parts (test w) (list_all test ws) all).0
each_passes test (w ∷ ws) (suc i) v all at = each_passes test ws i v (and_parts (test w) (list_all test ws) all).1 at

of_class : (table : ClassTable) (class : ClassRef) (lent : Option ClassRef) → IfSome lent (λ l. l ≡ class) → IsClassOf table class → IfSome lent (IsClassOf table)
of_class table class None is of = tt
of_class table class (Some l) is of = subst (IsClassOf table) (sym is) of

pub tested_can : (functions : Functions) (table : ClassTable) (pass : ClassPass) (b : Binder) (operands : List Value) (class : ClassRef) (lent : Option ClassRef) (metas : List MetaObject) (n : ℕ)
    → AreMetasOf operands lent metas → IsLentFor b operands n lent → has_key b ≡ true → length operands ≡ operand_count_of b → IsPassOf table pass → IfSome lent (λ l. l ≡ class) → IsClassOf table class
    → list_all (λ v. is_callable functions (known_value v)) operands ≡ true → CanBind functions table pass b metas
tested_can functions table pass b operands class lent metas n are is_lent key suit own is of callable =
    can_bind functions table pass b operands lent metas n are is_lent (record {
      key = key;
      suit = suit;
      own = own;
      of = of_class table class lent is of;
      callable = λ i v at. each_passes (λ v. is_callable functions (known_value v)) operands i v callable at;
    })
