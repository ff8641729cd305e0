-- The tests that are made from metaobjects are those of the operands.
use Rattle.std.proofs.Common.{◌≡◌, ℕ, Bool, true, false, ◌&&◌, not, List, [], ◌∷◌, length, map, Option, None, Some, refl, sym, ◌∙◌, ap, subst, cond, arith, slice_get, unwrap_or}
use Rattle.std.specs.Option.{option_map}
use Rattle.dyn_value.specs.declared.value.Kind.{Kind}
use Rattle.dyn_value.specs.declared.value.Kind.TheVariants as kind
use Rattle.dyn_value.specs.declared.value.Value.{Value}
use Rattle.dyn_value.specs.declared.value.Value.TheVariants as value
use Rattle.dyn_value.specs.Kinds.{kind_of, same_kind}
use Rattle.dyn_value.specs.Outcomes.{at}
use Rattle.expando_class.specs.declared.class.ClassRef.{ClassRef}
use Rattle.expando_class.specs.Class.{number_of}
use Rattle.standard_binders.specs.declared.binder.Binder.{Binder}
use Rattle.standard_binders.specs.declared.binder.Binder.TheVariants as binder
use Rattle.standard_binders.specs.Binders.{is_on_members}
use Rattle.restrictions.specs.declared.restriction.Restriction.TheVariants.{Kind as IsKind}
use Rattle.rule_model.specs.Soundness.{is_object, looks_at_none}
use Rattle.rule_model.specs.Tests.{Form, OneKind, TwoKinds, Member, Index, Called, Known, form_of, called_tests, index_tests, key_tests, known_class, known_of, known_value, member_tests, tests_by, tests_of}
use Rattle.meta_object.specs.declared.meta.MetaObject.{MetaObject}
use Rattle.meta_object.specs.Metas.{IsLendable, IsMetaOf, class_in_shape, kind_in, known_in, shape_with}
use Rattle.meta_object.specs.Operands.{AreMetasOf, IsLentFor}

-- a metaobject shows the kind of its operand, and the class that is lent
pub kind_with : (class : Option ClassRef) (v : Value) → IsLendable class v → kind_in (shape_with class v) ≡ kind_of v
kind_with None v lent = refl
kind_with (Some class) v lent = sym lent

class_with : (class : Option ClassRef) (v : Value) → class_in_shape (shape_with class v) ≡ class
class_with None v = refl
class_with (Some class) v = refl

-- what is known of an operand
record Knows (m : MetaObject) (v : Value) (class : Option ℕ) : Type 0 where
  pub kind : kind_in m.shape ≡ kind_of v
  pub value : m.value ≡ known_value v
  pub class_is : option_map number_of (class_in_shape m.shape) ≡ class

knows : (i : ℕ) (m : MetaObject) (v : Value) (class : Option ClassRef) → IsMetaOf i v class m → IsLendable class v → Knows m v (option_map number_of class)
knows i m v class is lent = record {
  kind = ap kind_in is.shape_is ∙ kind_with class v lent;
  value = is.value_is;
  class_is = ap (λ s. option_map number_of (class_in_shape s)) is.shape_is ∙ ap (option_map number_of) (class_with class v);
}

-- a class is lent for an object alone
pub lent_object : (on : Bool) (v : Value) (class : Option ClassRef) (n : ℕ) → option_map number_of class ≡ cond (not (on && is_object v)) None (Some n) → IsLendable class v
lent_object on v None n e = tt
lent_object false v (Some class) n e = cc
lent_object true (value.Obj o) (Some class) n e = refl
lent_object true _ (Some class) n e = cc

-- for an operation on members, that of any object
class_asked : (on : Bool) (v : Value) (n : ℕ) → on ≡ true → cond (not (on && is_object v)) None (Some n) ≡ known_class n v
class_asked false v n e = cc
class_asked true (value.Obj o) n e = refl
class_asked true value.Nil n e = refl
class_asked true (value.Bool b) n e = refl
class_asked true (value.Int i) n e = refl
class_asked true (value.Text t) n e = refl
class_asked true (value.Fun f) n e = refl

-- by forms of tests
one_kind : (m : MetaObject) (v : Value) (class : Option ℕ) → Knows m v class → IsKind 0 (kind_in m.shape) ∷ [] ≡ IsKind 0 (kind_of v) ∷ []
one_kind m v class k = ap (λ (j : Kind). IsKind 0 j ∷ []) k.kind

two_kinds : (m l : MetaObject) (v w : Value) (class other : Option ℕ) → Knows m v class → Knows l w other → IsKind 0 (kind_in m.shape) ∷ IsKind 1 (kind_in l.shape) ∷ [] ≡ IsKind 0 (kind_of v) ∷ IsKind 1 (kind_of w) ∷ []
two_kinds m l v w class other k j = ap (λ (a : Kind). IsKind 0 a ∷ IsKind 1 (kind_in l.shape) ∷ []) k.kind ∙ ap (λ (b : Kind). IsKind 0 (kind_of v) ∷ IsKind 1 b ∷ []) j.kind

called_is : (m : MetaObject) (v : Value) (class : Option ℕ) → Knows m v class → called_tests (kind_in m.shape) m.value ≡ called_tests (kind_of v) (known_value v)
called_is m v class k = ap (λ (j : Kind). called_tests j m.value) k.kind ∙ ap (called_tests (kind_of v)) k.value

member_is : (m : MetaObject) (v : Value) (n : ℕ) → Knows m v (known_class n v) → member_tests (kind_in m.shape) (option_map number_of (class_in_shape m.shape)) ≡ member_tests (kind_of v) (known_class n v)
member_is m v n k = ap (λ (j : Kind). member_tests j (option_map number_of (class_in_shape m.shape))) k.kind ∙ ap (member_tests (kind_of v)) k.class_is

-- an index looks at the class of its target alone
index_same : (reads : Bool) (a b k l : Known) (class : Option ℕ) → a.kind ≡ b.kind → k.kind ≡ l.kind → k.value ≡ l.value → index_tests reads a k class ≡ index_tests reads b l class
index_same reads a b k l None e f g =
    ap (λ (j : Kind). cond (reads && same_kind j kind.Text) (IsKind 0 kind.Text ∷ IsKind 1 k.kind ∷ []) (IsKind 0 j ∷ [])) e
    ∙ ap (λ (j : Kind). cond (reads && same_kind b.kind kind.Text) (IsKind 0 kind.Text ∷ IsKind 1 j ∷ []) (IsKind 0 b.kind ∷ [])) f
index_same reads a b k l (Some n) e f g = ap (λ (j : Kind). key_tests n j k.value) f ∙ ap (key_tests n l.kind) g

-- an operation on members asks for the class of its target
abbrev IsAsked : Form → ℕ → Value → Option ℕ → Type 0
IsAsked Member n v class = class ≡ known_class n v
IsAsked (Index reads) n v class = class ≡ known_class n v
IsAsked _ n v class = Unit {0}

by_form : (form : Form) (class : Option ℕ) (metas : List MetaObject) (operands : List Value) (n : ℕ) → length metas ≡ length operands
    → ((m : MetaObject) (v : Value) → slice_get metas 0 ≡ Some m → slice_get operands 0 ≡ Some v → Knows m v class)
    → ((m : MetaObject) (v : Value) → slice_get metas 1 ≡ Some m → slice_get operands 1 ≡ Some v → Knows m v None)
    → ((v : Value) → slice_get operands 0 ≡ Some v → IsAsked form n v class)
    → tests_by form (map known_in metas) ≡ tests_of form operands n
by_form OneKind class [] [] n count first second asked = refl
by_form OneKind class (m ∷ ms) (v ∷ vs) n count first second asked = one_kind m v class (first m v refl refl)
by_form TwoKinds class [] [] n count first second asked = refl
by_form TwoKinds class (m ∷ []) (v ∷ []) n count first second asked = refl
by_form TwoKinds class (m ∷ l ∷ ms) (v ∷ w ∷ vs) n count first second asked = two_kinds m l v w class None (first m v refl refl) (second l w refl refl)
by_form TwoKinds class (m ∷ []) (v ∷ w ∷ vs) n count first second asked = absurd (omega arith)
by_form TwoKinds class (m ∷ l ∷ ms) (v ∷ []) n count first second asked = absurd (omega arith)
by_form Member class [] [] n count first second asked = refl
by_form Member class (m ∷ ms) (v ∷ vs) n count first second asked = member_is m v n (subst (λ (c : Option ℕ). Knows m v c) (asked v refl) (first m v refl refl))
by_form (Index reads) class [] [] n count first second asked = refl
by_form (Index reads) class (m ∷ []) (v ∷ []) n count first second asked = refl
by_form (Index reads) class (m ∷ l ∷ ms) (v ∷ w ∷ vs) n count first second asked =
    let target = first m v refl refl in let key = second l w refl refl in
    index_same reads (known_in m) (known_of n v) (known_in l) (known_of n w) (option_map number_of (class_in_shape m.shape)) target.kind key.kind key.value
    ∙ ap (index_tests reads (known_of n v) (known_of n w)) (target.class_is ∙ asked v refl)
by_form (Index reads) class (m ∷ []) (v ∷ w ∷ vs) n count first second asked = absurd (omega arith)
by_form (Index reads) class (m ∷ l ∷ ms) (v ∷ []) n count first second asked = absurd (omega arith)
by_form Called class [] [] n count first second asked = refl
by_form Called class (m ∷ ms) (v ∷ vs) n count first second asked = called_is m v class (first m v refl refl)
by_form form class [] (v ∷ vs) n count first second asked = absurd (omega arith)
by_form form class (m ∷ ms) [] n count first second asked = absurd (omega arith)

-- whether the tests of a form look at a class
first_is : (operands : List Value) (v : Value) → slice_get operands 0 ≡ Some v → at operands 0 ≡ v
first_is operands v e = ap (λ (o : Option Value). unwrap_or o value.Nil) e

asked_by : (b : Binder) (operands : List Value) (class : Option ℕ) (n : ℕ) (v : Value) → class ≡ cond (looks_at_none b operands) None (Some n) → slice_get operands 0 ≡ Some v → IsAsked (form_of b) n v class
asked_by b operands class n v lent e = by b on_members
  where
    on_members : is_on_members b ≡ true → class ≡ known_class n v
    on_members on =
        lent ∙ ap (λ (w : Value). cond (not (is_on_members b && is_object w)) None (Some n)) (first_is operands v e) ∙ class_asked (is_on_members b) v n on

    by : (k : Binder) → (is_on_members k ≡ true → class ≡ known_class n v) → IsAsked (form_of k) n v class
    by (binder.GetMember name ic) h = h refl
    by (binder.SetMember name ic) h = h refl
    by (binder.DeleteMember name ic) h = h refl
    by binder.GetIndex h = h refl
    by binder.SetIndex h = h refl
    by binder.DeleteIndex h = h refl
    by (binder.InvokeMember name ic info) h = h refl
    by _ h = tt

pub tests_of_operands : (b : Binder) (operands : List Value) (class : Option ClassRef) (metas : List MetaObject) (n : ℕ) → AreMetasOf operands class metas → IsLentFor b operands n class
    → tests_by (form_of b) (map known_in metas) ≡ tests_of (form_of b) operands n
tests_of_operands b operands class metas n are lent =
    by_form (form_of b) (option_map number_of class) metas operands n are.count
    (λ m v e f. knows 0 m v class (are.each 0 m v e f)
    (lent_object (is_on_members b) v class n (lent ∙ ap (λ (w : Value). cond (not (is_on_members b && is_object w)) None (Some n)) (first_is operands v f))))
    (λ m v e f. knows 1 m v None (are.each 1 m v e f) tt)
    (λ v e. asked_by b operands (option_map number_of class) n v lent e)
