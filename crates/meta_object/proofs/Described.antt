-- The tests of a binder hold of all that the metaobjects describe.
use Rattle.std.proofs.Common.{◌≡◌, ℕ, Bool, true, false, ◌&&◌, List, [], ◌∷◌, length, map, Option, None, Some, refl, sym, ◌∙◌, ap, subst, cond, arith, slice_get, nat_eq, nat_le, nat_lt, eq-eqb, encode_utf8_all}
use Rattle.std.specs.Option.{option_map}
use Rattle.std.specs.Str.{bytes_eq}
use Rattle.std.proofs.lemmas.Bool.{and_from}
use Rattle.std.proofs.lemmas.Bool.Decides.{nat_tests}
use Rattle.std.proofs.lemmas.Slice.Eq.{bytes_eq-Decides}
use Rattle.dyn_value.specs.declared.value.Kind.{Kind}
use Rattle.dyn_value.specs.declared.value.Kind.TheVariants as kind
use Rattle.dyn_value.specs.declared.value.Value.{Value}
use Rattle.dyn_value.specs.declared.value.Value.TheVariants as value
use Rattle.dyn_value.specs.Kinds.{kind_of, same_kind}
use Rattle.expando_class.specs.Class.{number_of}
use Rattle.expr_tree.specs.Meanings.{is_fun, is_text, is_long}
use Rattle.object_model.specs.Accesses.{is_key}
use Rattle.restrictions.specs.declared.restriction.Restriction.{Restriction}
use Rattle.restrictions.specs.declared.restriction.Restriction.TheVariants.{Kind as IsKind, Key, LongKey, Class}
use Rattle.restrictions.specs.Meanings.{all_hold}
use Rattle.rule_model.specs.Tests.{Form, OneKind, TwoKinds, Member, Index, Called, member_tests, key_tests, index_tests, called_tests, tests_by}
use Rattle.meta_object.specs.declared.meta.MetaObject.{MetaObject}
use Rattle.meta_object.specs.declared.meta.Shape.{Shape}
use Rattle.meta_object.specs.declared.meta.Shape.TheVariants.{Plain, Expando}
use Rattle.meta_object.specs.Metas.{Describes, IsInClass, IsValue, class_in_shape, kind_in, known_in}

same_itself : (k : Kind) → same_kind k k ≡ true
same_itself kind.Nil = refl
same_itself kind.Bool = refl
same_itself kind.Int = refl
same_itself kind.Text = refl
same_itself kind.Fun = refl
same_itself kind.Obj = refl

-- what is known of one operand
record IsSeen (m : MetaObject) (v : Value) : Type 0 where
  pub kind : kind_of v ≡ kind_in m.shape
  pub value : IsValue m.value v

kind_holds : (k : Kind) (v : Value) → kind_of v ≡ k → (same_kind (kind_of v) k && true) ≡ true
kind_holds k v e = and_from (same_kind (kind_of v) k) true (ap (λ j. same_kind j k) e ∙ same_itself k) refl

kinds_hold : (j k : Kind) (v w : Value) → kind_of v ≡ j → kind_of w ≡ k → (same_kind (kind_of v) j && (same_kind (kind_of w) k && true)) ≡ true
kinds_hold j k v w e f = and_from (same_kind (kind_of v) j) _ (ap (λ i. same_kind i j) e ∙ same_itself j) (kind_holds k w f)

-- what is known of the class of an object
class_seen : (shape : Shape) (n number : ℕ) → option_map number_of (class_in_shape shape) ≡ Some number → IsInClass shape n → (kind_in shape ≡ kind.Obj) × (nat_eq n number ≡ true)
class_seen (Plain k) n number e in_class = cc
class_seen (Expando shown) n number e in_class = (refl, eq-eqb n number (in_class ∙ (let same : number_of shown ≡ number = cc in same)))

member_hold : (m : MetaObject) (v : Value) (operands : List Value) (n : ℕ) (class : Option ℕ) → option_map number_of (class_in_shape m.shape) ≡ class → IsSeen m v → IsInClass m.shape n
    → all_hold (member_tests (kind_in m.shape) class) (v ∷ operands) n ≡ true
member_hold m v operands n None e seen in_class = kind_holds (kind_in m.shape) v seen.kind
member_hold m v operands n (Some number) e seen in_class =
    let class = class_seen m.shape n number e in_class in
    and_from (same_kind (kind_of v) kind.Obj) _ (ap (λ i. same_kind i kind.Obj) (seen.kind ∙ class.0) ∙ refl) (and_from (nat_eq n number) true class.1 refl)

called_hold : (m : MetaObject) (v : Value) (operands : List Value) (n : ℕ) (known : Option Value) → IsValue known v → kind_of v ≡ kind_in m.shape
    → all_hold (called_tests (kind_in m.shape) known) (v ∷ operands) n ≡ true
called_hold m v operands n (Some (value.Fun f)) is seen =
    let both : (same_kind (kind_of v) kind.Fun && (is_fun f v && true)) ≡ true = subst (λ (w : Value). (same_kind (kind_of w) kind.Fun && (is_fun f w && true)) ≡ true) (sym is) (and_from (nat_eq f f) true (eq-eqb f f refl) refl) in
    both
called_hold m v operands n _ is seen = kind_holds (kind_in m.shape) v seen

-- a text is itself, and is long where it may be no name
text_itself : (t : List ℕ) → bytes_eq t t ≡ true
text_itself t = (bytes_eq-Decides t t).1 refl

is_over : (n : ℕ) → nat_le n 64 ≡ false → nat_lt 64 n ≡ true
is_over n e = grind (arith, nat_tests)

text_holds : (v w : Value) (t : List ℕ) (operands : List Value) (n number : ℕ) (short : Bool) → is_key t ≡ short → w ≡ value.Text t → kind_of v ≡ kind.Obj → nat_eq n number ≡ true
    → all_hold (cond short (IsKind 0 kind.Obj ∷ Class number ∷ Key 1 t ∷ []) (IsKind 0 kind.Obj ∷ LongKey 1 ∷ [])) (v ∷ w ∷ operands) n ≡ true
text_holds v w t operands n number true short is object class =
    and_from (same_kind (kind_of v) kind.Obj) _ (ap (λ i. same_kind i kind.Obj) object)
    (and_from (nat_eq n number) _ class (and_from (is_text t w) true (ap (is_text t) is ∙ text_itself t) refl))
text_holds v w t operands n number false short is object class =
    and_from (same_kind (kind_of v) kind.Obj) _ (ap (λ i. same_kind i kind.Obj) object)
    (and_from (is_long w) true (ap is_long is ∙ is_over (length (encode_utf8_all t)) short) refl)

key_hold : (k : Kind) (v w : Value) (operands : List Value) (n number : ℕ) (known : Option Value) → IsValue known w → kind_of w ≡ k → kind_of v ≡ kind.Obj → nat_eq n number ≡ true
    → all_hold (key_tests number k known) (v ∷ w ∷ operands) n ≡ true
key_hold k v w operands n number (Some (value.Text t)) is seen object class = text_holds v w t operands n number (is_key t) refl is object class
key_hold k v w operands n number _ is seen object class = kinds_hold kind.Obj k v w object seen

same_as : (j k : Kind) → same_kind j k ≡ true → j ≡ k
same_as kind.Nil kind.Nil e = refl
same_as kind.Bool kind.Bool e = refl
same_as kind.Int kind.Int e = refl
same_as kind.Text kind.Text e = refl
same_as kind.Fun kind.Fun e = refl
same_as kind.Obj kind.Obj e = refl
same_as _ _ e = cc

and_right : (a b : Bool) → (a && b) ≡ true → b ≡ true
and_right true b e = e
and_right false b e = cc

plain_index_holds : (reads : Bool) (j k : Kind) (v w : Value) (operands : List Value) (n : ℕ) (text : Bool) → (reads && same_kind j kind.Text) ≡ text → kind_of v ≡ j → kind_of w ≡ k
    → all_hold (cond text (IsKind 0 kind.Text ∷ IsKind 1 k ∷ []) (IsKind 0 j ∷ [])) (v ∷ w ∷ operands) n ≡ true
plain_index_holds reads j k v w operands n true is e f = kinds_hold kind.Text k v w (e ∙ same_as j kind.Text (and_right reads (same_kind j kind.Text) is)) f
plain_index_holds reads j k v w operands n false is e f = kind_holds j v e

index_hold : (reads : Bool) (m key : MetaObject) (v w : Value) (operands : List Value) (n : ℕ) (class : Option ℕ) → option_map number_of (class_in_shape m.shape) ≡ class → IsSeen m v → IsSeen key w → IsInClass m.shape n
    → all_hold (index_tests reads (known_in m) (known_in key) class) (v ∷ w ∷ operands) n ≡ true
index_hold reads m key v w operands n None e target seen in_class = plain_index_holds reads (kind_in m.shape) (kind_in key.shape) v w operands n (reads && same_kind (kind_in m.shape) kind.Text) refl target.kind seen.kind
index_hold reads m key v w operands n (Some number) e target seen in_class =
    let class = class_seen m.shape n number e in_class in
    key_hold (kind_in key.shape) v w operands n number key.value seen.value seen.kind (target.kind ∙ class.0) class.1

seen_at : (metas : List MetaObject) (operands : List Value) (n i : ℕ) (m : MetaObject) (v : Value) → Describes metas operands n → slice_get metas i ≡ Some m → slice_get operands i ≡ Some v → IsSeen m v
seen_at metas operands n i m v d e f = record { kind = d.kinds i m v e f; value = d.values i m v e f }

-- by forms of tests
hold_by : (form : Form) (metas : List MetaObject) (operands : List Value) (n : ℕ) → Describes metas operands n → all_hold (tests_by form (map known_in metas)) operands n ≡ true
hold_by OneKind [] operands n d = refl
hold_by OneKind (m ∷ ms) [] n d = let no = d.count in absurd (omega arith)
hold_by OneKind (m ∷ ms) (v ∷ vs) n d = kind_holds (kind_in m.shape) v (d.kinds 0 m v refl refl)
hold_by TwoKinds [] operands n d = refl
hold_by TwoKinds (m ∷ []) operands n d = refl
hold_by TwoKinds (m ∷ l ∷ ms) [] n d = let no = d.count in absurd (omega arith)
hold_by TwoKinds (m ∷ l ∷ ms) (v ∷ []) n d = let no = d.count in absurd (omega arith)
hold_by TwoKinds (m ∷ l ∷ ms) (v ∷ w ∷ vs) n d = kinds_hold (kind_in m.shape) (kind_in l.shape) v w (d.kinds 0 m v refl refl) (d.kinds 1 l w refl refl)
hold_by Member [] operands n d = refl
hold_by Member (m ∷ ms) [] n d = let no = d.count in absurd (omega arith)
hold_by Member (m ∷ ms) (v ∷ vs) n d = member_hold m v vs n (option_map number_of (class_in_shape m.shape)) refl (seen_at (m ∷ ms) (v ∷ vs) n 0 m v d refl refl) (d.in_class m refl)
hold_by (Index reads) [] operands n d = refl
hold_by (Index reads) (m ∷ []) operands n d = refl
hold_by (Index reads) (m ∷ key ∷ ms) [] n d = let no = d.count in absurd (omega arith)
hold_by (Index reads) (m ∷ key ∷ ms) (v ∷ []) n d = let no = d.count in absurd (omega arith)
hold_by (Index reads) (m ∷ key ∷ ms) (v ∷ w ∷ vs) n d =
    index_hold reads m key v w vs n (option_map number_of (class_in_shape m.shape)) refl
    (seen_at (m ∷ key ∷ ms) (v ∷ w ∷ vs) n 0 m v d refl refl) (seen_at (m ∷ key ∷ ms) (v ∷ w ∷ vs) n 1 key w d refl refl) (d.in_class m refl)
hold_by Called [] operands n d = refl
hold_by Called (m ∷ ms) [] n d = let no = d.count in absurd (omega arith)
hold_by Called (m ∷ ms) (v ∷ vs) n d = called_hold m v vs n m.value (d.values 0 m v refl refl) (d.kinds 0 m v refl refl)

pub described_hold : (form : Form) (metas : List MetaObject) (operands : List Value) (n : ℕ) (rs : List Restriction) → rs ≡ tests_by form (map known_in metas) → Describes metas operands n → all_hold rs operands n ≡ true
described_hold form metas operands n rs is d = subst (λ (tests : List Restriction). all_hold tests operands n ≡ true) (sym is) (hold_by form metas operands n d)
