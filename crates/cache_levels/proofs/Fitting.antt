-- The tests made for an operation hold exactly of the operations of its shape.
use Rattle.std.proofs.Common.{◌≡◌, ℕ, ◌==◌, Bool, true, false, ◌&&◌, cond, Decides, List, [], ◌∷◌, map, length, refl, sym, ap, ◌∙◌, eq-eqb, slice_get, arith, encode_utf8_all}
use Rattle.std.specs.List.{list_all}
use Rattle.std.specs.Cmp.Lexicographic.{pointwise}
use Rattle.std.specs.Str.{bytes_eq}
use Rattle.std.proofs.lemmas.Bool.Decides.{Decides-eqb, same_from_decides}
use Rattle.std.proofs.lemmas.Slice.Eq.{bytes_eq-Decides, slice_eq-Decides}
use Rattle.dyn_value.specs.declared.value.Value.{Value}
use Rattle.dyn_value.specs.declared.value.Value.TheVariants as value
use Rattle.dyn_value.specs.declared.value.Kind.{Kind}
use Rattle.dyn_value.specs.declared.value.Kind.TheVariants as kind
use Rattle.dyn_value.specs.Kinds.{kind_of, same_kind}
use Rattle.expr_tree.specs.Meanings.{is_fun, is_text, is_long, passes_there}
use Rattle.object_model.specs.Accesses.{is_key}
use Rattle.restrictions.specs.Meanings.{holds, all_hold}
use Rattle.restrictions.specs.declared.restriction.Restriction.{Restriction}
use Rattle.restrictions.specs.declared.restriction.Restriction.TheVariants.{Kind as IsKind, Fun as IsFun, Key, LongKey, Class}
use Rattle.rule_model.specs.Tests.{Form, OneKind, TwoKinds, Member, Index, Called, tests_of}
use Rattle.cache_levels.specs.Shapes.{Look, AtKind, AtFun, AtKey, AtLong, AtNames, look_of, looks_of}
use Rattle.cache_levels.proofs.SameKinds.{both_parts, both_true, not_true, kind_itself, kinds_decide, fun_is, text_is, object_is}

abbrev pub Names : Type 0
Names = List (List ℕ)

-- as many operands as the tests look at
abbrev pub HasOperands : Form → List Value → Type 0
HasOperands OneKind (target ∷ rest) = Unit {0}
HasOperands TwoKinds (target ∷ other ∷ rest) = Unit {0}
HasOperands Member (target ∷ rest) = Unit {0}
HasOperands (Index reads) (target ∷ key ∷ rest) = Unit {0}
HasOperands Called (target ∷ rest) = Unit {0}
HasOperands _ _ = ⊥

abbrev same_names : Names → Names → Bool
same_names = pointwise bytes_eq

names_decide : (ms ns : Names) → Decides (same_names ms ns) (ms ≡ ns)
names_decide ms ns = slice_eq-Decides bytes_eq-Decides ms ns (same_names ms ns) refl

-- whether what a test looks at is so, of these operands and these names
abbrev is_so : List Value → Names → Look → Bool
is_so operands names (AtKind a k) = passes_there (λ v. same_kind (kind_of v) k) (slice_get operands a)
is_so operands names (AtFun a f) = passes_there (is_fun f) (slice_get operands a)
is_so operands names (AtKey a t) = passes_there (is_text t) (slice_get operands a)
is_so operands names (AtLong a) = passes_there is_long (slice_get operands a)
is_so operands names (AtNames ns) = same_names names ns

abbrev all_so : List Value → Names → List Look → Bool
all_so operands names looks = list_all (is_so operands names) looks

-- a test with the class of another number
abbrev with_class : ℕ → Restriction → Restriction
with_class class (IsKind a k) = IsKind a k
with_class class (IsFun a f) = IsFun a f
with_class class (Key a t) = Key a t
with_class class (LongKey a) = LongKey a
with_class class (Class n) = Class class

-- the tests of an operation, but for the number of its class
reclassed : (form : Form) (operands : List Value) (class : ℕ) → HasOperands form operands
    → tests_of form operands class ≡ map (with_class class) (tests_of form operands 0)
reclassed OneKind (v ∷ vs) class _ = refl
reclassed TwoKinds (v ∷ w ∷ vs) class _ = refl
reclassed Member (v ∷ vs) class _ = by v
  where
    by : (v : Value) → tests_of Member (v ∷ vs) class ≡ map (with_class class) (tests_of Member (v ∷ vs) 0)
    by value.Nil = refl
    by (value.Bool b) = refl
    by (value.Int i) = refl
    by (value.Text s) = refl
    by (value.Fun f) = refl
    by (value.Obj o) = refl
reclassed (Index reads) (v ∷ w ∷ vs) class _ = by reads v w
  where
    of_text : (t : List ℕ) (short : Bool)
        → cond short (IsKind 0 kind.Obj ∷ Class class ∷ Key 1 t ∷ []) (IsKind 0 kind.Obj ∷ LongKey 1 ∷ [])
        ≡ map (with_class class) (cond short (IsKind 0 kind.Obj ∷ Class 0 ∷ Key 1 t ∷ []) (IsKind 0 kind.Obj ∷ LongKey 1 ∷ []))
    of_text t true = refl
    of_text t false = refl

    of_key : (w : Value)
        → tests_of (Index reads) (value.Obj 0 ∷ w ∷ vs) class ≡ map (with_class class) (tests_of (Index reads) (value.Obj 0 ∷ w ∷ vs) 0)
    of_key value.Nil = refl
    of_key (value.Bool b) = refl
    of_key (value.Int i) = refl
    of_key (value.Text s) = of_text s (is_key s)
    of_key (value.Fun f) = refl
    of_key (value.Obj o) = refl

    by : (reads : Bool) (v w : Value) → tests_of (Index reads) (v ∷ w ∷ vs) class ≡ map (with_class class) (tests_of (Index reads) (v ∷ w ∷ vs) 0)
    by true value.Nil w = refl
    by true (value.Bool b) w = refl
    by true (value.Int i) w = refl
    by true (value.Text s) w = refl
    by true (value.Fun f) w = refl
    by false value.Nil w = refl
    by false (value.Bool b) w = refl
    by false (value.Int i) w = refl
    by false (value.Text s) w = refl
    by false (value.Fun f) w = refl
    by reads (value.Obj o) w = of_key w
reclassed Called (v ∷ vs) class _ = by v
  where
    by : (v : Value) → tests_of Called (v ∷ vs) class ≡ map (with_class class) (tests_of Called (v ∷ vs) 0)
    by value.Nil = refl
    by (value.Bool b) = refl
    by (value.Int i) = refl
    by (value.Text s) = refl
    by (value.Fun f) = refl
    by (value.Obj o) = refl
reclassed OneKind [] class h = absurd h
reclassed TwoKinds [] class h = absurd h
reclassed TwoKinds (v ∷ []) class h = absurd h
reclassed Member [] class h = absurd h
reclassed (Index reads) [] class h = absurd h
reclassed (Index reads) (v ∷ []) class h = absurd h
reclassed Called [] class h = absurd h

-- A test made at a class holds, of the class of an operation, exactly where what it looks at is so of the names of that
-- class; where classes have one number exactly where they have one list of names.
module _ (operands : List Value) (class made : ℕ) (names made_names : Names) (same : (class == made) ≡ same_names names made_names) where
  test_is : (r : Restriction) → holds operands class (with_class made r) ≡ is_so operands names (look_of made_names r)
  test_is (IsKind a k) = refl
  test_is (IsFun a f) = refl
  test_is (Key a t) = refl
  test_is (LongKey a) = refl
  test_is (Class n) = same

  tests_are : (rs : List Restriction)
      → list_all (holds operands class) (map (with_class made) rs) ≡ all_so operands names (map (look_of made_names) rs)
  tests_are [] = refl
  tests_are (r ∷ rs) = λ i. test_is r i && tests_are rs i

same_classes : (class made : ℕ) (names made_names : Names) → (class ≡ made → names ≡ made_names) → (names ≡ made_names → class ≡ made)
    → (class == made) ≡ same_names names made_names
same_classes class made names made_names to from = let d = names_decide names made_names in
    same_from_decides (class == made) (same_names names made_names) (Decides-eqb class made) (λ e. from (d.0 e), λ e. d.1 (to e))

-- what the tests of an operation look at is so of the operation itself
long_text : (s : List ℕ) → is_key s ≡ false → is_long (value.Text s) ≡ true
long_text s long = let n : ℕ = length (encode_utf8_all s) in grind arith

itself : (form : Form) (operands : List Value) (names : Names) → HasOperands form operands
    → all_so operands names (looks_of form operands names) ≡ true
itself OneKind (v ∷ vs) names _ = both_true (same_kind (kind_of v) (kind_of v)) true (kind_itself (kind_of v)) refl
itself TwoKinds (v ∷ w ∷ vs) names _ = both_true (same_kind (kind_of v) (kind_of v)) (same_kind (kind_of w) (kind_of w) && true) (kind_itself (kind_of v)) (both_true (same_kind (kind_of w) (kind_of w)) true (kind_itself (kind_of w)) refl)
itself Member (v ∷ vs) names _ = by v
  where
    by : (v : Value) → all_so (v ∷ vs) names (looks_of Member (v ∷ vs) names) ≡ true
    by value.Nil = refl
    by (value.Bool b) = refl
    by (value.Int i) = refl
    by (value.Text s) = refl
    by (value.Fun f) = refl
    by (value.Obj o) = both_true (same_names names names) true ((names_decide names names).1 refl) refl
itself (Index reads) (v ∷ w ∷ vs) names _ = by reads v w
  where
    of_text : (o : ℕ) (s : List ℕ) (short : Bool) → is_key s ≡ short
        → all_so (value.Obj o ∷ value.Text s ∷ vs) names (map (look_of names) (cond short (IsKind 0 kind.Obj ∷ Class 0 ∷ Key 1 s ∷ []) (IsKind 0 kind.Obj ∷ LongKey 1 ∷ []))) ≡ true
    of_text o s true is = both_true (same_names names names) (bytes_eq s s && true) ((names_decide names names).1 refl) (both_true (bytes_eq s s) true ((bytes_eq-Decides s s).1 refl) refl)
    of_text o s false is = both_true (is_long (value.Text s)) true (long_text s is) refl

    of_kind : (v w : Value) → (same_kind (kind_of w) (kind_of w) && true) ≡ true
    of_kind v w = both_true (same_kind (kind_of w) (kind_of w)) true (kind_itself (kind_of w)) refl

    by : (reads : Bool) (v w : Value) → all_so (v ∷ w ∷ vs) names (looks_of (Index reads) (v ∷ w ∷ vs) names) ≡ true
    by true value.Nil w = refl
    by true (value.Bool b) w = refl
    by true (value.Int i) w = refl
    by true (value.Text s) w = of_kind (value.Text s) w
    by true (value.Fun f) w = refl
    by false value.Nil w = refl
    by false (value.Bool b) w = refl
    by false (value.Int i) w = refl
    by false (value.Text s) w = refl
    by false (value.Fun f) w = refl
    by reads (value.Obj o) value.Nil = refl
    by reads (value.Obj o) (value.Bool b) = refl
    by reads (value.Obj o) (value.Int i) = refl
    by reads (value.Obj o) (value.Text s) = of_text o s (is_key s) refl
    by reads (value.Obj o) (value.Fun f) = refl
    by reads (value.Obj o) (value.Obj p) = refl
itself Called (v ∷ vs) names _ = by v
  where
    by : (v : Value) → all_so (v ∷ vs) names (looks_of Called (v ∷ vs) names) ≡ true
    by value.Nil = refl
    by (value.Bool b) = refl
    by (value.Int i) = refl
    by (value.Text s) = refl
    by (value.Fun f) = both_true (f == f) true (eq-eqb f f refl) refl
    by (value.Obj o) = refl
itself OneKind [] names h = absurd h
itself TwoKinds [] names h = absurd h
itself TwoKinds (v ∷ []) names h = absurd h
itself Member [] names h = absurd h
itself (Index reads) [] names h = absurd h
itself (Index reads) (v ∷ []) names h = absurd h
itself Called [] names h = absurd h

-- Where all that the tests of one operation look at is so of another, those of the other look at the same.
true_not : {P : Type 0} → true ≡ false → P
true_not e = absurd (let z : true ≡ false = e in cc)

kind_first : (v : Value) (k : Kind) (others : Bool) → (same_kind (kind_of v) k && others) ≡ true → kind_of v ≡ k
kind_first v k others h = (kinds_decide (kind_of v) k).0 (both_parts (same_kind (kind_of v) k) others h).0

-- the same test of a kind that is equal
other_kind : (k j other : Kind) → k ≡ j → same_kind j other ≡ false → same_kind k other ≡ false
other_kind k j other e no_other = ap (λ (l : Kind). same_kind l other) e ∙ no_other

-- a member operation, by the kind of its target
abbrev member_looks : Kind → Names → List Look
member_looks kind.Obj ns = AtKind 0 kind.Obj ∷ AtNames ns ∷ []
member_looks k ns = AtKind 0 k ∷ []

member_kind : (v : Value) (vs : List Value) (ns : Names) → looks_of Member (v ∷ vs) ns ≡ member_looks (kind_of v) ns
member_kind value.Nil vs ns = refl
member_kind (value.Bool b) vs ns = refl
member_kind (value.Int i) vs ns = refl
member_kind (value.Text s) vs ns = refl
member_kind (value.Fun f) vs ns = refl
member_kind (value.Obj o) vs ns = refl

-- a call of anything but a function
called_plain : (v : Value) (vs : List Value) (ns : Names) → same_kind (kind_of v) kind.Fun ≡ false
    → looks_of Called (v ∷ vs) ns ≡ AtKind 0 (kind_of v) ∷ []
called_plain value.Nil vs ns e = refl
called_plain (value.Bool b) vs ns e = refl
called_plain (value.Int i) vs ns e = refl
called_plain (value.Text s) vs ns e = refl
called_plain (value.Fun f) vs ns e = true_not e
called_plain (value.Obj o) vs ns e = refl

-- an index of anything but an object, by its kind
abbrev index_looks : Bool → Kind → Kind → List Look
index_looks reads k j = cond (reads && same_kind k kind.Text) (AtKind 0 kind.Text ∷ AtKind 1 j ∷ []) (AtKind 0 k ∷ [])

index_plain : (reads : Bool) (v w : Value) (vs : List Value) (ns : Names) → same_kind (kind_of v) kind.Obj ≡ false
    → looks_of (Index reads) (v ∷ w ∷ vs) ns ≡ index_looks reads (kind_of v) (kind_of w)
index_plain true value.Nil w vs ns e = refl
index_plain true (value.Bool b) w vs ns e = refl
index_plain true (value.Int i) w vs ns e = refl
index_plain true (value.Text s) w vs ns e = refl
index_plain true (value.Fun f) w vs ns e = refl
index_plain false value.Nil w vs ns e = refl
index_plain false (value.Bool b) w vs ns e = refl
index_plain false (value.Int i) w vs ns e = refl
index_plain false (value.Text s) w vs ns e = refl
index_plain false (value.Fun f) w vs ns e = refl
index_plain reads (value.Obj o) w vs ns e = true_not e

-- an index of an object, by a key that is no text, and by a text
key_plain : (reads : Bool) (o : ℕ) (w : Value) (vs : List Value) (ns : Names) → same_kind (kind_of w) kind.Text ≡ false
    → looks_of (Index reads) (value.Obj o ∷ w ∷ vs) ns ≡ AtKind 0 kind.Obj ∷ AtKind 1 (kind_of w) ∷ []
key_plain reads o value.Nil vs ns e = refl
key_plain reads o (value.Bool b) vs ns e = refl
key_plain reads o (value.Int i) vs ns e = refl
key_plain reads o (value.Text s) vs ns e = true_not e
key_plain reads o (value.Fun f) vs ns e = refl
key_plain reads o (value.Obj p) vs ns e = refl

abbrev text_looks : Bool → List ℕ → Names → List Look
text_looks short s ns = map (look_of ns) (cond short (IsKind 0 kind.Obj ∷ Class 0 ∷ Key 1 s ∷ []) (IsKind 0 kind.Obj ∷ LongKey 1 ∷ []))

key_text : (reads short : Bool) (o : ℕ) (s : List ℕ) (vs : List Value) (ns : Names) → is_key s ≡ short
    → looks_of (Index reads) (value.Obj o ∷ value.Text s ∷ vs) ns ≡ text_looks short s ns
key_text reads short o s vs ns is = ap (λ b. text_looks b s ns) is

record IsLongText (v : Value) : Type 0 where
  text : List ℕ
  is : v ≡ value.Text text
  long : is_key text ≡ false

long_is : (v : Value) → is_long v ≡ true → IsLongText v
long_is (value.Text s) e = record { text = s; is = refl; long = let n : ℕ = length (encode_utf8_all s) in grind arith }
long_is value.Nil e = not_true e
long_is (value.Bool b) e = not_true e
long_is (value.Int i) e = not_true e
long_is (value.Fun f) e = not_true e
long_is (value.Obj o) e = not_true e

module _ (t : Value) (ts vs : List Value) (names made_names : Names) where
  member_same : (v : Value) → all_so (t ∷ ts) names (looks_of Member (v ∷ vs) made_names) ≡ true
      → looks_of Member (t ∷ ts) names ≡ looks_of Member (v ∷ vs) made_names
  member_same (value.Obj o) h = let rest = same_names names made_names && true in let own = both_parts (same_kind (kind_of t) kind.Obj) rest h in
      member_kind t ts names ∙ ap (λ (k : Kind). member_looks k names) (kind_first t kind.Obj rest h)
      ∙ ap (member_looks kind.Obj) ((names_decide names made_names).0 (both_parts (same_names names made_names) true own.1).0)
  member_same value.Nil h = member_kind t ts names ∙ ap (λ (k : Kind). member_looks k names) (kind_first t kind.Nil true h)
  member_same (value.Bool b) h = member_kind t ts names ∙ ap (λ (k : Kind). member_looks k names) (kind_first t kind.Bool true h)
  member_same (value.Int i) h = member_kind t ts names ∙ ap (λ (k : Kind). member_looks k names) (kind_first t kind.Int true h)
  member_same (value.Text s) h = member_kind t ts names ∙ ap (λ (k : Kind). member_looks k names) (kind_first t kind.Text true h)
  member_same (value.Fun f) h = member_kind t ts names ∙ ap (λ (k : Kind). member_looks k names) (kind_first t kind.Fun true h)

  called_kind : (k : Kind) → same_kind k kind.Fun ≡ false → (same_kind (kind_of t) k && true) ≡ true
      → looks_of Called (t ∷ ts) names ≡ AtKind 0 k ∷ []
  called_kind k plain h = let q = kind_first t k true h in called_plain t ts names (other_kind (kind_of t) k kind.Fun q plain) ∙ ap (λ (j : Kind). AtKind 0 j ∷ []) q

  called_same : (v : Value) → all_so (t ∷ ts) names (looks_of Called (v ∷ vs) made_names) ≡ true
      → looks_of Called (t ∷ ts) names ≡ looks_of Called (v ∷ vs) made_names
  called_same value.Nil h = called_kind kind.Nil refl h
  called_same (value.Bool b) h = called_kind kind.Bool refl h
  called_same (value.Int i) h = called_kind kind.Int refl h
  called_same (value.Text s) h = called_kind kind.Text refl h
  called_same (value.Fun f) h = let p = both_parts (same_kind (kind_of t) kind.Fun) (is_fun f t && true) h in
      ap (λ (z : Value). looks_of Called (z ∷ ts) names) (fun_is f t (both_parts (is_fun f t) true p.1).0)
  called_same (value.Obj o) h = called_kind kind.Obj refl h

module _ (reads : Bool) (t u : Value) (ts vs : List Value) (names made_names : Names) where
  -- of anything but an object
  index_kind : (k : Kind) (others : Bool) → same_kind k kind.Obj ≡ false → (same_kind (kind_of t) k && others) ≡ true
      → looks_of (Index reads) (t ∷ u ∷ ts) names ≡ index_looks reads k (kind_of u)
  index_kind k others plain h = let q = kind_first t k others h in
      index_plain reads t u ts names (other_kind (kind_of t) k kind.Obj q plain) ∙ ap (λ (j : Kind). index_looks reads j (kind_of u)) q

  -- of an object
  index_object : (others : Bool) → (same_kind (kind_of t) kind.Obj && others) ≡ true
      → (o : ℕ) × (looks_of (Index reads) (t ∷ u ∷ ts) names ≡ looks_of (Index reads) (value.Obj o ∷ u ∷ ts) names)
  index_object others h = let a = object_is t (kind_first t kind.Obj others h) in (a.0, ap (λ (z : Value). looks_of (Index reads) (z ∷ u ∷ ts) names) a.1)

  key_kind : (k : Kind) → same_kind k kind.Text ≡ false → (same_kind (kind_of t) kind.Obj && (same_kind (kind_of u) k && true)) ≡ true
      → looks_of (Index reads) (t ∷ u ∷ ts) names ≡ AtKind 0 kind.Obj ∷ AtKind 1 k ∷ []
  key_kind k plain h = let others = same_kind (kind_of u) k && true in let a = index_object others h in let q = kind_first u k true (both_parts (same_kind (kind_of t) kind.Obj) others h).1 in
      a.1 ∙ key_plain reads a.0 u ts names (other_kind (kind_of u) k kind.Text q plain) ∙ ap (λ (j : Kind). AtKind 0 kind.Obj ∷ AtKind 1 j ∷ []) q

  key_by : (s : List ℕ) (short : Bool) → is_key s ≡ short → all_so (t ∷ u ∷ ts) names (text_looks short s made_names) ≡ true
      → looks_of (Index reads) (t ∷ u ∷ ts) names ≡ text_looks short s made_names
  key_by s true is h = let others = same_names names made_names && (is_text s u && true) in let a = index_object others h in
      let p = both_parts (same_names names made_names) (is_text s u && true) (both_parts (same_kind (kind_of t) kind.Obj) others h).1 in
      a.1 ∙ ap (λ (z : Value). looks_of (Index reads) (value.Obj a.0 ∷ z ∷ ts) names) (text_is s u (both_parts (is_text s u) true p.1).0)
      ∙ key_text reads true a.0 s ts names is ∙ ap (text_looks true s) ((names_decide names made_names).0 p.0)
  key_by s false is h = let others = is_long u && true in let a = index_object others h in
      let w = long_is u (both_parts (is_long u) true (both_parts (same_kind (kind_of t) kind.Obj) others h).1).0 in
      a.1 ∙ ap (λ (z : Value). looks_of (Index reads) (value.Obj a.0 ∷ z ∷ ts) names) w.is ∙ key_text reads false a.0 w.text ts names w.long

module _ (t u : Value) (ts vs : List Value) (names made_names : Names) where
  key_same : (reads : Bool) (o : ℕ) (w : Value) → all_so (t ∷ u ∷ ts) names (looks_of (Index reads) (value.Obj o ∷ w ∷ vs) made_names) ≡ true
      → looks_of (Index reads) (t ∷ u ∷ ts) names ≡ looks_of (Index reads) (value.Obj o ∷ w ∷ vs) made_names
  key_same reads o value.Nil h = key_kind reads t u ts vs names made_names kind.Nil refl h
  key_same reads o (value.Bool b) h = key_kind reads t u ts vs names made_names kind.Bool refl h
  key_same reads o (value.Int i) h = key_kind reads t u ts vs names made_names kind.Int refl h
  key_same reads o (value.Text s) h = key_by reads t u ts vs names made_names s (is_key s) refl h
  key_same reads o (value.Fun f) h = key_kind reads t u ts vs names made_names kind.Fun refl h
  key_same reads o (value.Obj p) h = key_kind reads t u ts vs names made_names kind.Obj refl h

  index_same : (reads : Bool) (v w : Value) → all_so (t ∷ u ∷ ts) names (looks_of (Index reads) (v ∷ w ∷ vs) made_names) ≡ true
      → looks_of (Index reads) (t ∷ u ∷ ts) names ≡ looks_of (Index reads) (v ∷ w ∷ vs) made_names
  index_same true value.Nil w h = index_kind true t u ts vs names made_names kind.Nil true refl h
  index_same true (value.Bool b) w h = index_kind true t u ts vs names made_names kind.Bool true refl h
  index_same true (value.Int i) w h = index_kind true t u ts vs names made_names kind.Int true refl h
  index_same true (value.Text s) w h = let others = same_kind (kind_of u) (kind_of w) && true in
      index_kind true t u ts vs names made_names kind.Text others refl h
      ∙ ap (index_looks true kind.Text) (kind_first u (kind_of w) true (both_parts (same_kind (kind_of t) kind.Text) others h).1)
  index_same true (value.Fun f) w h = index_kind true t u ts vs names made_names kind.Fun true refl h
  index_same false value.Nil w h = index_kind false t u ts vs names made_names kind.Nil true refl h
  index_same false (value.Bool b) w h = index_kind false t u ts vs names made_names kind.Bool true refl h
  index_same false (value.Int i) w h = index_kind false t u ts vs names made_names kind.Int true refl h
  index_same false (value.Text s) w h = index_kind false t u ts vs names made_names kind.Text true refl h
  index_same false (value.Fun f) w h = index_kind false t u ts vs names made_names kind.Fun true refl h
  index_same reads (value.Obj o) w h = key_same reads o w h

looks_same : (form : Form) (made asked : List Value) (made_names names : Names) → HasOperands form made → HasOperands form asked
    → all_so asked names (looks_of form made made_names) ≡ true → looks_of form asked names ≡ looks_of form made made_names
looks_same OneKind (v ∷ vs) (t ∷ ts) made_names names _ _ h = ap (λ (k : Kind). AtKind 0 k ∷ []) (kind_first t (kind_of v) true h)
looks_same TwoKinds (v ∷ w ∷ vs) (t ∷ u ∷ ts) made_names names _ _ h = let others = same_kind (kind_of u) (kind_of w) && true in let p = both_parts (same_kind (kind_of t) (kind_of v)) others h in
    ap (λ (k : Kind). AtKind 0 k ∷ AtKind 1 (kind_of u) ∷ []) (kind_first t (kind_of v) others h) ∙ ap (λ (k : Kind). AtKind 0 (kind_of v) ∷ AtKind 1 k ∷ []) (kind_first u (kind_of w) true p.1)
looks_same Member (v ∷ vs) (t ∷ ts) made_names names _ _ h = member_same t ts vs names made_names v h
looks_same (Index reads) (v ∷ w ∷ vs) (t ∷ u ∷ ts) made_names names _ _ h = index_same t u ts vs names made_names reads v w h
looks_same Called (v ∷ vs) (t ∷ ts) made_names names _ _ h = called_same t ts vs names made_names v h
looks_same OneKind [] asked made_names names m _ h = absurd m
looks_same OneKind (v ∷ vs) [] made_names names _ a h = absurd a
looks_same TwoKinds [] asked made_names names m _ h = absurd m
looks_same TwoKinds (v ∷ []) asked made_names names m _ h = absurd m
looks_same TwoKinds (v ∷ w ∷ vs) [] made_names names _ a h = absurd a
looks_same TwoKinds (v ∷ w ∷ vs) (t ∷ []) made_names names _ a h = absurd a
looks_same Member [] asked made_names names m _ h = absurd m
looks_same Member (v ∷ vs) [] made_names names _ a h = absurd a
looks_same (Index reads) [] asked made_names names m _ h = absurd m
looks_same (Index reads) (v ∷ []) asked made_names names m _ h = absurd m
looks_same (Index reads) (v ∷ w ∷ vs) [] made_names names _ a h = absurd a
looks_same (Index reads) (v ∷ w ∷ vs) (t ∷ []) made_names names _ a h = absurd a
looks_same Called [] asked made_names names m _ h = absurd m
looks_same Called (v ∷ vs) [] made_names names _ a h = absurd a

-- The tests made for an operation hold of another exactly where both look at the same; where classes have one number
-- exactly where they have one list of names.
pub passes_exactly : (form : Form) (made asked : List Value) (made_class class : ℕ) (made_names names : Names) → HasOperands form made
    → HasOperands form asked
    → (class ≡ made_class → names ≡ made_names) → (names ≡ made_names → class ≡ made_class)
    → Decides (all_hold (tests_of form made made_class) asked class) (looks_of form asked names ≡ looks_of form made made_names)
passes_exactly form made asked made_class class made_names names m a to from =
    let same = same_classes class made_class names made_names to from in
    let is : all_hold (tests_of form made made_class) asked class ≡ all_so asked names (looks_of form made made_names) =
    ap (list_all (holds asked class)) (reclassed form made made_class m) ∙ tests_are asked class made_class names made_names same (tests_of form made 0) in (
      λ h. looks_same form made asked made_names names m a (sym is ∙ h),
      λ e. is ∙ ap (all_so asked names) (sym e) ∙ itself form asked names a,
    )
