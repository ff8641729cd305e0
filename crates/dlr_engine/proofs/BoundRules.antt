-- Operations that can be bound, and the rules that are bound for them.
use Rattle.std.proofs.Common.{◌≡◌, ℕ, zero, suc, ◌+◌, ◌<◌, ◌≤◌, Bool, true, false, List, [], ◌∷◌, ◌++◌, length, ◌⊎◌, inl, inr, Option, None, Some, Result, Ok, Err, IfOk, refl, sym, ◌∙◌, ap, subst, arith, slice_get, get_or, take, length-append}
use Rattle.std.proofs.Math.Logic.{∥∥₁_elim}
use Rattle.std.proofs.Props.{props}
use Rattle.std.specs.List.{AllByRecursion, list_all}
use Rattle.std.specs.Prelude.{encode_utf8_all, nat_le, IsTrue, IfSome, IsSomeAnd, not, ◌&&◌}
use Rattle.std.proofs.lemmas.List.{length-take-le, take_all, take_more}
use Rattle.std.proofs.lemmas.Bool.{and_parts, le-leb}
use Rattle.std.proofs.lemmas.List.Elements.{All-get_or}
use Rattle.std.proofs.lemmas.Option.{slice_get_within, slice_get-get_or}
use Rattle.std.proofs.Math.Utf8.{scalars}
use Rattle.dyn_value.specs.declared.outcome.Outcome.{Outcome}
use Rattle.dyn_value.specs.declared.value.Value.{Value}
use Rattle.dyn_value.specs.declared.value.Value.TheVariants as value
use Rattle.dyn_value.specs.Kinds.{kind_of}
use Rattle.dyn_value.specs.Outcomes.{at}
use Rattle.dyn_value.specs.Proper.{IsProperIn}
use Rattle.expando_class.specs.declared.class.ClassRef.{ClassRef}
use Rattle.expando_class.specs.declared.pass.ClassPass.{ClassPass}
use Rattle.expando_class.specs.declared.table.ClassTable.{ClassTable}
use Rattle.expando_class.specs.Class.{number_of, IsClassOf}
use Rattle.expando_class.specs.Pass.{IsPassOf}
use Rattle.expr_tree.specs.declared.node.Node.{Node}
use Rattle.expr_tree.specs.Meanings.{State, IsThere, answer_in, is_plain, passes}
use Rattle.expr_tree.specs.Trees.{root}
use Rattle.standard_binders.specs.declared.binder.Binder.{Binder}
use Rattle.standard_binders.specs.declared.binder.Binder.TheVariants as binder
use Rattle.standard_binders.specs.Binders.{is_on_members, operand_count_of}
use Rattle.standard_binders.specs.Functions.{Functions, HaveFewParameters}
use Rattle.object_model.specs.Accesses.{is_key}
use Rattle.object_model.specs.Plain.{plain_step}
use Rattle.object_model.specs.Steps.{OnObject, if_on_members, on_object}
use Rattle.rule_model.specs.Soundness.{Answers, IsSound, Suit, looks_at_none}
use Rattle.rule_model.specs.Tests.{known_value}
use Rattle.meta_object.specs.declared.meta.MetaObject.{MetaObject}
use Rattle.meta_object.specs.Metas.{Describes, IsLendable, IsMetaOf, class_in_shape, has_few, has_key, is_callable, shape_with, target_class}
use Rattle.meta_object.specs.Operands.{AreMetasOf, CanBeBound, IsLentFor, lent_at}
use Rattle.rule.specs.declared.rule.Rule.{Rule}
use Rattle.rule.specs.Rules.{IsBoundRule, IsSoundRule, binder_of, body_of, claim_of, test_of}
use Rattle.script_program.specs.Names.{has_short_names, is_short_name}
use Rattle.dlr_engine.specs.declared.operation.Operation.{Operation}
use Rattle.dlr_engine.specs.Bindings.{IsBindable, IsClaimedOf, IsRuleFor}
use Rattle.dlr_engine.proofs.Commits.{root_there, root_plain}

pub if_ok : {T E : Type 0} {P Q : T → Type 0} (r : Result T E) → ((x : T) → P x → Q x) → IfOk r P → IfOk r Q
if_ok (Ok x) each p = each x p
if_ok (Err e) each p = tt

-- a name that is short may be that of a member
key_by : (name : List ℕ) → is_short_name name ≡ true → IsTrue (is_key name)
key_by name short = (and_parts (scalars name) (nat_le (length (encode_utf8_all name)) 64) short).1

key_of : (b : Binder) → has_short_names b ≡ true → IsTrue (has_key b)
key_of (binder.GetMember name ignore_case) short = key_by name short
key_of (binder.SetMember name ignore_case) short = key_by name short
key_of (binder.DeleteMember name ignore_case) short = key_by name short
key_of (binder.InvokeMember name ignore_case info) short = key_by name (and_parts (is_short_name name) (list_all is_short_name info.names) short).0
key_of _ short = refl

at_place : {A : Type 0} (P : A → Type 0) (xs : List A) (i : ℕ) (x : A) → AllByRecursion P xs → slice_get xs i ≡ Some x → P x
at_place P [] i x all at = cc
at_place P (y ∷ ys) zero x all at = let same : y ≡ x = cc in subst P same all.0
at_place P (y ∷ ys) (suc i) x all at = at_place P ys i x all.1 at

-- a function has few parameters
few_of : (functions : Functions) (f : ℕ) → HaveFewParameters functions → f < length functions → has_few (slice_get functions f) ≡ true
few_of functions f few inside =
    let at : slice_get functions f ≡ Some (get_or functions f []) = slice_get-get_or functions f [] inside in
    ap has_few at ∙ le-leb (length (get_or functions f [])) 16 (All-get_or (λ parameters. length parameters ≤ 16) functions f [] inside few)

-- a proper operand that is a function is one of the language
callable_of : (functions : Functions) (objects : ℕ) (v : Value) → HaveFewParameters functions → IsProperIn (length functions) objects v
    → IsTrue (is_callable functions (known_value v))
callable_of functions objects value.Nil few proper = refl
callable_of functions objects (value.Bool b) few proper = refl
callable_of functions objects (value.Int n) few proper = refl
callable_of functions objects (value.Text t) few proper = refl
callable_of functions objects (value.Fun f) few proper = few_of functions f few proper.0
callable_of functions objects (value.Obj o) few proper = refl

own_if : (table : ClassTable) (class : Option ClassRef) → ((shown : ClassRef) → class ≡ Some shown → IsClassOf table shown) → IfSome class (IsClassOf table)
own_if table None each = tt
own_if table (Some shown) each = each shown refl

pub can_be_bound : (functions : Functions) (table : ClassTable) (pass : ClassPass) (b : Binder) (operands : List Value) (class : Option ClassRef)
    → HaveFewParameters functions
    → IsPassOf table pass → IsBindable functions table b operands class → CanBeBound functions table pass b operands class
can_be_bound functions table pass b operands class few own is = record {
  key = key_of b is.short_names;
  suit = is.suit;
  own = own;
  of = own_if table class is.of;
  callable = λ i v at. callable_of functions is.objects v few (at_place (IsProperIn (length functions) is.objects) operands i v is.proper at);
}

some_operands : (b : Binder) → 1 ≤ operand_count_of b
some_operands (binder.GetMember name ignore_case) = omega arith
some_operands (binder.SetMember name ignore_case) = omega arith
some_operands (binder.DeleteMember name ignore_case) = omega arith
some_operands binder.GetIndex = omega arith
some_operands binder.SetIndex = omega arith
some_operands binder.DeleteIndex = omega arith
some_operands (binder.Invoke info) = omega arith
some_operands (binder.InvokeMember name ignore_case info) = omega arith
some_operands (binder.CreateInstance info) = omega arith
some_operands (binder.Convert to) = omega arith
some_operands (binder.UnaryOperation op) = omega arith
some_operands (binder.BinaryOperation op) = omega arith

shown_class : (class : Option ClassRef) (v : Value) → class_in_shape (shape_with class v) ≡ class
shown_class None v = refl
shown_class (Some shown) v = refl

target_is : (operands : List Value) (class : Option ClassRef) (metas : List MetaObject) → AreMetasOf operands class metas → 1 ≤ length operands
    → target_class metas ≡ class
target_is [] class metas are some = absurd (omega (arith, some))
target_is (v ∷ vs) class [] are some = absurd (omega (arith, are.count))
target_is (v ∷ vs) class (m ∷ ms) are some = ap class_in_shape (are.each 0 m v refl refl).shape_is ∙ shown_class class v

-- a rule that was bound by the operands' metaobjects is one for the operation
pub rule_for : (functions : Functions) (pass : ClassPass) (table : ClassTable) (b : Binder) (operands : List Value) (class : Option ClassRef)
    (metas : List MetaObject) (r : Rule)
    → IsBindable functions table b operands class → AreMetasOf operands class metas
    → ((number : ℕ) → IsLentFor b operands number class → Describes metas operands number)
    → IsSoundRule r → IsBoundRule functions pass b metas r → IsRuleFor functions pass b operands class r
rule_for functions pass table b operands class metas r is are describe sound bound = record {
  binder_is = bound.binder_is;
  sound = sound;
  passes = λ number lent. bound.passing operands number (describe number lent);
  lists = λ c at. subst (λ (shown : Option ClassRef). IsSomeAnd shown (IsClaimedOf pass c))
      (target_is operands class metas are (let some = some_operands b in omega (arith, is.suit, some))) (bound.holds.class c at);
  fun = bound.holds.fun;
}

-- metaobjects, one after the other

-- what stands in a grown list stood there before, or is the new one at its end
grown_got : {A : Type 0} (bs : List A) (x b : A) (n : ℕ) → slice_get (bs ++ x ∷ []) n ≡ Some b → (slice_get bs n ≡ Some b) ⊎ ((n ≡ length bs) × (x ≡ b))
grown_got [] x b zero e = inr (refl, cc)
grown_got [] x b (suc n) e = absurd (cc)
grown_got (c ∷ bs) x b zero e = inl e
grown_got (c ∷ bs) x b (suc n) e = elim (grown_got bs x b n e) [ inl h ↦ inl h | inr h ↦ inr (omega arith, h.1) ]

pub no_metas : (class : Option ClassRef) (metas : List MetaObject) → metas ≡ [] → AreMetasOf [] class metas
no_metas class metas none = subst (AreMetasOf [] class) (sym none) (record { count = refl; each = λ i m v e f. cc })

pub metas_push : (operands : List Value) (class : Option ClassRef) (metas : List MetaObject) (v : Value) (m : MetaObject) → AreMetasOf operands class metas
    → IsMetaOf (length operands) v (lent_at (length operands) class) m → AreMetasOf (operands ++ v ∷ []) class (metas ++ m ∷ [])
metas_push operands class metas v m are is = record {
  count = omega (arith, length-append operands (v ∷ []), length-append metas (m ∷ []), are.count);
  each = λ i n w at_m at_v. elim (grown_got metas m n i at_m) [
    | inl old ↦ elim (grown_got operands v w i at_v) [
      | inl given ↦ are.each i n w old given
      | inr last ↦ let inside = slice_get_within metas i n old in absurd (omega (arith, inside, last.0, are.count))
    ]
    | inr new ↦ elim (grown_got operands v w i at_v) [
      | inl given ↦ let inside = slice_get_within operands i w given in absurd (omega (arith, inside, new.0, are.count))
      | inr last ↦ subst (λ (k : ℕ). IsMetaOf k w (lent_at k class) n) (sym last.0)
          (subst (λ (x : Value). IsMetaOf (length operands) x (lent_at (length operands) class) n) last.1
          (subst (λ (y : MetaObject). IsMetaOf (length operands) v (lent_at (length operands) class) y) new.1 is))
    ]
  ];
}

-- which class is lent

looks_by : (on : Bool) (b : Binder) (o : ℕ) (rest : List Value) (x : OnObject) → is_on_members b ≡ on
    → if_on_members on (record { object = o; operands = rest }) ≡ Some x → looks_at_none b (value.Obj o ∷ rest) ≡ false
looks_by true b o rest x on is = rw on refl
looks_by false b o rest x on is = cc

looks_at_one : (b : Binder) (operands : List Value) (x : OnObject) → on_object b operands ≡ Some x → looks_at_none b operands ≡ false
looks_at_one b (value.Obj o ∷ rest) x is = looks_by (is_on_members b) b o rest x refl is
looks_at_one b _ x is = cc

pub lent_on : (b : Binder) (operands : List Value) (x : OnObject) (class : ClassRef) → on_object b operands ≡ Some x
    → IsLentFor b operands (number_of class) (Some class)
lent_on b operands x class is = let looks = looks_at_one b operands x is in rw looks refl

none_by : (on : Bool) (b : Binder) (o : ℕ) (rest : List Value) → is_on_members b ≡ on
    → if_on_members on (record { object = o; operands = rest }) ≡ None → looks_at_none b (value.Obj o ∷ rest) ≡ true
none_by true b o rest on is = cc
none_by false b o rest on is = rw on refl

not_both : (on : Bool) → not (on && false) ≡ true
not_both true = refl
not_both false = refl

pub looks_none : (b : Binder) (operands : List Value) → on_object b operands ≡ None → looks_at_none b operands ≡ true
looks_none b [] is = not_both (is_on_members b)
looks_none b (value.Obj o ∷ rest) is = none_by (is_on_members b) b o rest refl is
looks_none b (value.Nil ∷ rest) is = not_both (is_on_members b)
looks_none b (value.Bool t ∷ rest) is = not_both (is_on_members b)
looks_none b (value.Int n ∷ rest) is = not_both (is_on_members b)
looks_none b (value.Text t ∷ rest) is = not_both (is_on_members b)
looks_none b (value.Fun f ∷ rest) is = not_both (is_on_members b)

pub lent_none_of : (b : Binder) (operands : List Value) (number : ℕ) → on_object b operands ≡ None → IsLentFor b operands number None
lent_none_of b operands number is = let looks = looks_none b operands is in rw looks refl

same_target : (a b : OnObject) → Some a ≡ Some b → a ≡ b
same_target a b is = cc

split_by : (on : Bool) (o : ℕ) (rest : List Value) (x : OnObject) → if_on_members on (record { object = o; operands = rest }) ≡ Some x
    → value.Obj o ∷ rest ≡ value.Obj x.object ∷ x.operands
split_by true o rest x is = ap (λ (y : OnObject). value.Obj y.object ∷ y.operands) (same_target (record { object = o; operands = rest }) x is)
split_by false o rest x is = cc

-- the operands of an operation on an object
pub on_object_split : (b : Binder) (operands : List Value) (x : OnObject) → on_object b operands ≡ Some x → operands ≡ value.Obj x.object ∷ x.operands
on_object_split b (value.Obj o ∷ rest) x is = split_by (is_on_members b) o rest x is
on_object_split b _ x is = cc

pub lendable_on : (operands arguments : List Value) (o : ℕ) (class : ClassRef) → operands ≡ value.Obj o ∷ arguments → (v : Value)
    → slice_get operands 0 ≡ Some v → IsLendable (Some class) v
lendable_on operands arguments o class is v at =
    let same : value.Obj o ≡ v = some_value (value.Obj o) v (sym (ap (λ (vs : List Value). slice_get vs 0) is) ∙ at) in ap kind_of (sym same)
  where
    some_value : (a b : Value) → Some a ≡ Some b → a ≡ b
    some_value a b e = cc

-- a rule for an operation that looks at no object

abbrev no_object : State
no_object = record { class = 0; names = []; values = [] }

plain_of : (functions : Functions) (pass : ClassPass) (b : Binder) (operands : List Value) (r : Rule) → IsRuleFor functions pass b operands None r
    → on_object b operands ≡ None → Suit b operands
    → IsSound (binder_of r) (passes (test_of r)) (body_of r) (claim_of r) → Answers (body_of r) operands no_object (plain_step functions b operands)
plain_of functions pass b operands r rule none suit sound =
    let sound_for : IsSound b (passes (test_of r)) (body_of r) (claim_of r) = subst (λ (x : Binder). IsSound x (passes (test_of r)) (body_of r)
    (claim_of r)) rule.binder_is sound in
    sound_for.plain functions no_object operands (looks_none b operands none) suit (rule.passes 0 (lent_none_of b operands 0 none)) rule.fun

there_prop : (operands : List Value) (n : Node) → IsProp (IsThere operands [] n)
there_prop operands n = hlevel props

plain_prop : (n : Node) → IsProp (IsTrue (is_plain n))
plain_prop n = hlevel props

outcome_is_prop : (a b : Outcome) → IsProp (a ≡ b)
outcome_is_prop a b = hlevel props

pub plain_there : (functions : Functions) (pass : ClassPass) (b : Binder) (operands : List Value) (r : Rule)
    → IsRuleFor functions pass b operands None r → on_object b operands ≡ None → Suit b operands → IsThere operands [] (root (body_of r))
plain_there functions pass b operands r rule none suit =
    ∥∥₁_elim rule.sound (there_prop operands (root (body_of r))) (λ sound. root_there operands [] (body_of r)
    (plain_of functions pass b operands r rule none suit sound).there)

pub plain_plain : (functions : Functions) (pass : ClassPass) (b : Binder) (operands : List Value) (r : Rule)
    → IsRuleFor functions pass b operands None r → on_object b operands ≡ None → Suit b operands → IsTrue (is_plain (root (body_of r)))
plain_plain functions pass b operands r rule none suit =
    ∥∥₁_elim rule.sound (plain_prop (root (body_of r))) (λ sound. root_plain (body_of r) (plain_of functions pass b operands r rule none suit sound).plain)

pub plain_answer : (functions : Functions) (pass : ClassPass) (b : Binder) (operands : List Value) (r : Rule) (o : Outcome)
    → IsRuleFor functions pass b operands None r → on_object b operands ≡ None → Suit b operands
    → ((s : State) → o ≡ answer_in operands s (root (body_of r))) → o ≡ plain_step functions b operands
plain_answer functions pass b operands r o rule none suit is =
    ∥∥₁_elim rule.sound (outcome_is_prop o (plain_step functions b operands)) (λ sound. is no_object
    ∙ (plain_of functions pass b operands r rule none suit sound).outcome)

-- operations that can be bound

some_class : (a b : ClassRef) → Some a ≡ Some b → a ≡ b
some_class a b is = cc

-- one on an object, whose class is lent
pub bindable_on : (functions : Functions) (table : ClassTable) (b : Binder) (operation : Operation) (class : ClassRef) (objects : ℕ)
    → has_short_names b ≡ true → Suit b operation.operands.now
    → AllByRecursion (IsProperIn (length functions) objects) operation.operands.now
    → on_object b operation.operands.now ≡ Some (record { object = operation.object; operands = operation.arguments.now })
    → IsClassOf table class → IsBindable functions table b operation.operands.now (Some class)
bindable_on functions table b operation class objects short suit proper on own = record {
  short_names = short;
  suit = suit;
  objects = objects;
  proper = proper;
  number = number_of class;
  lent = lent_on b operation.operands.now (record { object = operation.object; operands = operation.arguments.now }) class on;
  of = λ shown is. subst (IsClassOf table) (some_class class shown is) own;
  lendable = lendable_on operation.operands.now operation.arguments.now operation.object class operation.target;
}

-- one that looks at no object
pub bindable_plain : (functions : Functions) (table : ClassTable) (b : Binder) (operands : List Value) (objects : ℕ) → has_short_names b ≡ true
    → Suit b operands
    → AllByRecursion (IsProperIn (length functions) objects) operands → on_object b operands ≡ None → IsBindable functions table b operands None
bindable_plain functions table b operands objects short suit proper none = record {
  short_names = short;
  suit = suit;
  objects = objects;
  proper = proper;
  number = 0;
  lent = lent_none_of b operands 0 none;
  of = λ shown is. cc;
  lendable = λ v at. tt;
}

pub arguments_proper : (functions objects : ℕ) (operation : Operation) → AllByRecursion (IsProperIn functions objects) operation.operands.now
    → AllByRecursion (IsProperIn functions objects) operation.arguments.now
arguments_proper functions objects operation proper = (subst (AllByRecursion (IsProperIn functions objects)) operation.target proper).1

-- one metaobject more, in a loop over the operands
pub metas_more : (operands : List Value) (class : Option ClassRef) (metas more : List MetaObject) (number : ℕ) (v : Value) (m : MetaObject)
    → number < length operands → v ≡ get_or operands number v
    → AreMetasOf (take number operands) class metas → IsMetaOf number v (lent_at number class) m → more ≡ metas ++ m ∷ []
    → AreMetasOf (take (number + 1) operands) class more
metas_more operands class metas more number v m inside at are is grown =
    let long : length (take number operands) ≡ number = length-take-le number operands (omega (arith, inside)) in
    let one : IsMetaOf (length (take number operands)) v (lent_at (length (take number operands)) class) m = subst (λ (k : ℕ). IsMetaOf k v (lent_at
    k class) m) (sym long) is in
    subst (AreMetasOf (take (number + 1) operands) class) (sym grown)
    (subst (λ (vs : List Value). AreMetasOf vs class (metas ++ m ∷ []))
    (ap (λ (w : Value). take number operands ++ w ∷ []) at ∙ sym (take_more operands number v inside))
    (metas_push (take number operands) class metas v m are one))

pub all_metas : (operands : List Value) (class : Option ClassRef) (metas : List MetaObject) (number : ℕ) → length operands ≤ number
    → AreMetasOf (take number operands) class metas → AreMetasOf operands class metas
all_metas operands class metas number all are = subst (λ (vs : List Value). AreMetasOf vs class metas) (take_all number operands all) are
