-- The language's own bound on a member of an object.
use Rattle.std.proofs.Common.{◌≡◌, ℕ, MatchOption, Bool, true, false, cond, List, [], ◌∷◌, map, Option, None, Some, refl, sym, ◌∙◌, ap, subst, slice_get, IfSome}
use Rattle.std.specs.Option.{option_map}
use Rattle.dyn_value.specs.declared.fault.Fault.TheVariants.{NoIndex}
use Rattle.dyn_value.specs.declared.value.Kind.{Kind}
use Rattle.dyn_value.specs.declared.value.Kind.TheVariants as kind
use Rattle.dyn_value.specs.declared.value.Value.{Value}
use Rattle.dyn_value.specs.declared.value.Value.TheVariants as value
use Rattle.dyn_value.specs.Kinds.{same_kind}
use Rattle.expando_class.specs.declared.class.ClassRef.{ClassRef}
use Rattle.expando_class.specs.declared.pass.ClassPass.{ClassPass}
use Rattle.expando_class.specs.declared.table.ClassTable.{ClassTable}
use Rattle.expando_class.specs.Class.{IsClassOf, number_of}
use Rattle.expr_tree.specs.declared.node.Node.{Node}
use Rattle.expr_tree.specs.declared.node.Node.TheVariants.{Throw}
use Rattle.object_model.specs.Accesses.{is_key}
use Rattle.restrictions.specs.declared.restriction.Restriction.{Restriction}
use Rattle.restrictions.specs.declared.restriction.Restriction.TheVariants.{Kind as IsKind, LongKey, Class, Key}
use Rattle.restrictions.specs.Meanings.{all_hold}
use Rattle.standard_binders.specs.declared.binder.Binder.{Binder}
use Rattle.standard_binders.specs.declared.binder.Binder.TheVariants as binder
use Rattle.standard_binders.specs.Binders.{is_on_members}
use Rattle.standard_binders.specs.Functions.{Functions}
use Rattle.rule_model.specs.declared.claim.Claim.{Claim}
use Rattle.rule_model.specs.MemberAnswers.{IsMemberAnswer, is_by_key, reach_of}
use Rattle.rule_model.specs.Soundness.{IsSound}
use Rattle.rule_model.specs.Tests.{form_of, index_tests, key_tests, tests_by}
use Rattle.rule_model.proofs.MemberSoundness.{long_sound, other_sound}
use Rattle.meta_object.specs.declared.bound.Bound.{Bound}
use Rattle.meta_object.specs.declared.meta.MetaObject.{MetaObject}
use Rattle.meta_object.specs.Bindings.{HasTests, IsBinding}
use Rattle.meta_object.specs.Metas.{CanBind, IsValueFor, class_in_shape, has_key, kind_in, known_in, target_class}
use Rattle.meta_object.specs.Reaching.{key_in, reached_name, text_in}
use Rattle.meta_object.proofs.Described.{described_hold}
use Rattle.meta_object.proofs.Targets.{target_of}
use Rattle.fallback.specs.Answers.{IsOnObject, IsOwn, IsRow, object_class, proper_name}
use Rattle.fallback.specs.Own.{own_claim, own_node}
use Rattle.fallback.proofs.KnownMetas.{own_binding}

-- an object on whose members the operation is
pub record HasObject (b : Binder) (metas : List MetaObject) (shown : ClassRef) : Type 0 where
  pub on : is_on_members b ≡ true
  pub target : target_class metas ≡ Some shown

by_on : (on : Bool) (class : Option ClassRef) (shown : ClassRef) → cond on class None ≡ Some shown → (on ≡ true) × (class ≡ Some shown)
by_on true class shown e = (refl, e)
by_on false class shown e = cc

pub on_object : (b : Binder) (metas : List MetaObject) (shown : ClassRef) → object_class b metas ≡ Some shown → HasObject b metas shown
on_object b metas shown e = let both = by_on (is_on_members b) (target_class metas) shown e in record { on = both.0; target = both.1 }

-- its class is of the table
pub of_table : (functions : Functions) (table : ClassTable) (pass : ClassPass) (b : Binder) (metas : List MetaObject) (shown : ClassRef) → CanBind functions table pass b metas → object_class b metas ≡ Some shown → IsClassOf table shown
of_table functions table pass b metas shown can e = subst (λ (o : Option ClassRef). IfSome o (IsClassOf table)) (on_object b metas shown e).target (target_of functions table pass b metas can)

-- where it looks at no object
pub shows_none : (b : Binder) (metas : List MetaObject) → object_class b metas ≡ None → is_on_members b ≡ true → target_class metas ≡ None
shows_none b metas e on = ap (λ k. cond k (target_class metas) None) (sym on) ∙ e

-- the key of an index is the operand after the target
pub key_at : (metas : List MetaObject) (key : MetaObject) → slice_get metas 1 ≡ Some key → key_in metas ≡ text_in key.value
key_at [] key e = cc
key_at (m ∷ []) key e = cc
key_at (m ∷ k ∷ ms) key e = let same : k ≡ key = cc in ap (λ (j : MetaObject). text_in j.value) same

-- a bound that is a binding is the language's own
own_of : (functions : Functions) (pass : ClassPass) (b : Binder) (metas : List MetaObject) (shown : ClassRef) (name : Option (List ℕ)) (bound : Bound) → object_class b metas ≡ Some shown → proper_name (reached_name b metas) ≡ name
    → IsBinding functions pass b metas bound → HasTests b metas bound → IsOnObject b shown name bound → IsOwn functions pass b metas bound
own_of functions pass b metas shown name bound on named binding tests answer = record {
  binding = binding;
  tests = tests;
  answer = subst (λ (o : Option ClassRef). MatchOption o (IsRow functions b metas bound) (λ class. IsOnObject b class (proper_name (reached_name b metas)) bound)) (sym on)
      (subst (λ (n : Option (List ℕ)). IsOnObject b shown n bound) (sym named) answer);
}

-- a name that may be one, and one that may not
proper : (reached : Option (List ℕ)) (name : List ℕ) → reached ≡ Some name → is_key name ≡ true → proper_name reached ≡ Some name
proper reached name e short = ap proper_name e ∙ ap (λ b. cond b (Some name) None) short

improper : (reached : Option (List ℕ)) (name : List ℕ) → reached ≡ Some name → is_key name ≡ false → proper_name reached ≡ None
improper reached name e long = ap proper_name e ∙ ap (λ b. cond b (Some name) None) long

pub member_own : (functions : Functions) (pass : ClassPass) (b : Binder) (metas : List MetaObject) (shown : ClassRef) (name : List ℕ) (bound : Bound) → object_class b metas ≡ Some shown → reached_name b metas ≡ Some name
    → is_key name ≡ true → IsBinding functions pass b metas bound → HasTests b metas bound → IsMemberAnswer (reach_of b) (number_of shown) name bound.body bound.claim → IsOwn functions pass b metas bound
member_own functions pass b metas shown name bound on reached short binding tests answer =
    own_of functions pass b metas shown (Some name) bound on (proper (reached_name b metas) name reached short) binding tests answer

-- what binds nothing of a class or of a function
unclaimed : (functions : Functions) (pass : ClassPass) (b : Binder) (metas : List MetaObject) (bound : Bound) → HasTests b metas bound → bound.claim ≡ record { class = None; fun = None }
    → IsSound b (all_hold bound.restrictions) bound.body bound.claim → IsBinding functions pass b metas bound
unclaimed functions pass b metas bound tests none sound = record {
  sound = sound;
  passing = λ operands class d. described_hold (form_of b) metas operands class bound.restrictions tests d;
  holds = record {
    class = λ c e. (let no : None ≡ Some c = sym (ap (λ (k : Claim). k.class) none) ∙ e in cc);
    fun = record { params = λ f e. (let no : None ≡ Some f = sym (ap (λ (k : Claim). k.fun) none) ∙ e in cc) };
  };
}

-- what is made of a key that names no member
pub record IsNoKey (test : Restriction) (bound : Bound) : Type 0 where
  pub tests : bound.restrictions ≡ IsKind 0 kind.Obj ∷ test ∷ []
  pub body : bound.body ≡ Throw NoIndex ∷ []
  pub claim : bound.claim ≡ record { class = None; fun = None }

no_key_own : (functions : Functions) (pass : ClassPass) (b : Binder) (metas : List MetaObject) (shown : ClassRef) (test : Restriction) (bound : Bound) → IsNoKey test bound
    → object_class b metas ≡ Some shown → proper_name (reached_name b metas) ≡ None → IsKind 0 kind.Obj ∷ test ∷ [] ≡ tests_by (form_of b) (map known_in metas)
    → IsSound b (all_hold (IsKind 0 kind.Obj ∷ test ∷ [])) (Throw NoIndex ∷ []) bound.claim → IsOwn functions pass b metas bound
no_key_own functions pass b metas shown test bound made on unnamed tests sound =
    let has : HasTests b metas bound = made.tests ∙ tests in
    own_of functions pass b metas shown None bound on unnamed
    (unclaimed functions pass b metas bound has made.claim
    (subst (λ (rs : List Restriction). IsSound b (all_hold rs) bound.body bound.claim) (sym made.tests)
    (subst (λ (ns : List Node). IsSound b (all_hold (IsKind 0 kind.Obj ∷ test ∷ [])) ns bound.claim) (sym made.body) sound)))
    has (made.body, made.claim)

no_class : (bound : Bound) → bound.claim ≡ record { class = None; fun = None } → bound.claim.class ≡ None
no_class bound e = ap (λ (k : Claim). k.class) e

-- a text that may be no name is the key of an index
long_key : (b : Binder) (metas : List MetaObject) (name : List ℕ) → has_key b ≡ true → is_on_members b ≡ true → reached_name b metas ≡ Some name → is_key name ≡ false → is_by_key b ≡ true
long_key binder.GetIndex metas name key on e long = refl
long_key binder.SetIndex metas name key on e long = refl
long_key binder.DeleteIndex metas name key on e long = refl
long_key (binder.GetMember n ic) metas name key on e long = let same : n ≡ name = cc in let no : true ≡ false = sym key ∙ ap is_key same ∙ long in cc
long_key (binder.SetMember n ic) metas name key on e long = let same : n ≡ name = cc in let no : true ≡ false = sym key ∙ ap is_key same ∙ long in cc
long_key (binder.DeleteMember n ic) metas name key on e long = let same : n ≡ name = cc in let no : true ≡ false = sym key ∙ ap is_key same ∙ long in cc
long_key (binder.InvokeMember n ic info) metas name key on e long = let same : n ≡ name = cc in let no : true ≡ false = sym key ∙ ap is_key same ∙ long in cc
long_key _ metas name key on e long = cc

other_key : (b : Binder) (metas : List MetaObject) → is_on_members b ≡ true → reached_name b metas ≡ None → is_by_key b ≡ true
other_key binder.GetIndex metas on e = refl
other_key binder.SetIndex metas on e = refl
other_key binder.DeleteIndex metas on e = refl
other_key _ metas on e = cc

key_value : (known : Option Value) (name : List ℕ) → text_in known ≡ Some name → known ≡ Some (value.Text name)
key_value (Some (value.Text t)) name e = let same : t ≡ name = cc in ap (λ (k : List ℕ). Some (value.Text k)) same
key_value _ name e = cc

long_key_tests : (n : ℕ) (k : Kind) (known : Option Value) (name : List ℕ) → text_in known ≡ Some name → is_key name ≡ false → IsKind 0 kind.Obj ∷ LongKey 1 ∷ [] ≡ key_tests n k known
long_key_tests n k known name e long =
    ap (λ b. cond b (IsKind 0 kind.Obj ∷ Class n ∷ Key 1 name ∷ []) (IsKind 0 kind.Obj ∷ LongKey 1 ∷ [])) (sym long)
    ∙ ap (key_tests n k) (sym (key_value known name e))

other_key_tests : (n : ℕ) (k : Kind) (known : Option Value) → text_in known ≡ None → IsKind 0 kind.Obj ∷ IsKind 1 k ∷ [] ≡ key_tests n k known
other_key_tests n k None e = refl
other_key_tests n k (Some (value.Text t)) e = cc
other_key_tests n k (Some _) e = refl

-- the tests of an index operation on an object, where those by the key are these
tests_at : (reads : Bool) (m key : MetaObject) (ms : List MetaObject) (shown : ClassRef) (rs : List Restriction) → class_in_shape m.shape ≡ Some shown
    → rs ≡ key_tests (number_of shown) (kind_in key.shape) key.value → rs ≡ index_tests reads (known_in m) (known_in key) (known_in m).class
tests_at reads m key ms shown rs target e = e ∙ ap (λ (o : Option ClassRef). index_tests reads (known_in m) (known_in key) (option_map number_of o)) (sym target)

keyed_tests : (b : Binder) (metas : List MetaObject) (shown : ClassRef) (key : MetaObject) (rs : List Restriction) → is_by_key b ≡ true → target_class metas ≡ Some shown → slice_get metas 1 ≡ Some key
    → rs ≡ key_tests (number_of shown) (kind_in key.shape) key.value → rs ≡ tests_by (form_of b) (map known_in metas)
keyed_tests b [] shown key rs by target there e = cc
keyed_tests b (m ∷ []) shown key rs by target there e = cc
keyed_tests binder.GetIndex (m ∷ k ∷ ms) shown key rs by target there e =
    let same : key ≡ k = cc in tests_at true m k ms shown rs target (subst (λ (j : MetaObject). rs ≡ key_tests (number_of shown) (kind_in j.shape) j.value) same e)
keyed_tests binder.SetIndex (m ∷ k ∷ ms) shown key rs by target there e =
    let same : key ≡ k = cc in tests_at false m k ms shown rs target (subst (λ (j : MetaObject). rs ≡ key_tests (number_of shown) (kind_in j.shape) j.value) same e)
keyed_tests binder.DeleteIndex (m ∷ k ∷ ms) shown key rs by target there e =
    let same : key ≡ k = cc in tests_at false m k ms shown rs target (subst (λ (j : MetaObject). rs ≡ key_tests (number_of shown) (kind_in j.shape) j.value) same e)
keyed_tests _ (m ∷ k ∷ ms) shown key rs by target there e = cc

-- the key of an index operation is there
key_there : (metas : List MetaObject) (name : List ℕ) → key_in metas ≡ Some name → (key : MetaObject) × (slice_get metas 1 ≡ Some key) × (text_in key.value ≡ Some name)
key_there [] name e = cc
key_there (m ∷ []) name e = cc
key_there (m ∷ key ∷ ms) name e = (key, refl, e)

by_key : (b : Binder) (metas : List MetaObject) → is_by_key b ≡ true → reached_name b metas ≡ key_in metas
by_key binder.GetIndex metas by = refl
by_key binder.SetIndex metas by = refl
by_key binder.DeleteIndex metas by = refl
by_key _ metas by = cc

pub long_own : (functions : Functions) (table : ClassTable) (pass : ClassPass) (b : Binder) (metas : List MetaObject) (shown : ClassRef) (name : List ℕ) (bound : Bound) → CanBind functions table pass b metas
    → object_class b metas ≡ Some shown → reached_name b metas ≡ Some name → is_key name ≡ false → IsNoKey (LongKey 1) bound → IsOwn functions pass b metas bound
long_own functions table pass b metas shown name bound can class reached long made =
    let on = on_object b metas shown class in
    let by = long_key b metas name can.key on.on reached long in
    let key = key_there metas name (sym (by_key b metas by) ∙ reached) in
    no_key_own functions pass b metas shown (LongKey 1) bound made class (improper (reached_name b metas) name reached long)
    (keyed_tests b metas shown key.0 (IsKind 0 kind.Obj ∷ LongKey 1 ∷ []) by on.target key.1 (long_key_tests (number_of shown) (kind_in key.0.shape) key.0.value name key.2 long))
    (long_sound b bound.claim by (no_class bound made.claim))

-- a key that is no text has another kind
no_text : (k : Kind) (known : Option Value) → IsValueFor k known → text_in known ≡ None → same_kind k kind.Text ≡ false
no_text kind.Text None valued e = absurd valued
no_text kind.Text (Some (value.Text t)) valued e = cc
no_text kind.Text (Some value.Nil) valued e = cc
no_text kind.Text (Some (value.Bool t)) valued e = cc
no_text kind.Text (Some (value.Int t)) valued e = cc
no_text kind.Text (Some (value.Fun t)) valued e = cc
no_text kind.Text (Some (value.Obj t)) valued e = cc
no_text kind.Nil known valued e = refl
no_text kind.Bool known valued e = refl
no_text kind.Int known valued e = refl
no_text kind.Fun known valued e = refl
no_text kind.Obj known valued e = refl

pub other_own : (functions : Functions) (table : ClassTable) (pass : ClassPass) (b : Binder) (metas : List MetaObject) (shown : ClassRef) (key : MetaObject) (bound : Bound) → CanBind functions table pass b metas
    → object_class b metas ≡ Some shown → reached_name b metas ≡ None → slice_get metas 1 ≡ Some key → IsNoKey (IsKind 1 (kind_in key.shape)) bound → IsOwn functions pass b metas bound
other_own functions table pass b metas shown key bound can class reached there made =
    let on = on_object b metas shown class in
    let by = other_key b metas on.on reached in
    let none : text_in key.value ≡ None = sym (key_at metas key there) ∙ sym (by_key b metas by) ∙ reached in
    no_key_own functions pass b metas shown (IsKind 1 (kind_in key.shape)) bound made class (ap proper_name reached)
    (keyed_tests b metas shown key (IsKind 0 kind.Obj ∷ IsKind 1 (kind_in key.shape) ∷ []) by on.target there (other_key_tests (number_of shown) (kind_in key.shape) key.value none))
    (other_sound b (kind_in key.shape) bound.claim by (no_text (kind_in key.shape) key.value (can.valued 1 key there) none) (no_class bound made.claim))

-- a row is the language's own where it looks at no object
pub row_own : (functions : Functions) (table : ClassTable) (pass : ClassPass) (b : Binder) (metas : List MetaObject) (bound : Bound) → CanBind functions table pass b metas → object_class b metas ≡ None
    → HasTests b metas bound → bound.body ≡ own_node functions b (map known_in metas) ∷ [] → bound.claim ≡ own_claim functions (map known_in metas) b → IsOwn functions pass b metas bound
row_own functions table pass b metas bound can none tests body claim = record {
  binding = own_binding functions table pass b metas bound can (shows_none b metas none) tests body claim;
  tests = tests;
  answer = subst (λ (o : Option ClassRef). MatchOption o (IsRow functions b metas bound) (λ class. IsOnObject b class (proper_name (reached_name b metas)) bound)) (sym none)
      (record { body = body; claim = claim });
}
