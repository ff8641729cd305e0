-- What is handed to a language, and what it answers to it.
use Rattle.std.proofs.Common.{◌≡◌, ℕ, Bool, true, false, ◌&&◌, List, Option, None, Some, IfSome, IsTrue, IsSomeAnd, is_some, refl, sym, ◌∙◌, ap, subst}
use Rattle.expando_class.specs.declared.class.ClassRef.{ClassRef}
use Rattle.expando_class.specs.declared.pass.ClassPass.{ClassPass}
use Rattle.expando_class.specs.Class.{number_of, names_of}
use Rattle.expando_class.specs.Pass.{KnowsAll, class_map}
use Rattle.standard_binders.specs.declared.binder.Binder.{Binder}
use Rattle.standard_binders.specs.declared.binder.Binder.TheVariants as binder
use Rattle.standard_binders.specs.Functions.{Functions}
use Rattle.rule_model.specs.declared.claim.Claim.{Claim}
use Rattle.rule_model.specs.declared.claim.ClassClaim.{ClassClaim}
use Rattle.rule_model.specs.Claims.{ListHolds}
use Rattle.rule_model.specs.MemberAnswers.{IsMemberAnswer, name_of, reach_of}
use Rattle.meta_object.specs.declared.bound.Bound.{Bound}
use Rattle.meta_object.specs.declared.context.BindContext.{BindContext}
use Rattle.meta_object.specs.declared.meta.MetaObject.{MetaObject}
use Rattle.meta_object.specs.BinderKinds.{is_binary_operation, is_convert, is_create_instance, is_delete_index, is_delete_member, is_get_index, is_get_member, is_invoke, is_invoke_member, is_set_index, is_set_member, is_unary_operation}
use Rattle.meta_object.specs.Bindings.{HasTests, IsBinding, IsClaimed, IsHanded, IsOnMember, IsSoundAnswer, IsSoundFor, IsSuggestion, Serves, is_suggested, read_name}
use Rattle.meta_object.specs.Contexts.{KeepsContext}
use Rattle.meta_object.specs.Metas.{target_class}

-- what is claimed stays so where the pass knows more
abbrev IsShown : ClassPass → ClassClaim → Option ClassRef → Type 0
IsShown pass c class = IsSomeAnd class (λ shown. (number_of shown ≡ c.class) × ((more : List (List ℕ)) × (ListHolds c (names_of shown) more × ((n : ℕ) → c.after ≡ Some n → class_map pass n ≡ Some more))))

shown_still : (old new : ClassPass) (c : ClassClaim) (class : Option ClassRef) → KnowsAll old new → IsShown old c class → IsShown new c class
shown_still old new c None knows is = is
shown_still old new c (Some shown) knows is = (is.0, (is.1.0, (is.1.1.0, λ n after. knows n is.1.0 (is.1.1.1 n after))))

claimed_still : (functions : Functions) (old new : ClassPass) (metas : List MetaObject) (claim : Claim) → KnowsAll old new → IsClaimed functions old metas claim → IsClaimed functions new metas claim
claimed_still functions old new metas claim knows is = record {
  class = λ c e. shown_still old new c (target_class metas) knows (is.class c e);
  fun = is.fun;
}

pub sound_still : (functions : Functions) (old new : ClassPass) (b : Binder) (metas : List MetaObject) (bound : Bound) → KnowsAll old new → IsSoundFor functions old b metas bound → IsSoundFor functions new b metas bound
sound_still functions old new b metas bound knows is = record { sound = is.sound; holds = claimed_still functions old new metas bound.claim knows is.holds }

binding_still : (functions : Functions) (old new : ClassPass) (b : Binder) (metas : List MetaObject) (own : Option Bound) → KnowsAll old new → IfSome own (IsBinding functions old b metas) → IfSome own (IsBinding functions new b metas)
binding_still functions old new b metas None knows is = is
binding_still functions old new b metas (Some bound) knows is = record {
  sound = is.sound;
  passing = is.passing;
  holds = claimed_still functions old new metas bound.claim knows is.holds;
}

-- a binding may be suggested
pub suggested : (functions : Functions) (pass : ClassPass) (b : Binder) (metas : List MetaObject) (own : Option Bound) → IfSome own (IsBinding functions pass b metas) → IsSuggestion functions pass b metas own
suggested functions pass b metas None is = is
suggested functions pass b metas (Some bound) is = record { sound = is.sound; holds = is.holds }

serving : (functions : Functions) (pass : ClassPass) (b : Binder) (metas : List MetaObject) (own : Option Bound) → IfSome own (IsBinding functions pass b metas) → IfSome own (Serves metas)
serving functions pass b metas None is = is
serving functions pass b metas (Some bound) is = is.passing

-- the answer to one is a binding
pub answer_binding : (functions : Functions) (old new : ClassPass) (b : Binder) (metas : List MetaObject) (own : Option Bound) (bound : Bound) → IfSome own (IsBinding functions old b metas)
    → IsSoundAnswer functions new b metas own bound → IsBinding functions new b metas bound
answer_binding functions old new b metas own bound is answer = record {
  sound = answer.sound.sound;
  passing = answer.serves (serving functions old b metas own is);
  holds = answer.sound.holds;
}

-- what the target answers itself is handed on
handed_by : (name : Bool) (b : Binder) (target : Option ClassRef) → is_some (name_of b) ≡ name → name ≡ true → is_suggested (read_name b) target ≡ (is_some (name_of b) && is_suggested (read_name b) target)
handed_by name b target is named = ap (λ (k : Bool). k && is_suggested (read_name b) target) (sym (is ∙ named))

pub handed_on : (functions : Functions) (old new : ClassPass) (b : Binder) (metas : List MetaObject) (own : Option Bound) → KnowsAll old new → is_some (name_of b) ≡ true
    → is_some own ≡ is_suggested (read_name b) (target_class metas) → IfSome own (IsBinding functions old b metas) → IfSome own (HasTests b metas)
    → IfSome own (IsOnMember b (target_class metas) (name_of b)) → IsHanded functions new b metas own
handed_on functions old new b metas own knows named exactly binding tests member = record {
  exactly = exactly ∙ handed_by (is_some (name_of b)) b (target_class metas) refl named;
  binding = binding_still functions old new b metas own knows binding;
  tests = tests;
  member = member;
}

-- the binders that carry a name
pub get_named : (b : Binder) → IsTrue (is_get_member b) → is_some (name_of b) ≡ true
get_named (binder.GetMember n ic) is = refl
get_named _ is = cc

pub set_named : (b : Binder) → IsTrue (is_set_member b) → is_some (name_of b) ≡ true
set_named (binder.SetMember n ic) is = refl
set_named _ is = cc

pub delete_named : (b : Binder) → IsTrue (is_delete_member b) → is_some (name_of b) ≡ true
delete_named (binder.DeleteMember n ic) is = refl
delete_named _ is = cc

pub invoke_named : (b : Binder) → IsTrue (is_invoke_member b) → is_some (name_of b) ≡ true
invoke_named (binder.InvokeMember n ic info) is = refl
invoke_named _ is = cc

-- of the other binders nothing is handed
pub none_handed : (functions : Functions) (pass : ClassPass) (b : Binder) (metas : List MetaObject) → is_some (name_of b) ≡ false → IsHanded functions pass b metas None
none_handed functions pass b metas unnamed = record {
  exactly = ap (λ (k : Bool). k && is_suggested (read_name b) (target_class metas)) (sym unnamed);
  binding = tt;
  tests = tt;
  member = tt;
}

pub get_index_unnamed : (b : Binder) → IsTrue (is_get_index b) → is_some (name_of b) ≡ false
get_index_unnamed binder.GetIndex is = refl
get_index_unnamed _ is = cc

pub set_index_unnamed : (b : Binder) → IsTrue (is_set_index b) → is_some (name_of b) ≡ false
set_index_unnamed binder.SetIndex is = refl
set_index_unnamed _ is = cc

pub delete_index_unnamed : (b : Binder) → IsTrue (is_delete_index b) → is_some (name_of b) ≡ false
delete_index_unnamed binder.DeleteIndex is = refl
delete_index_unnamed _ is = cc

pub invoke_unnamed : (b : Binder) → IsTrue (is_invoke b) → is_some (name_of b) ≡ false
invoke_unnamed (binder.Invoke info) is = refl
invoke_unnamed _ is = cc

pub create_instance_unnamed : (b : Binder) → IsTrue (is_create_instance b) → is_some (name_of b) ≡ false
create_instance_unnamed (binder.CreateInstance info) is = refl
create_instance_unnamed _ is = cc

pub convert_unnamed : (b : Binder) → IsTrue (is_convert b) → is_some (name_of b) ≡ false
convert_unnamed (binder.Convert to) is = refl
convert_unnamed _ is = cc

pub unary_operation_unnamed : (b : Binder) → IsTrue (is_unary_operation b) → is_some (name_of b) ≡ false
unary_operation_unnamed (binder.UnaryOperation op) is = refl
unary_operation_unnamed _ is = cc

pub binary_operation_unnamed : (b : Binder) → IsTrue (is_binary_operation b) → is_some (name_of b) ≡ false
binary_operation_unnamed (binder.BinaryOperation op) is = refl
binary_operation_unnamed _ is = cc

-- the own answer is on the member
pub on_member : (b : Binder) (target : Option ClassRef) (carried : Option (List ℕ)) (shown : ClassRef) (name : List ℕ) (bound : Bound) → target ≡ Some shown → carried ≡ Some name
    → IsMemberAnswer (reach_of b) (number_of shown) name bound.body bound.claim → IsOnMember b target carried bound
on_member b target carried shown name bound t n is =
    subst (λ (k : Option ClassRef). IsOnMember b k carried bound) (sym t) (subst (λ (k : Option (List ℕ)). IsOnMember b (Some shown) k bound) (sym n) is)

-- what is kept twice is kept
pub keeps_twice : (a b c : BindContext) → KeepsContext a b → KeepsContext b c → KeepsContext a c
keeps_twice a b c first then = record {
  table = then.table ∙ first.table;
  pass = then.pass ∙ first.pass;
  own = (let same = first.table in rw (← same) then.own);
  keeps = λ n names e. then.keeps n names (first.keeps n names e);
}
