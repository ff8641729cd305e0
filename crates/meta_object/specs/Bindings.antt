-- What a binding answers.
use Rattle.std.specs.Prelude.{◌≡◌, ◌⊎◌, ℕ, All, ◌≢◌, Bool, true, false, not, ◌&&◌, is_some, List, map, IfSome, IsSomeAnd, Option, None, Some, ⊤}
use Rattle.std.specs.List.{list_any}
use Rattle.std.specs.Str.{bytes_eq}
use Rattle.dyn_value.specs.declared.value.Value.{Value}
use Rattle.expando_class.specs.declared.class.ClassRef.{ClassRef}
use Rattle.expando_class.specs.declared.pass.ClassPass.{ClassPass}
use Rattle.expando_class.specs.Class.{number_of, names_of}
use Rattle.expando_class.specs.Pass.{class_map}
use Rattle.restrictions.specs.Meanings.{all_hold}
use Rattle.standard_binders.specs.declared.binder.Binder.{Binder}
use Rattle.standard_binders.specs.declared.binder.Binder.TheVariants as binder
use Rattle.standard_binders.specs.Functions.{Functions}
use Rattle.rule_model.specs.declared.claim.Claim.{Claim}
use Rattle.rule_model.specs.declared.claim.ClassClaim.{ClassClaim}
use Rattle.rule_model.specs.Claims.{ListHolds, FunHolds}
use Rattle.rule_model.specs.MemberAnswers.{IsMemberAnswer, name_of, reach_of}
use Rattle.rule_model.specs.Soundness.{IsSound}
use Rattle.rule_model.specs.Tests.{form_of, tests_by}
use Rattle.meta_object.specs.declared.bound.Bound.{Bound}
use Rattle.meta_object.specs.declared.meta.MetaObject.{MetaObject}
use Rattle.meta_object.specs.Metas.{Describes, known_in, target_class}

-- The claim holds. What it says of a class, it says of the class that the target's metaobject shows; and of a class
-- after that the pass knows.
pub record IsClaimed (functions : Functions) (pass : ClassPass) (metas : List MetaObject) (claim : Claim) : Type 0 where
  pub class : (c : ClassClaim) → claim.class ≡ Some c → IsSomeAnd (target_class metas) (λ shown.
      (number_of shown ≡ c.class)
      × ((more : List (List ℕ))
      × (ListHolds c (names_of shown) more × ((n : ℕ) → c.after ≡ Some n → class_map pass n ≡ Some more))))
  pub fun : FunHolds claim functions

-- a sound bound for the operation of these metaobjects, which serves for all that they describe
pub record IsBinding (functions : Functions) (pass : ClassPass) (b : Binder) (metas : List MetaObject) (bound : Bound)
    : Type 0 where
  pub sound : IsSound b (all_hold bound.restrictions) bound.body bound.claim
  pub passing : (operands : List Value) (class : ℕ) → Describes metas operands class
      → all_hold bound.restrictions operands class ≡ true
  pub holds : IsClaimed functions pass metas bound.claim

-- it looks at what the tests of its binder look at, in their order
abbrev pub HasTests : Binder → List MetaObject → Bound → Type 0
HasTests b metas bound = bound.restrictions ≡ tests_by (form_of b) (map known_in metas)

-- it serves for all that the metaobjects describe
abbrev pub Serves : List MetaObject → Bound → Type 0
Serves metas bound = (operands : List Value) (class : ℕ) → Describes metas operands class
    → all_hold bound.restrictions operands class ≡ true

-- a sound bound for the operation of these metaobjects, whose claim holds
pub record IsSoundFor (functions : Functions) (pass : ClassPass) (b : Binder) (metas : List MetaObject) (bound : Bound)
    : Type 0 where
  pub sound : IsSound b (all_hold bound.restrictions) bound.body bound.claim
  pub holds : IsClaimed functions pass metas bound.claim

-- what is suggested to a language: nothing, or a sound bound
abbrev pub IsSuggestion : Functions → ClassPass → Binder → List MetaObject → Option Bound → Type 0
IsSuggestion functions pass b metas suggestion = IfSome suggestion (IsSoundFor functions pass b metas)

-- a sound bound, which serves for all that the metaobjects describe if what is suggested does
pub record IsSoundAnswer (functions : Functions) (pass : ClassPass) (b : Binder) (metas : List MetaObject)
    (suggestion : Option Bound) (bound : Bound) : Type 0 where
  pub sound : IsSoundFor functions pass b metas bound
  pub serves : IfSome suggestion (Serves metas) → Serves metas bound

-- the answer is what the object suggests, or looks at what the tests look at
abbrev pub IsFallback : Binder → List MetaObject → Option Bound → Bound → Type 0
IsFallback b metas suggestion bound = (suggestion ≡ Some bound) ⊎ HasTests b metas bound

-- the name of a member that the binder reads or deletes
abbrev pub read_name : Binder → Option (List ℕ)
read_name (binder.GetMember name ignore_case) = Some name
read_name (binder.DeleteMember name ignore_case) = Some name
read_name (binder.InvokeMember name ignore_case info) = Some name
read_name _ = None

-- Where the target is an object and nothing is suggested, its class has no member of the name: the one fault that every
-- language answers alike. So it never is where a member is set.
abbrev pub IsAbsent : Option (List ℕ) → Option ClassRef → Option Bound → Type 0
IsAbsent name None suggestion = ⊤
IsAbsent name (Some shown) (Some bound) = ⊤
IsAbsent (Some name) (Some shown) None = All (λ other. other ≢ name) (names_of shown)
IsAbsent None (Some shown) None = ⊥

-- whether a member that is read or deleted is none of these names
abbrev pub is_missing : Option (List ℕ) → List (List ℕ) → Bool
is_missing (Some name) names = not (list_any (bytes_eq name) names)
is_missing None names = false

-- whether a target that shows this class suggests its own answer: an object does, save where it would be that fault
abbrev pub is_suggested : Option (List ℕ) → Option ClassRef → Bool
is_suggested name None = false
is_suggested name (Some shown) = not (is_missing name (names_of shown))

-- whether the target hands its own answer to the language: an object does that of the member that a binder names, save
-- where it would be that fault
abbrev pub is_handed : Binder → List MetaObject → Bool
is_handed b metas = is_some (name_of b) && is_suggested (read_name b) (target_class metas)

-- its body and its claim are those of the member of this name, of the class that the target shows
abbrev pub IsOnMember : Binder → Option ClassRef → Option (List ℕ) → Bound → Type 0
IsOnMember b (Some shown) (Some name) bound =
    IsMemberAnswer (reach_of b) (number_of shown) name bound.body bound.claim
IsOnMember b _ _ bound = ⊥

-- what the target hands to the language: its own answer exactly where it hands one, which is a binding on the member,
-- and looks at what the tests look at
pub record IsHanded (functions : Functions) (pass : ClassPass) (b : Binder) (metas : List MetaObject)
    (own : Option Bound) : Type 0 where
  pub exactly : is_some own ≡ is_handed b metas
  pub binding : IfSome own (IsBinding functions pass b metas)
  pub tests : IfSome own (HasTests b metas)
  pub member : IfSome own (IsOnMember b (target_class metas) (name_of b))

-- what a language answers to which exactly that is suggested which the target hands to it
pub record IsAnswered (answers : ClassPass → Binder → List MetaObject → Option Bound → Bound → Type 0)
    (functions : Functions) (pass : ClassPass) (b : Binder) (metas : List MetaObject) (bound : Bound) : Type 0 where
  pub own : Option Bound
  pub handed : IsHanded functions pass b metas own
  pub answered : answers pass b metas own bound
