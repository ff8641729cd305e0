-- Which member an operation on an object reaches, and the class to which the object then moves.
use Rattle.std.specs.Prelude.{◌≡◌, ℕ, Bool, true, false, ◌==◌, if◌then◌else◌, List, [], ◌∷◌, length, Option, None, Some, ⊤}
use Rattle.std.specs.Option.{option_map}
use Rattle.dyn_value.specs.declared.value.Kind.TheVariants as kind
use Rattle.dyn_value.specs.declared.value.Value.{Value}
use Rattle.dyn_value.specs.declared.value.Value.TheVariants as value
use Rattle.expando_class.specs.declared.class.ClassRef.{ClassRef}
use Rattle.expando_class.specs.declared.pass.ClassPass.{ClassPass}
use Rattle.expando_class.specs.Class.{number_of, names_of}
use Rattle.expando_class.specs.Pass.{class_map}
use Rattle.restrictions.specs.declared.restriction.Restriction.{Restriction}
use Rattle.restrictions.specs.declared.restriction.Restriction.TheVariants.{Kind as IsKind, Key, Class}
use Rattle.standard_binders.specs.declared.binder.Binder.{Binder}
use Rattle.standard_binders.specs.declared.binder.Binder.TheVariants as binder
use Rattle.rule_model.specs.declared.reach.Reach.{Reach}
use Rattle.rule_model.specs.declared.reach.Reach.TheVariants.{Writes}
use Rattle.rule_model.specs.Claims.{changed}
use Rattle.rule_model.specs.MemberAnswers.{member_after, name_of, is_by_key}
use Rattle.meta_object.specs.declared.meta.MetaObject.{MetaObject}

abbrev pub text_in : Option Value → Option (List ℕ)
text_in (Some (value.Text t)) = Some t
text_in _ = None

-- the text that is the key of an index
abbrev pub key_in : List MetaObject → Option (List ℕ)
key_in (target ∷ key ∷ others) = text_in key.value
key_in _ = None

-- the name of the member: the key, or the one that the binder carries
abbrev pub reached_name : Binder → List MetaObject → Option (List ℕ)
reached_name binder.GetIndex metas = key_in metas
reached_name binder.SetIndex metas = key_in metas
reached_name binder.DeleteIndex metas = key_in metas
reached_name b metas = name_of b

-- the number of a class that may be there
abbrev pub number_in : Option ClassRef → ℕ
number_in None = 0
number_in (Some class) = number_of class

abbrev pub IsKnownAs : ClassPass → List (List ℕ) → Option ClassRef → Type 0
IsKnownAs pass names None = ⊤
IsKnownAs pass names (Some class) = (names_of class ≡ names) × (class_map pass (number_of class) ≡ Some names)

-- The class to which an object of this class moves when the member of a name at this place is reached, where it does
-- move: it has one name more or less, and the pass knows it.
pub record IsNext (pass : ClassPass) (class : ClassRef) (reach : Reach) (name : List ℕ) (place : Option ℕ)
    (next : Option ClassRef) : Type 0 where
  pub after : option_map number_of next ≡ member_after reach place (length (names_of class) == 64) (number_in next)
  pub known : IsKnownAs pass (changed (names_of class) name place) next

-- what the tests of the operation look at: the class, and the key where it is by one
abbrev pub member_tests_on : Binder → ℕ → List ℕ → List Restriction
member_tests_on b n name = IsKind 0 kind.Obj ∷ Class n ∷ (if is_by_key b then Key 1 name ∷ [] else [])

-- whether the operation is a fault where there is no member of the name
abbrev pub is_for_old : Reach → Bool
is_for_old (Writes operand) = false
is_for_old _ = true
