-- For which shape of operations a rule is.
use Rattle.std.specs.Prelude.{◌≡◌, ℕ, true, List, get_or, Some}
use Rattle.dyn_value.specs.declared.value.Value.{Value}
use Rattle.expr_tree.specs.Meanings.{passes}
use Rattle.restrictions.specs.Meanings.{all_hold}
use Rattle.standard_binders.specs.declared.binder.Binder.{Binder}
use Rattle.standard_binders.specs.declared.binder.Binder.TheVariants.{GetIndex}
use Rattle.rule_model.specs.ClassMaps.{ClassMap}
use Rattle.rule_model.specs.Soundness.{Suit}
use Rattle.rule_model.specs.Tests.{form_of, tests_of}
use Rattle.rule.specs.declared.rule.Rule.{Rule}
use Rattle.rule.specs.Rules.{test_of}
use Rattle.cache_levels.specs.Shapes.{Shape, looks_of}

-- no two classes have one list of names
abbrev pub AreNamedOnce : ClassMap → Type 0
AreNamedOnce classes = (one other : ℕ) (names : List (List ℕ)) →
    classes one ≡ Some names → classes other ≡ Some names → one ≡ other

-- what one map shows of classes, the other shows too
abbrev pub ShowsAll : ClassMap → ClassMap → Type 0
ShowsAll old new = (class : ℕ) (names : List (List ℕ)) → old class ≡ Some names → new class ≡ Some names

-- the binder of this number
abbrev pub binder_in : List Binder → ℕ → Binder
binder_in binders number = get_or binders number GetIndex

-- the shape of an operation of a binder, by its operands and the names of its target's members
abbrev pub shape_of : List Binder → ℕ → List Value → List (List ℕ) → Shape
shape_of binders number operands names =
    record { binder = number; looks = looks_of (form_of (binder_in binders number)) operands names }

-- The rule passes exactly where the tests hold that are made for an operation of this shape, on a class of the map.
pub record IsFor (classes : ClassMap) (binders : List Binder) (number : ℕ) (r : Rule) (shape : Shape) : Type 0 where
  pub operands : List Value
  pub class : ℕ
  pub names : List (List ℕ)
  pub suit : Suit (binder_in binders number) operands
  pub shown : classes class ≡ Some names
  pub tests : (asked : List Value) (other : ℕ) → passes (test_of r) asked other
      ≡ all_hold (tests_of (form_of (binder_in binders number)) operands class) asked other
  pub shape_is : shape ≡ shape_of binders number operands names

-- the test of the rule is true of these operands and a class of this number
abbrev pub PassesOn : List Value → ℕ → Rule → Type 0
PassesOn operands class r = passes (test_of r) operands class ≡ true
