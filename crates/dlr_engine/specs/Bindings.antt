-- What binds the operations of a run, and the rules that it gives.
use Rattle.std.specs.Prelude.{◌≡◌, ℕ, ◌^◌, ◌<◌, true, List, length, Option, Some, IsSomeAnd, slice_get, FitsSigned}
use Rattle.std.specs.Int.{w64}
use Rattle.std.specs.List.{AllByRecursion}
use Rattle.dyn_value.specs.declared.fault.Fault.TheVariants.{NoMember, NoParameter, WrongCount}
use Rattle.dyn_value.specs.declared.outcome.Outcome.{Outcome}
use Rattle.dyn_value.specs.declared.outcome.Outcome.TheVariants as outcome
use Rattle.dyn_value.specs.declared.value.Value.{Value}
use Rattle.dyn_value.specs.declared.value.Value.TheVariants as value
use Rattle.dyn_value.specs.Proper.{IsProperIn, IsText}
use Rattle.expando_class.specs.declared.class.ClassRef.{ClassRef}
use Rattle.expando_class.specs.declared.pass.ClassPass.{ClassPass}
use Rattle.expando_class.specs.declared.table.ClassTable.{ClassTable}
use Rattle.expando_class.specs.Class.{number_of, names_of, IsClassOf}
use Rattle.expando_class.specs.Pass.{class_map}
use Rattle.expr_tree.specs.Meanings.{passes}
use Rattle.standard_binders.specs.declared.binder.Binder.{Binder}
use Rattle.standard_binders.specs.Functions.{Functions}
use Rattle.rule_model.specs.declared.claim.ClassClaim.{ClassClaim}
use Rattle.rule_model.specs.Claims.{FunHolds, ListHolds}
use Rattle.rule_model.specs.Soundness.{Suit}
use Rattle.meta_object.specs.Metas.{IsLendable}
use Rattle.meta_object.specs.Operands.{IsLentFor}
use Rattle.rule.specs.declared.rule.Rule.{Rule}
use Rattle.rule.specs.Rules.{IsSoundRule, binder_of, test_of, claim_of}
use Rattle.script_program.specs.Names.{has_short_names}

-- An operation that can be bound: its operands suit the binder and are proper, and the class that is lent is one of the
-- table, and that of the target, where the operation looks at an object.
pub record IsBindable (functions : Functions) (table : ClassTable) (b : Binder) (operands : List Value)
    (class : Option ClassRef) : Type 0 where
  pub short_names : has_short_names b ≡ true
  pub suit : Suit b operands
  pub objects : ℕ
  pub proper : AllByRecursion (IsProperIn (length functions) objects) operands
  pub number : ℕ
  pub lent : IsLentFor b operands number class
  pub of : (shown : ClassRef) → class ≡ Some shown → IsClassOf table shown
  pub lendable : (v : Value) → slice_get operands 0 ≡ Some v → IsLendable class v

-- the claim holds of this class, and of a class after that the pass knows
abbrev pub IsClaimedOf : ClassPass → ClassClaim → ClassRef → Type 0
IsClaimedOf pass c shown = (number_of shown ≡ c.class)
    × ((more : List (List ℕ))
    × (ListHolds c (names_of shown) more × ((n : ℕ) → c.after ≡ Some n → class_map pass n ≡ Some more)))

-- a sound rule that serves for this operation, where the class that is lent is the target's
pub record IsRuleFor (functions : Functions) (pass : ClassPass) (b : Binder) (operands : List Value)
    (class : Option ClassRef) (r : Rule) : Type 0 where
  pub binder_is : binder_of r ≡ b
  pub sound : IsSoundRule r
  pub passes : (number : ℕ) → IsLentFor b operands number class → passes (test_of r) operands number ≡ true
  pub lists : (c : ClassClaim) → (claim_of r).class ≡ Some c → IsSomeAnd class (IsClaimedOf pass c)
  pub fun : FunHolds (claim_of r) functions

-- a number within 64 bits, a text that is proper, a fault whose names are texts and whose numbers have 32 bits, or
-- anything else
abbrev pub HasProperContent : Outcome → Type 0
HasProperContent (outcome.Value (value.Int n)) = FitsSigned w64 n
HasProperContent (outcome.Value (value.Text t)) = IsText t
HasProperContent (outcome.Fault (NoMember name)) = IsText name
HasProperContent (outcome.Fault (NoParameter name)) = IsText name
HasProperContent (outcome.Fault (WrongCount parameters count)) = (parameters < 2 ^ 32) × (count < 2 ^ 32)
HasProperContent _ = Unit {0}
