-- Where a rule is adopted, where it passes, and where it fits.
use Rattle.std.specs.Prelude.{◌≡◌, ℕ, true, List, Option, IfSome}
use Rattle.std.specs.Option.{option_map}
use Rattle.dyn_value.specs.declared.value.Value.{Value}
use Rattle.expando_class.specs.declared.class.ClassRef.{ClassRef}
use Rattle.expando_class.specs.declared.table.ClassTable.{ClassTable}
use Rattle.expando_class.specs.Class.{IsClassOf, names_of, number_of}
use Rattle.expr_tree.specs.Meanings.{State, passes}
use Rattle.expr_tree.specs.Trees.{root}
use Rattle.rule_model.specs.Soundness.{named_class}
use Rattle.tree_eval.specs.States.{names_after}
use Rattle.standard_binders.specs.declared.binder.Binder.{Binder}
use Rattle.standard_binders.specs.Functions.{Functions}
use Rattle.rule.specs.declared.claimed.Adopted.{Adopted}
use Rattle.rule.specs.declared.rule.Rule.{Rule}
use Rattle.rule.specs.Claimed.{IsAdopted}
use Rattle.rule.specs.Fitting.{Fits}
use Rattle.rule.specs.Rules.{IsSoundRule, binder_of, body_of, claim_of, test_of}

-- the rule is one of this binder, and adopted: these are the classes that its claim names, and the claim holds of them
abbrev pub IsAdoptedIn : Binder → Functions → ClassTable → Rule → Adopted → Type 0
IsAdoptedIn b functions table r adopted = (binder_of r ≡ b) × IsAdopted functions table (claim_of r) adopted

-- the test of the rule is true of these operands and a class of this number
abbrev pub Passes : List Value → ℕ → Rule → Type 0
Passes operands class r = passes (test_of r) operands class ≡ true

-- the state of an object of this class with these values
abbrev pub state_with : ClassRef → List Value → State
state_with class values = record { class = number_of class; names = names_of class; values = values }

-- A sound rule fits each state of a class of the table, with this class after: that is the class that its body names,
-- and it is one of the table too.
pub record FitsClass (r : Rule) (operands : List Value) (table : ClassTable) (class : ClassRef)
    (after : Option ClassRef) : Type 0 where
  pub sound : IsSoundRule r
  pub fits : (values : List Value) → Fits r operands (state_with class values) (names_after after)
  pub named : option_map number_of after ≡ named_class (root (body_of r))
  pub own : IfSome after (IsClassOf table)
