-- What is known of the faults that a run's operations answer.
use Rattle.std.specs.Prelude.{◌≡◌, ℕ, List, length}
use Rattle.std.specs.List.{AllByRecursion}
use Rattle.dyn_value.specs.declared.outcome.Outcome.{Outcome}
use Rattle.dyn_value.specs.declared.outcome.Outcome.TheVariants as outcome
use Rattle.dyn_value.specs.declared.value.Value.{Value}
use Rattle.dyn_value.specs.Proper.{IsProperIn}
use Rattle.standard_binders.specs.declared.binder.Binder.{Binder}
use Rattle.standard_binders.specs.Functions.{Functions}
use Rattle.object_model.specs.Plain.{IsAnswerIn, plain_step}
use Rattle.task_walk.specs.Tales.{IsProperFault}

-- its fault, if it is one, is proper: its names are short
abbrev pub HasProperFault : Outcome → Type 0
HasProperFault (outcome.Fault f) = IsProperFault f
HasProperFault _ = Unit {0}

-- the outcome of an operation that looks at no object: it is the one that the operands determine, and proper
pub record IsPlainOutcome (functions : Functions) (b : Binder) (operands : List Value) (o : Outcome) : Type 0 where
  pub is : o ≡ plain_step functions b operands
  pub answer : (objects : ℕ) → AllByRecursion (IsProperIn (length functions) objects) operands
      → IsAnswerIn (length functions) objects o
  pub fault : HasProperFault o
