-- Outcomes of operations, and their operands.
use Rattle.std.specs.Prelude.{ℕ, List, Result, Ok, Err, slice_get, unwrap_or}
use Rattle.dyn_value.specs.declared.fault.Fault.{Fault}
use Rattle.dyn_value.specs.declared.outcome.Outcome.{Outcome}
use Rattle.dyn_value.specs.declared.outcome.Outcome.TheVariants as outcome
use Rattle.dyn_value.specs.declared.value.Value.{Value}
use Rattle.dyn_value.specs.declared.value.Value.TheVariants as value

-- the outcome that is a value or a fault
abbrev pub outcome_of : Result Value Fault → Outcome
outcome_of (Ok v) = outcome.Value v
outcome_of (Err f) = outcome.Fault f

-- the value at a place, or the operand of a number, where it is there
abbrev pub at : List Value → ℕ → Value
at values i = unwrap_or (slice_get values i) value.Nil
