-- What contracts see of the operations that were answered.
use Rattle.std.specs.Prelude.{ℕ, List}
use Rattle.dyn_value.specs.declared.value.Value.{Value}
use Rattle.answered_operations.specs.declared.answered.Answered.{Answered}
use Rattle.answered_operations.specs.declared.operation.AnsweredOperation.{AnsweredOperation}

-- the operations that were answered, in order
abbrev pub operations_of : Answered → List AnsweredOperation
operations_of answered = answered.seat.me.0

-- the operation of a site on these operands
abbrev pub operation_at : ℕ → List Value → AnsweredOperation
operation_at site operands = record { site = site; operands = operands }
