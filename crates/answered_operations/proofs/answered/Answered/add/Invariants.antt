use Rattle.std.proofs.Common.{◌≡◌, ◌++◌, ◌∷◌, [], take}
use Rattle.answered_operations.specs.Operations.{operation_at, operations_of}
use Rattle.answered_operations.proofs.answered.Answered.add.Given as goal

abbrev pub invariant-loop-operand : goal.invariant-loop-operand
invariant-loop-operand l =
    operations_of l.self ≡ operations_of l.fn.self ++ operation_at l.site (take l.operand-index l.operands) ∷ []
