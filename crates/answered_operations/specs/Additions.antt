-- How the list of answered operations grows by the parts of an operation.
use Rattle.std.specs.Prelude.{◌≡◌, ℕ, List, [], ◌∷◌, ◌++◌}
use mathlib.Core.Option.{some}
use Rattle.atomic_table.specs.Table.{Me, Step}
use Rattle.dyn_value.specs.declared.value.Value.{Value}
use Rattle.answered_operations.specs.declared.operation.AnsweredOperation.{AnsweredOperation}
use Rattle.answered_operations.specs.Operations.{operation_at}
use Rattle.answered_operations.specs.declared.said.Said.{Said}
use Rattle.answered_operations.specs.declared.said.Said.TheVariants.{Site, Operand}

-- the last operation has one more operand
abbrev pub with_operand : List AnsweredOperation → Value → List AnsweredOperation
with_operand [] operand = []
with_operand (last ∷ []) operand = operation_at last.site (last.operands ++ operand ∷ []) ∷ []
with_operand (first ∷ next ∷ rest) operand = first ∷ with_operand (next ∷ rest) operand

-- the list after a part was said: a site begins an operation, and an operand is one of the last
abbrev pub after_said : List AnsweredOperation → Said → List AnsweredOperation
after_said operations (Site site) = operations ++ operation_at site [] ∷ []
after_said operations (Operand operand) = with_operand operations operand.value

-- a part was said: so the list grew
abbrev pub says : Step Said → Me Said (List AnsweredOperation) → ℕ → Me Said (List AnsweredOperation) → Type 0
says step me found me' = (part : Said) → step.said ≡ some part → me' ≡ (after_said me.0 part, me.1)
