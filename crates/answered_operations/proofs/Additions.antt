-- An operand more of the operation that is added.
use Rattle.std.proofs.Common.{◌≡◌, ℕ, List, [], ◌∷◌, ◌++◌, refl, ap}
use Rattle.dyn_value.specs.declared.value.Value.{Value}
use Rattle.answered_operations.specs.declared.operation.AnsweredOperation.{AnsweredOperation}
use Rattle.answered_operations.specs.Additions.{with_operand}
use Rattle.answered_operations.specs.Operations.{operation_at}

pub one_more : (before : List AnsweredOperation) (site : ℕ) (operands : List Value) (operand : Value)
    → with_operand (before ++ operation_at site operands ∷ []) operand
    ≡ before ++ operation_at site (operands ++ operand ∷ []) ∷ []
one_more [] site operands operand = refl
one_more (first ∷ []) site operands operand = refl
one_more (first ∷ next ∷ rest) site operands operand =
    ap (λ (z : List AnsweredOperation). first ∷ z) (one_more (next ∷ rest) site operands operand)
