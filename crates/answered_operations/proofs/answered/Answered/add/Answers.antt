use Rattle.std.proofs.Common.{◌≡◌, ◌++◌, ◌∷◌, [], List, take, sym, ap, ◌∙◌}
use Rattle.std.proofs.lemmas.List.{take_more}
use Rattle.dyn_value.specs.declared.value.Value.{Value}
use Rattle.answered_operations.specs.Additions.{with_operand}
use Rattle.answered_operations.specs.Operations.{operation_at, operations_of}
use Rattle.answered_operations.proofs.Additions.{one_more}
use Rattle.answered_operations.proofs.answered.Answered.add.Goals as goal

pub loop-operand-preserved : goal.loop-operand-preserved
loop-operand-preserved c =
    let before = operations_of c.args.self.now in
    let operands : List Value = c.args.operands.now in
    let operand : Value = c.operand-item.result in
    let is_said : c.of.result.value ≡ operand = c.of.ensures in
    let taken = take_more operands c.loop-operand.operand-index operand c.loop-operand-test.true in
    c.say-in-loop-operand.ensures
    ∙ (λ i. with_operand (c.loop-operand.invariant i) ((is_said ∙ c.operand-item.is) i))
    ∙ one_more before c.args.site (take c.loop-operand.operand-index operands) _
    ∙ ap (λ (xs : List Value). before ++ operation_at c.args.site xs ∷ []) (sym taken)
