use Rattle.std.proofs.Common.{sym, ap, ◌∙◌, subst, length}
use Rattle.std.specs.Prelude.{IfOk}
use Rattle.dyn_value.specs.Outcomes.{outcome_of}
use Rattle.dyn_value.specs.Proper.{IsProper}
use Rattle.object_model.specs.Plain.{IsAnswerIn}
use Rattle.object_model.proofs.PlainAnswers.{proper_in, operator_answers, conversion_answers}
use Rattle.object_model.proofs.plain.plain_outcome.Goals as goal

pub returns-in-GetIndex-clause-answer : goal.returns-in-GetIndex-clause-answer
returns-in-GetIndex-clause-answer c = λ objects all. c.element.ensures.answer (length c.args.functions.now.params) objects

pub returns-in-Invoke-clause-answer : goal.returns-in-Invoke-clause-answer
returns-in-Invoke-clause-answer c = λ objects all. c.invoke.ensures.answer objects (c.operand-in-Invoke.ensures.proper (length c.args.functions.now.params) objects all)

pub returns-in_ok-convert-in-Convert-clause-answer : goal.returns-in_ok-convert-in-Convert-clause-answer
returns-in_ok-convert-in-Convert-clause-answer c = λ objects all.
    let functions = length c.args.functions.now.params in
    let target = c.operand-in-Convert.result.now in
    let given = c.operand-in-Convert.ensures.proper functions objects all in
    let is = c.in_ok-convert-in-Convert.ensures.answer in
    let proper = c.in_ok-convert-in-Convert.ensures.proper (proper_in functions objects target given) in
    subst (IsAnswerIn functions objects) (sym (c.of.ensures ∙ ap outcome_of is))
    (conversion_answers functions objects target c.in-Convert.to given (subst (λ r. IfOk r IsProper) is proper))

pub returns-in_ok-answer-in-BinaryOperation-clause-answer : goal.returns-in_ok-answer-in-BinaryOperation-clause-answer
returns-in_ok-answer-in-BinaryOperation-clause-answer c = λ objects all.
    let functions = length c.args.functions.now.params in
    let left = c.operand-in-BinaryOperation.result.now in
    let right = c.operand-in-BinaryOperation-2.result.now in
    let is = c.in_ok-answer-in-BinaryOperation.ensures.answer in
    let proper = c.in_ok-answer-in-BinaryOperation.ensures.proper (proper_in functions objects left (c.operand-in-BinaryOperation.ensures.proper functions objects all))
    (proper_in functions objects right (c.operand-in-BinaryOperation-2.ensures.proper functions objects all)) in
    subst (IsAnswerIn functions objects) (sym (c.of-in-BinaryOperation.ensures ∙ ap outcome_of is))
    (operator_answers functions objects c.in-BinaryOperation.op left right (subst (λ r. IfOk r IsProper) is proper))
