use Rattle.std.proofs.Common.{rules, subst, sym}
use Rattle.std.specs.Prelude.{IfOk}
use Rattle.dyn_value.specs.Proper.{IsProper}
use Rattle.dyn_value.proofs.ProperAnswers.{binary_proper}
use Rattle.dyn_value.proofs.operations.binary.Goals as goal

pub returns-clause-answer : goal.returns-clause-answer
returns-clause-answer c = search rules

pub returns-clause-proper : goal.returns-clause-proper
returns-clause-proper c left right =
    subst (λ r. IfOk r IsProper) (sym (returns-clause-answer c)) (binary_proper c.args.op c.args.left.now c.args.right.now left right)
