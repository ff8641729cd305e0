use Rattle.object_model.specs.Shown.{shown}
use Rattle.object_model.proofs.ProperMembers.{left_proper, answers_proper}
use Rattle.object_model.proofs.StepsByPlace.{stepped}
use Rattle.object_model.proofs.members.ObjectMembers.step.Goals as goal

pub returns-clause-proper : goal.returns-clause-proper
returns-clause-proper c = λ functions objects all given.
    let old = c.args.self.now in
    let new = c.make.new.self in
    let b = c.args.binder.now in
    let operands = c.args.operands.now in
    left_proper functions objects old new b operands c.make.result (stepped old new b operands (shown c.of.result) c.make.result c.of.ensures c.make.ensures.step) c.make.ensures.refused all given

pub returns-clause-answer : goal.returns-clause-answer
returns-clause-answer c = λ functions objects all.
    let old = c.args.self.now in
    let new = c.make.new.self in
    let b = c.args.binder.now in
    let operands = c.args.operands.now in
    answers_proper functions objects old new b operands c.make.result (stepped old new b operands (shown c.of.result) c.make.result c.of.ensures c.make.ensures.step) all
