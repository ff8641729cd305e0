use Rattle.std.proofs.Common.{◌+◌, ap, sym, subst, ◌∙◌}
use Rattle.dyn_value.specs.declared.fault.Fault.TheVariants.{NoOperator}
use Rattle.object_model.specs.Steps.{on_object}
use Rattle.task_code.specs.Acts.{Gives, Fails, answered}
use Rattle.task_code.specs.Codes.{binder_at}
use Rattle.task_walk.specs.Parts.{turn_cost}
use Rattle.task_walk.specs.Tales.{IsProperAnswer}
use Rattle.task_walk.proofs.Asking.{walked_asked}
use Rattle.task_walk.proofs.operations.ask.Goals as goal

pub returns-in-Value : goal.returns-in-Value
returns-in-Value g c = λ levels lines.
    walked_asked c.args.code.now.functions.now levels c.args.site c.args.operands.now c.in_ok-value.field-0 (Gives c.in-Value.value) c.args.frame.now
    c.in_ok-frame.field-0 _ _ lines _ _
    (c.in_ok-frame.ensures.after ∙ ap (λ b. c.in_ok-frame.field-0 + turn_cost (on_object b c.args.operands.now))
    (c.binder_of.ensures ∙ ap (λ p. binder_at p c.args.site) (sym c.requires.ready.world.plan)))
    c.in_ok-value.ensures.answers c.in_ok-value.ensures.answered (λ s. ap (answered s) c.in-Value.is)
    (subst (IsProperAnswer (g.W.World.tale c.args.world.now).by) c.in-Value.is c.in_ok-value.ensures.answer) c.requires.ready.proper

pub returns-in-Fault : goal.returns-in-Fault
returns-in-Fault g c = λ levels lines.
    walked_asked c.args.code.now.functions.now levels c.args.site c.args.operands.now c.in_ok-value.field-0 (Fails c.in-Fault.fault) c.args.frame.now
    c.in_ok-frame.field-0 _ _ lines _ _
    (c.in_ok-frame.ensures.after ∙ ap (λ b. c.in_ok-frame.field-0 + turn_cost (on_object b c.args.operands.now))
    (c.binder_of.ensures ∙ ap (λ p. binder_at p c.args.site) (sym c.requires.ready.world.plan)))
    c.in_ok-value.ensures.answers c.in_ok-value.ensures.answered (λ s. ap (answered s) c.in-Fault.is)
    (subst (IsProperAnswer (g.W.World.tale c.args.world.now).by) c.in-Fault.is c.in_ok-value.ensures.answer) c.requires.ready.proper

pub returns-in-Call : goal.returns-in-Call
returns-in-Call g c = λ levels lines.
    walked_asked c.args.code.now.functions.now levels c.args.site c.args.operands.now c.in_ok-value.field-0 (Fails NoOperator) c.args.frame.now
    c.in_ok-frame.field-0 _ _ lines _ _
    (c.in_ok-frame.ensures.after ∙ ap (λ b. c.in_ok-frame.field-0 + turn_cost (on_object b c.args.operands.now))
    (c.binder_of.ensures ∙ ap (λ p. binder_at p c.args.site) (sym c.requires.ready.world.plan)))
    c.in_ok-value.ensures.answers c.in_ok-value.ensures.answered (λ s. ap (answered s) c.in-Call.is) (tt) c.requires.ready.proper

pub returns-in-Make : goal.returns-in-Make
returns-in-Make g c = λ levels lines.
    walked_asked c.args.code.now.functions.now levels c.args.site c.args.operands.now c.in_ok-value.field-0 (Fails NoOperator) c.args.frame.now
    c.in_ok-frame.field-0 _ _ lines _ _
    (c.in_ok-frame.ensures.after ∙ ap (λ b. c.in_ok-frame.field-0 + turn_cost (on_object b c.args.operands.now))
    (c.binder_of.ensures ∙ ap (λ p. binder_at p c.args.site) (sym c.requires.ready.world.plan)))
    c.in_ok-value.ensures.answers c.in_ok-value.ensures.answered (λ s. ap (answered s) c.in-Make.is) (tt) c.requires.ready.proper
