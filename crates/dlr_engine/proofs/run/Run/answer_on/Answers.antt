use Rattle.std.proofs.Common.{◌∙◌, sym, subst}
use Rattle.turn_rows.specs.Passes.{log_of}
use Rattle.known_rules.specs.Guarding.{Passes}
use Rattle.known_rules.specs.Knowledge.{rules_in}
use Rattle.dlr_engine.specs.declared.answer.Level.{Level}
use Rattle.dlr_engine.specs.Knowing.{kept_in, LearnsAtMost}
use Rattle.dlr_engine.specs.Operations.{IsChosenThere, on_object_of}
use Rattle.dlr_engine.specs.Passes.{has_others}
use Rattle.dlr_engine.proofs.Permuting.{comes_after, searched}
use Rattle.dlr_engine.proofs.Using.{learns_at_most, on_err, uses}
use Rattle.dlr_engine.proofs.run.Run.answer_on.Goals as goal

pub returns-in_err-made-clause-learned : goal.returns-in_err-made-clause-learned
returns-in_err-made-clause-learned g c =
    let others = has_others c.args.self.now in let o = c.args.operation in let dropped = c.args.dropped.now in
    let old = c.args.known.now in let first = c.find-rule.new.self in let knew = c.turn_on.new.known in
    let same = searched (Passes o.operands.now c.args.class.now) (rules_in old) (rules_in first) c.find-rule.result c.find-rule.ensures.same
    c.find-rule.ensures.found in
    on_err (LearnsAtMost others (kept_in old dropped) (kept_in knew dropped)) c.from_residual.result
    (learns_at_most others old knew dropped (comes_after others (rules_in old) (rules_in first) (rules_in knew) same c.turn_on.ensures.among)
    (c.turn_on.ensures.published ∙ c.find-rule.ensures.published))

pub returns-clause-uses : goal.returns-clause-uses
returns-clause-uses g c =
    let others = has_others c.args.self.now in let o = c.args.operation in let binders = c.args.self.now.tag.binders.now in
    let old = c.args.known.now in let first = c.find-rule.new.self in let knew = c.turn_on.new.known in
    let published = c.publish_bound-level in let place = c.in_ok-made.field-0.made.place in let log = log_of c.turn_on.new.rows in
    let same = searched (Passes o.operands.now c.args.class.now) (rules_in old) (rules_in first) c.find-rule.result c.find-rule.ensures.same
    c.find-rule.ensures.found in
    uses others published.result old knew published.new.known c.args.dropped.now published.new.dropped
    (IsChosenThere binders (on_object_of o) o.operands.now log published.result place)
    (comes_after others (rules_in old) (rules_in first) (rules_in knew) same c.turn_on.ensures.among)
    (c.turn_on.ensures.published ∙ c.find-rule.ensures.published)
    (subst (λ (l : Level). IsChosenThere binders (on_object_of o) o.operands.now log l place (rules_in knew)) (sym published.ensures.level)
    c.in_ok-made.ensures.chosen)
    published.ensures.leaves
