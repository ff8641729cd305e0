use Rattle.std.proofs.Common.{length, refl, sym, subst}
use Rattle.std.specs.List.{AllByRecursion}
use Rattle.dyn_value.specs.Proper.{IsProperIn}
use Rattle.object_model.specs.Plain.{IsAnswerIn}
use Rattle.standard_binders.specs.Functions.{Functions}
use Rattle.dlr_engine.specs.Passes.{has_others, log_in}
use Rattle.dlr_engine.proofs.Keeping.{idle_there, knows_there, others_keep, part_set, refused_set, uses_set}
use Rattle.dlr_engine.proofs.engine.Engine.operate_plain.Goals as goal

pub answer_plain-requires-clause-proper : goal.answer_plain-requires-clause-proper
answer_plain-requires-clause-proper g c =
    let e = c.args.self.now in let limit = e.run.tag.limit in
    (limit, subst (λ (fs : Functions). AllByRecursion (IsProperIn (length fs) limit) c.args.operands.now) (sym e.functions) c.requires.proper)

pub returns-in_err-answer-clause-own : goal.returns-in_err-answer-clause-own
returns-in_err-answer-clause-own g c =
    let run = c.args.self.now.run in let old = c.args.pass.now in
    part_set run old _ c.args.number c.index_mut.result.now c.answer_plain.new.known
    (record { inside = knows_there run old c.args.number c.args.binder.now c.requires.own c.requires.binder; got = c.index_mut.ensures.value; put = refl })
    c.requires.own.rows c.answer_plain.ensures.known c.answer_plain.ensures.setting refl c.requires.own

pub returns-in_err-answer-clause-others : goal.returns-in_err-answer-clause-others
returns-in_err-answer-clause-others g c =
    let run = c.args.self.now.run in let old = c.args.pass.now in
    others_keep old _ c.args.number c.index_mut.result.now c.answer_plain.new.known
    (record { inside = knows_there run old c.args.number c.args.binder.now c.requires.own c.requires.binder; got = c.index_mut.ensures.value; put = refl })

pub returns-in_err-answer-clause-refused : goal.returns-in_err-answer-clause-refused
returns-in_err-answer-clause-refused g c =
    let run = c.args.self.now.run in let old = c.args.pass.now in
    refused_set run old _ c.args.number c.index_mut.result.now c.answer_plain.new.known c.from_residual.result
    (record { inside = knows_there run old c.args.number c.args.binder.now c.requires.own c.requires.binder; got = c.index_mut.ensures.value; put = refl })
    (idle_there (log_in old)) refl c.in_err-answer.ensures.may c.in_err-answer.ensures.learned refl

pub returns-clause-own : goal.returns-clause-own
returns-clause-own g c =
    let run = c.args.self.now.run in let old = c.args.pass.now in
    part_set run old _ c.args.number c.index_mut.result.now c.answer_plain.new.known
    (record { inside = knows_there run old c.args.number c.args.binder.now c.requires.own c.requires.binder; got = c.index_mut.ensures.value; put = refl })
    c.requires.own.rows c.answer_plain.ensures.known c.answer_plain.ensures.setting refl c.requires.own

pub returns-clause-proper : goal.returns-clause-proper
returns-clause-proper g c =
    let e = c.args.self.now in let limit = e.run.tag.limit in
    let proper = subst (λ (fs : Functions). AllByRecursion (IsProperIn (length fs) limit) c.args.operands.now) (sym e.functions) c.requires.proper in (
      subst (λ (fs : Functions). IsAnswerIn (length fs) limit c.in_ok-answer.answer.outcome) e.functions (c.in_ok-answer.ensures.outcome.answer limit proper),
      c.in_ok-answer.ensures.outcome.fault,
    )

pub returns-clause-uses : goal.returns-clause-uses
returns-clause-uses g c =
    let run = c.args.self.now.run in let old = c.args.pass.now in
    uses_set (has_others run) c.in_ok-answer.answer.level old.known.items c.args.number old.dropped c.answer_plain.new.dropped c.index_mut.result.now
    c.answer_plain.new.known _ (knows_there run old c.args.number c.args.binder.now c.requires.own c.requires.binder) c.index_mut.ensures.value
    c.in_ok-answer.ensures.uses

pub returns-clause-others : goal.returns-clause-others
returns-clause-others g c =
    let run = c.args.self.now.run in let old = c.args.pass.now in
    others_keep old _ c.args.number c.index_mut.result.now c.answer_plain.new.known
    (record { inside = knows_there run old c.args.number c.args.binder.now c.requires.own c.requires.binder; got = c.index_mut.ensures.value; put = refl })
