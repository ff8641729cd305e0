use Rattle.std.proofs.Common.{refl}
use Rattle.std.proofs.Math.ListN.{length-set}
use Rattle.dlr_engine.specs.Passes.{has_others}
use Rattle.dlr_engine.proofs.Keeping.{knows_there, others_keep, part_set, refused_set, uses_set}
use Rattle.dlr_engine.proofs.engine.Engine.operate_on.Goals as goal

pub returns-in_err-answer-clause-refused : goal.returns-in_err-answer-clause-refused
returns-in_err-answer-clause-refused g c =
    let run = c.args.self.now.run in let old = c.args.pass.now in let o = c.args.operation in
    refused_set run old _ o.head.binder c.index_mut.result.now c.answer_on.new.known c.from_residual.result
    (record { inside = knows_there run old o.head.binder o.binder.now c.requires.own c.requires.binder; got = c.index_mut.ensures.value; put = refl })
    c.in_err-answer.ensures.refused refl c.in_err-answer.ensures.may c.in_err-answer.ensures.learned refl

pub returns-clause-own : goal.returns-clause-own
returns-clause-own g c =
    let run = c.args.self.now.run in let old = c.args.pass.now in let o = c.args.operation in
    part_set run old _ o.head.binder c.index_mut.result.now c.answer_on.new.known
    (record { inside = knows_there run old o.head.binder o.binder.now c.requires.own c.requires.binder; got = c.index_mut.ensures.value; put = refl })
    c.answer_on.ensures.own c.answer_on.ensures.known c.answer_on.ensures.setting
    (length-set old.classes.items o.object c.answer_on.new.class) c.requires.own

pub returns-clause-uses : goal.returns-clause-uses
returns-clause-uses g c =
    let run = c.args.self.now.run in let old = c.args.pass.now in let o = c.args.operation in
    uses_set (has_others run) c.in_ok-answer.answer.level old.known.items o.head.binder old.dropped c.answer_on.new.dropped c.index_mut.result.now
    c.answer_on.new.known _ (knows_there run old o.head.binder o.binder.now c.requires.own c.requires.binder) c.index_mut.ensures.value
    c.in_ok-answer.ensures.uses

pub returns-clause-others : goal.returns-clause-others
returns-clause-others g c =
    let run = c.args.self.now.run in let old = c.args.pass.now in let o = c.args.operation in
    others_keep old _ o.head.binder c.index_mut.result.now c.answer_on.new.known
    (record { inside = knows_there run old o.head.binder o.binder.now c.requires.own c.requires.binder; got = c.index_mut.ensures.value; put = refl })
