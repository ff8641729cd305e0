-- Nothing is handed to the language, and what it answers is a binding.
use Rattle.std.proofs.Common.{None}
use Rattle.meta_object.proofs.Handing.{answer_binding, get_index_unnamed, none_handed}
use Rattle.meta_object.proofs.meta.MetaObject.bind_get_index.Goals as goal

pub returns-clause-bound : goal.returns-clause-bound
returns-clause-bound g c =
    answer_binding (g.L.Language.functions c.args.lang.now) c.args.cx.now.pass.now c.fallback_get_index.new.cx.pass.now c.args.binder.now c.args.metas.now None c.in_ok-bound.bound
    tt c.in_ok-bound.ensures.bound

pub returns-clause-answer : goal.returns-clause-answer
returns-clause-answer g c = record {
  own = None;
  handed = none_handed (g.L.Language.functions c.args.lang.now) c.fallback_get_index.new.cx.pass.now c.args.binder.now c.args.metas.now (get_index_unnamed c.args.binder.now c.requires.binder);
  answered = c.in_ok-bound.ensures.answers;
}
