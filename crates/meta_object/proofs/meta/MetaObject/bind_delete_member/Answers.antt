-- What the target answers itself is handed to the language, and what that answers is a binding.
use Rattle.meta_object.proofs.Handing.{answer_binding, handed_on, keeps_twice, delete_named, suggested}
use Rattle.meta_object.proofs.Targets.{target_of}
use Rattle.meta_object.proofs.meta.MetaObject.bind_delete_member.Goals as goal

pub own_bound-requires-clause-of : goal.own_bound-requires-clause-of
own_bound-requires-clause-of g c =
    target_of (g.L.Language.functions c.args.lang.now) c.args.cx.now.table.now c.args.cx.now.pass.now c.args.binder.now c.args.metas.now c.requires.can

pub fallback_delete_member-requires-clause-suggestion : goal.fallback_delete_member-requires-clause-suggestion
fallback_delete_member-requires-clause-suggestion g c =
    let functions = g.L.Language.functions c.args.lang.now in
    suggested functions c.own_bound.new.cx.pass.now c.args.binder.now c.args.metas.now c.in_ok-own.own (c.in_ok-own.ensures.binding functions)

pub returns-clause-bound : goal.returns-clause-bound
returns-clause-bound g c =
    let functions = g.L.Language.functions c.args.lang.now in
    answer_binding functions c.own_bound.new.cx.pass.now c.fallback_delete_member.new.cx.pass.now c.args.binder.now c.args.metas.now c.in_ok-own.own c.in_ok-bound.bound
    (c.in_ok-own.ensures.binding functions) c.in_ok-bound.ensures.bound

pub returns-clause-answer : goal.returns-clause-answer
returns-clause-answer g c =
    let functions = g.L.Language.functions c.args.lang.now in
    record {
      own = c.in_ok-own.own;
      handed = handed_on functions c.own_bound.new.cx.pass.now c.fallback_delete_member.new.cx.pass.now c.args.binder.now c.args.metas.now c.in_ok-own.own c.in_ok-bound.ensures.context.keeps
          (delete_named c.args.binder.now c.requires.binder) c.in_ok-own.ensures.exactly (c.in_ok-own.ensures.binding functions) c.in_ok-own.ensures.tests c.in_ok-own.ensures.member;
      answered = c.in_ok-bound.ensures.answers;
    }

pub returns-clause-context : goal.returns-clause-context
returns-clause-context g c = keeps_twice c.args.cx.now c.own_bound.new.cx c.fallback_delete_member.new.cx c.in_ok-own.ensures.context c.in_ok-bound.ensures.context
