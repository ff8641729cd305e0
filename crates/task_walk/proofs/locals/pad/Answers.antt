use Rattle.std.proofs.Common.{◌<◌, length, ap, ◌∙◌, subst, sym, arith}
use Rattle.dyn_value.specs.declared.value.Value.TheVariants as value
use Rattle.task_code.specs.Codes.{put}
use Rattle.task_walk.specs.Tales.{IsProperValue, AreProper}
use Rattle.task_walk.proofs.Puts.{put_short, all_push}
use Rattle.task_walk.proofs.locals.pad.Goals as goal

pub padding-preserved : goal.padding-preserved
padding-preserved c =
    let less : length c.padding.locals < c.args.count = omega arith in
    record {
      same = λ v. ap (put c.args.count v) c.in_ok-push.ensures.ok ∙ put_short c.args.count v c.padding.locals less ∙ c.padding.invariant.same v;
      proper = λ by had. subst (AreProper by) (sym c.in_ok-push.ensures.ok) (all_push (IsProperValue by) c.padding.locals value.Nil
          (c.padding.invariant.proper by had) tt);
    }

pub returns-in_err-push-clause-proper : goal.returns-in_err-push-clause-proper
returns-in_err-push-clause-proper c = λ by had. subst (AreProper by) (sym c.in_err-push.ensures.err) (c.padding.invariant.proper by had)
