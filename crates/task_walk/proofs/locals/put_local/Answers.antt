use Rattle.std.proofs.Common.{◌≡◌, ◌<◌, length, ◌∙◌, subst, sym, arith}
use Rattle.task_walk.specs.Tales.{IsProperValue, AreProper}
use Rattle.task_walk.proofs.Puts.{put_set, put_push, all_set, all_pushed, on_ok}
use Rattle.task_walk.proofs.locals.put_local.Goals as goal

pub returns-in_err-pad-clause-proper : goal.returns-in_err-pad-clause-proper
returns-in_err-pad-clause-proper c = λ by had here. c.pad.ensures.proper by had

pub returns-then-place-len-clause-put : goal.returns-then-place-len-clause-put
returns-then-place-len-clause-put c =
    let less : c.args.number < length c.pad.new.locals = omega arith in
    c.set.ensures ∙ sym (put_set c.args.number c.args.value c.pad.new.locals less) ∙ c.pad.ensures.same c.args.value

pub returns-then-place-len-clause-proper : goal.returns-then-place-len-clause-proper
returns-then-place-len-clause-proper c = λ by had here.
    subst (AreProper by) (sym c.set.ensures) (all_set (IsProperValue by) c.pad.new.locals c.args.number c.args.value (c.pad.ensures.proper by had) here)

pub returns-else-place-len-clause-put : goal.returns-else-place-len-clause-put
returns-else-place-len-clause-put c =
    let is : c.args.number ≡ length c.pad.new.locals = omega (arith, c.in_ok-pad.ensures.count) in
    on_ok c.push.result (λ added. added ∙ sym (put_push c.args.number c.args.value c.pad.new.locals is) ∙ c.pad.ensures.same c.args.value) c.push.ensures.ok

pub returns-else-place-len-clause-proper : goal.returns-else-place-len-clause-proper
returns-else-place-len-clause-proper c = λ by had here.
    all_pushed (IsProperValue by) c.push.result c.pad.new.locals c.push.new.self c.args.value c.push.ensures.ok c.push.ensures.err
    (c.pad.ensures.proper by had) here
