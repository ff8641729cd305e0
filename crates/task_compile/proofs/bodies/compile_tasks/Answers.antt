use Rattle.std.proofs.Common.{◌≡◌, ◌∙◌, get_or, subst, arith}
use Rattle.task_compile.specs.CompiledScripts.{IsTaskBody}
use Rattle.task_compile.proofs.Pairs.{one_more_taken}
use Rattle.task_compile.proofs.bodies.compile_tasks.Goals as goal

pub loop-place-preserved : goal.loop-place-preserved
loop-place-preserved c = record {
  items = c.in_ok-compile_task.ensures.items ∙ c.loop-place.invariant.items;
  bodies = one_more_taken (λ k. IsTaskBody c.args.scope.now.items (get_or c.args.starts.now k 0)) c.args.tasks.now c.loop-place.place c.index-tasks-place.result c.loop-place.codes c.push.new.self c.in_ok-compile_task.field-0
      (omega arith) c.index-tasks-place.is c.in_ok-push.ensures.ok c.loop-place.invariant.bodies
      (subst (λ z. IsTaskBody z (get_or c.args.starts.now c.loop-place.place 0) c.index-tasks-place.result c.in_ok-compile_task.field-0) c.loop-place.invariant.items c.in_ok-compile_task.ensures.code);
}
