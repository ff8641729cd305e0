use Rattle.std.proofs.Common.{◌≡◌, ◌∙◌, get_or, subst, arith}
use Rattle.task_compile.specs.CompiledScripts.{IsFunctionBody}
use Rattle.task_compile.proofs.Pairs.{one_more_taken}
use Rattle.task_compile.proofs.bodies.compile_functions.Goals as goal

pub loop-place-preserved : goal.loop-place-preserved
loop-place-preserved c = record {
  items = c.in_ok-compile_function.ensures.items ∙ c.loop-place.invariant.items;
  bodies = one_more_taken (λ k. IsFunctionBody c.args.scope.now.items (get_or c.args.starts.now k 0)) c.args.functions.now c.loop-place.place c.index-functions-place.result c.loop-place.codes c.push.new.self c.in_ok-compile_function.field-0
      (omega arith) c.index-functions-place.is c.in_ok-push.ensures.ok c.loop-place.invariant.bodies
      (subst (λ z. IsFunctionBody z (get_or c.args.starts.now c.loop-place.place 0) c.index-functions-place.result c.in_ok-compile_function.field-0) c.loop-place.invariant.items c.in_ok-compile_function.ensures.code);
}
