use Rattle.std.proofs.Common.{◌∷◌, [], ◌++◌, List, Result, sym, ap, subst}
use Rattle.std.specs.declared.alloc.AllocError.{AllocError}
use Rattle.dlr_engine.specs.declared.pass.Pass.{Pass}
use Rattle.engine_tasks.specs.declared.beside.Finished.{Finished}
use Rattle.engine_tasks.specs.declared.report.TaskEnd.{TaskEnd}
use Rattle.engine_tasks.specs.Jobs.{AreEnds}
use Rattle.engine_tasks.proofs.Finishes.{one_more_ended}
use Rattle.engine_tasks.proofs.beside.ends_of.Goals as goal

pub loop-finished-preserved : goal.loop-finished-preserved
loop-finished-preserved c =
    let loop = c.loop-finished in
    let more = one_more_ended loop.yielded loop.ends loop.passes.items c.in_ok-end.field-0 loop.invariant in
    let all = ap (λ (r : Result Finished AllocError). loop.yielded ++ r ∷ []) (sym c.in_ok-end.was) in
    subst (λ (q : List (Result Finished AllocError) × List TaskEnd × List Pass). AreEnds q.0 q.1 q.2)
    (λ i. (all i, sym c.in_ok-push.ensures.ok i, sym c.in_ok-push-2.ensures.items i)) more
