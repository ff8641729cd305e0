use Rattle.std.proofs.Common.{◌≡◌, ◌<◌, ℕ, Some, slice_get}
use Rattle.engine_tasks.specs.declared.report.TaskEnd.{TaskEnd}
use Rattle.dlr_top.specs.Headline.{IsFaulted}
use Rattle.dlr_top.proofs.execution.is_any_faulted.Given as goal

abbrev pub invariant-loop-end : goal.invariant-loop-end
invariant-loop-end l = (task : ℕ) (end : TaskEnd) → task < l.end-index → slice_get l.report.tasks task ≡ Some end → IsFaulted end.ended → ⊥
