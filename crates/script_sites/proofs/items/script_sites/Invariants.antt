use Rattle.std.proofs.Common.{length}
use Rattle.script_sites.proofs.Walks.{IsWalked}
use Rattle.script_sites.proofs.items.script_sites.Given as goal

abbrev pub invariant-loop-items : goal.invariant-loop-items
invariant-loop-items l = IsWalked l.script l.found.sites l.found.function_starts l.found.task_starts l.items l.shared l.functions l.tasks

abbrev pub decreases-loop-items : goal.decreases-loop-items
decreases-loop-items l = length l.items
