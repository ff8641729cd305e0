use Rattle.engine_tasks.specs.Jobs.{AreEnds}
use Rattle.engine_tasks.proofs.beside.ends_of.Given as goal

abbrev pub invariant-loop-finished : goal.invariant-loop-finished
invariant-loop-finished l = AreEnds l.yielded l.ends l.passes.items
