use Rattle.dlr_engine.specs.Engines.{run_of}
use Rattle.dlr_engine.specs.Passes.{IsPassOf, IsSamePass}
use Rattle.dlr_engine.proofs.tests.workers.work.Given as goal

abbrev pub invariant-loop-number : goal.invariant-loop-number
invariant-loop-number g l = IsPassOf (run_of l.engine) l.pass × IsSamePass l.initial.pass l.pass
