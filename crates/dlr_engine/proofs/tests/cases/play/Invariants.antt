use Rattle.dlr_engine.specs.Engines.{run_of}
use Rattle.dlr_engine.specs.Passes.{IsPassOf, IsSamePass}
use Rattle.dlr_engine.proofs.tests.cases.play.Given as goal

abbrev pub invariant-loop-case : goal.invariant-loop-case
invariant-loop-case g l = IsPassOf (run_of l.engine) l.pass × IsSamePass l.initial.pass l.pass
