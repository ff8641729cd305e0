use Rattle.dlr_engine.specs.Engines.{run_of}
use Rattle.dlr_engine.specs.Passes.{IsPassOf, IsSamePass}
use Rattle.dlr_engine.proofs.tests.cases.play_two.Given as goal

abbrev pub invariant-loop-case : goal.invariant-loop-case
invariant-loop-case g l =
    (IsPassOf (run_of l.engine) l.first × IsSamePass l.initial.first l.first)
    × (IsPassOf (run_of l.engine) l.second × IsSamePass l.initial.second l.second)
