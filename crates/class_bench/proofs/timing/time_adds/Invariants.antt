use Rattle.expando_class.specs.Pass.{IsPassOf}
use Rattle.class_bench.proofs.timing.time_adds.Given as goal

abbrev pub invariant-loop-round : goal.invariant-loop-round
invariant-loop-round g l = IsPassOf l.table l.pass
