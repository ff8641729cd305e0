use Rattle.expando_class.specs.Pass.{IsPassOf}
use Rattle.class_bench.proofs.growth.learn.Given as goal

abbrev pub invariant-loop-growth : goal.invariant-loop-growth
invariant-loop-growth g l = IsPassOf l.table l.pass
