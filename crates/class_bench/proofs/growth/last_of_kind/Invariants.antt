use Rattle.expando_class.specs.Class.{IsClassOf}
use Rattle.expando_class.specs.Pass.{IsPassOf}
use Rattle.class_bench.proofs.growth.last_of_kind.Given as goal

abbrev pub invariant-loop-place : goal.invariant-loop-place
invariant-loop-place g l = IsPassOf l.table l.pass × IsClassOf l.table l.class
