use Rattle.std.proofs.Common.{◌-◌}
use Rattle.expando_class.specs.Class.{IsClassOf}
use Rattle.expando_class.specs.Pass.{IsPassOf}
use Rattle.expando_class.proofs.tests.adds_many.Given as goal

abbrev pub invariant-loop-place : goal.invariant-loop-place
invariant-loop-place g l = IsPassOf l.table l.pass × IsClassOf l.table l.root

abbrev pub decreases-loop-place : goal.decreases-loop-place
decreases-loop-place g l = 150 - l.place-counter
