use Rattle.std.proofs.Common.{◌-◌}
use Rattle.expando_class.specs.Class.{IsClassOf}
use Rattle.expando_class.specs.Pass.{IsPassOf}
use Rattle.expando_class.proofs.tests.each_of_many_classes_is_shown_and_added_once.Given as goal

abbrev pub invariant-loop-place : goal.invariant-loop-place
invariant-loop-place g l = IsPassOf l.table l.pass × IsClassOf l.table l.root

abbrev pub invariant-loop-round : goal.invariant-loop-round
invariant-loop-round g l = IsPassOf l.table l.pass × IsClassOf l.table l.root

abbrev pub decreases-loop-place : goal.decreases-loop-place
decreases-loop-place g l = 150 - l.place-counter
