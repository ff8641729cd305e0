-- The class so far is of the table, as are the classes that the pass knows.
use Rattle.expando_class.specs.Class.{IsClassOf}
use Rattle.expando_class.specs.Pass.{IsPassOf}
use Rattle.rule.proofs.tests.class_of.Given as goal

abbrev pub invariant-loop-name : goal.invariant-loop-name
invariant-loop-name g l = IsPassOf l.table l.pass × IsClassOf l.table l.class
