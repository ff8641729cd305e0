use Rattle.std.proofs.Common.{◌≡◌, ◌++◌, drop}
use Rattle.task_code.specs.Acts.{placed}
use Rattle.task_walk.specs.Tales.{Teller, AreProper}
use Rattle.task_walk.proofs.arguments.place_values.Given as goal

abbrev pub invariant-loop-place : goal.invariant-loop-place
invariant-loop-place l = record {
  values : l.values ++ placed (drop l.place l.params) l.names (drop l.place l.by_place) l.named ≡ placed l.params l.names l.by_place l.named;
  proper : (by : Teller) → AreProper by l.args → AreProper by l.values;
}
