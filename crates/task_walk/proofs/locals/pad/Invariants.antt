use Rattle.std.proofs.Common.{◌≡◌, ◌-◌, length}
use Rattle.dyn_value.specs.declared.value.Value.{Value}
use Rattle.task_code.specs.Codes.{put}
use Rattle.task_walk.specs.Tales.{Teller, AreProper}
use Rattle.task_walk.proofs.locals.pad.Given as goal

abbrev pub invariant-padding : goal.invariant-padding
invariant-padding l = record {
  same : (v : Value) → put l.count v l.locals ≡ put l.count v l.fn.locals;
  proper : (by : Teller) → AreProper by l.fn.locals → AreProper by l.locals;
}

abbrev pub decreases-padding : goal.decreases-padding
decreases-padding l = l.count - length l.locals
