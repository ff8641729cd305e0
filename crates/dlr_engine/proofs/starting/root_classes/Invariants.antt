use Rattle.std.proofs.Common.{◌≡◌, length}
use Rattle.dlr_engine.proofs.starting.root_classes.Given as goal

abbrev pub invariant-loop-object : goal.invariant-loop-object
invariant-loop-object l = length l.classes.items ≡ l._object
