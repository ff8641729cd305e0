use Rattle.std.proofs.Common.{length, take, ◌-◌, ◌≤◌, ◌+◌}
use Rattle.byte_devices.specs.Devices.{Adds}
use Rattle.byte_devices.proofs.output.write_all.Given as goal

abbrev pub invariant-loop-at : goal.invariant-loop-at
invariant-loop-at g l = record {
  within : l.at ≤ length l.text;
  room : length l.text ≤ g.K.Sink.room l.sink + l.at;
  added : Adds (g.K.Sink.has l.initial.sink) (g.K.Sink.has l.sink) (take l.at l.text);
  never_falls : g.K.Sink.faults l.initial.sink ≤ g.K.Sink.faults l.sink;
}

abbrev pub decreases-loop-at : goal.decreases-loop-at
decreases-loop-at g l = length l.text - l.at
