use Rattle.std.proofs.Common.{◌-◌, ◌≤◌, vec_len}
use Rattle.byte_devices.specs.Devices.{TakesFirst}
use Rattle.byte_devices.proofs.intake.read_by_pieces.Given as goal

abbrev pub invariant-loop-source : goal.invariant-loop-source
invariant-loop-source g l = record {
  most : vec_len l.bytes ≤ 1048577;
  taken : TakesFirst (g.S.Source.held l.initial.source) (g.S.Source.held l.source) l.bytes.items;
  never_falls : g.S.Source.faults l.initial.source ≤ g.S.Source.faults l.source;
}

abbrev pub decreases-loop-source : goal.decreases-loop-source
decreases-loop-source g l = 1048577 - vec_len l.bytes
