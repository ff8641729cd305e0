use Rattle.std.proofs.Common.{◌≡◌, ◌+◌, ◌≤◌, length, take}
use Rattle.std.specs.List.{suffix_len}
use Rattle.script_places.specs.Lines.{is_within_line}
use Rattle.script_places.proofs.position.last_line.Given as goal

abbrev pub invariant-loop-start : goal.invariant-loop-start
invariant-loop-start l = record {
  within : l.start ≤ length l.characters;
  ends : l.start + suffix_len is_within_line l.characters ≡ length l.characters + suffix_len is_within_line (take l.start l.characters);
}

abbrev pub decreases-loop-start : goal.decreases-loop-start
decreases-loop-start l = l.start
