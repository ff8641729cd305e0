use Rattle.std.proofs.Common.{◌≡◌, take}
use Rattle.fallback.proofs.call_rows.copied.Given as goal

abbrev pub invariant-loop-name : goal.invariant-loop-name
invariant-loop-name l = l.copies ≡ take l.name-index l.names
