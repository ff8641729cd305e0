use Rattle.std.proofs.Common.{◌≡◌}
use Rattle.binder_cache.proofs.Places.{NoneAt}
use Rattle.binder_cache.proofs.rows.KnownRules.row.Given as goal

abbrev pub invariant-loop-row : goal.invariant-loop-row
invariant-loop-row g l = (l.row-items ≡ l.self.rows.items) × NoneAt l.row-items l.index l.row-index
