use Rattle.std.proofs.Common.{◌≡◌}
use Rattle.binder_cache.proofs.Places.{NoneNamed}
use Rattle.binder_cache.proofs.rows.KnownRules.named.Given as goal

abbrev pub invariant-loop-row : goal.invariant-loop-row
invariant-loop-row g l = (l.row-items ≡ l.self.rows.items) × NoneNamed l.row-items l.word l.row-index
