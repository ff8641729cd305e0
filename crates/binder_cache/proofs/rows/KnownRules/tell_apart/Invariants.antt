use Rattle.std.proofs.Common.{◌≡◌}
use Rattle.rule_cells.specs.Cells.{index_of}
use Rattle.binder_cache.proofs.Places.{NoneAt}
use Rattle.binder_cache.proofs.rows.KnownRules.tell_apart.Given as goal

abbrev pub invariant-loop-row : goal.invariant-loop-row
invariant-loop-row g l = (l.row-items ≡ l.self.rows.items) × NoneAt l.row-items (index_of l.known) l.row-index
