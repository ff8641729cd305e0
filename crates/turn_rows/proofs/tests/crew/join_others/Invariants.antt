use Rattle.std.proofs.Common.{◌≡◌, ◌+◌, ◌<◌, ℕ, length, get_or}
use Rattle.turn_rows.specs.declared.rows.RowPass.{RowPass}
use Rattle.turn_rows.specs.declared.tests.tally.Tally.{Tally}
use Rattle.turn_rows.specs.Passes.{IsPassOf, IsAlone, HasLog, log_of, kept_of}
use Rattle.turn_rows.proofs.tests.crew.join_others.Given as goal

abbrev pub invariant-loop-other : goal.invariant-loop-other
invariant-loop-other l = IsPassOf l.rows l.first × (log_of l.first ≡ log_of l.initial.first) × (length l.others.items < (log_of l.first).made)
    × ((k : ℕ) (d : RowPass Tally) → k < length l.others.items → IsAlone l.rows (k + 1) (get_or l.others.items k d)) × ((q : ℕ) → length l.others.items < q → q < (log_of l.first).made → HasLog q (kept_of l.first))

abbrev pub decreases-loop-other : goal.decreases-loop-other
decreases-loop-other l = length l.others.items
