use Rattle.std.proofs.Common.{◌≡◌, ◌+◌, ◌<◌, ◌≤◌, ℕ, All, length, get_or, vec_capacity}
use Rattle.turn_rows.specs.declared.rows.RowPass.{RowPass}
use Rattle.turn_rows.specs.declared.tests.tally.Tally.{Tally}
use Rattle.turn_rows.specs.Passes.{IsPassOf, IsAlone, log_of}
use Rattle.turn_rows.proofs.tests.crew.split_others.Given as goal

abbrev pub invariant-loop-other : goal.invariant-loop-other
invariant-loop-other l = IsAlone l.rows 0 l.first × ((log_of l.first).calls ≡ 0) × ((log_of l.first).made ≡ l._other + 1) × (length l.others.items ≡ l._other) × (l.count ≤ vec_capacity l.others)
    × All (λ p. IsPassOf l.rows p × ((log_of p).calls ≡ 0)) l.others.items × ((k : ℕ) (d : RowPass Tally) → k < length l.others.items → IsAlone l.rows (k + 1) (get_or l.others.items k d))
