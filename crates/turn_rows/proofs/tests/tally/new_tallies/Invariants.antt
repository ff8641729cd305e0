use Rattle.std.proofs.Common.{◌≡◌, ◌≤◌, All, length, [], vec_capacity}
use Rattle.turn_rows.proofs.tests.tally.new_tallies.Given as goal

abbrev pub invariant-loop-row : goal.invariant-loop-row
invariant-loop-row l = (length l.tallies.items ≡ l._row) × (l.rows ≤ vec_capacity l.tallies) × All (λ y. (y.signed.items ≡ []) × (y.count ≡ 0)) l.tallies.items
