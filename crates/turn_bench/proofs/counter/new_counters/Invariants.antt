use Rattle.std.proofs.Common.{◌≡◌, ◌≤◌, All, length, vec_capacity}
use Rattle.turn_bench.proofs.counter.new_counters.Given as goal

abbrev pub invariant-loop-row : goal.invariant-loop-row
invariant-loop-row l = (length l.counters.items ≡ l._row) × (l.rows ≤ vec_capacity l.counters) × All (λ c. c.count ≡ 0) l.counters.items
