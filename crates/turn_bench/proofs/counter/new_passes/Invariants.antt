use Rattle.std.proofs.Common.{◌≡◌, ◌+◌, ◌≤◌, All, length, vec_capacity}
use Rattle.turn_rows.specs.Passes.{IsPassOf, log_of}
use Rattle.turn_bench.proofs.counter.new_passes.Given as goal

abbrev pub invariant-loop-made : goal.invariant-loop-made
invariant-loop-made l = IsPassOf l.rows l.first × ((log_of l.first).number ≡ 0) × ((log_of l.first).made ≡ l._made) × ((log_of l.first).calls ≡ 0) × (length l.passes.items + 1 ≡ l._made) × (l.count ≤ vec_capacity l.passes)
    × All (λ p. IsPassOf l.rows p × ((log_of p).calls ≡ 0)) l.passes.items
