use Rattle.std.proofs.Common.{◌≡◌}
use Rattle.turn_rows.specs.Passes.{IsPassOf, log_of}
use Rattle.turn_bench.proofs.counter.take_turns.Given as goal

abbrev pub invariant-loop-turn : goal.invariant-loop-turn
invariant-loop-turn g l = IsPassOf l.rows l.pass × ((log_of l.pass).calls ≡ l._turn) × (l.step.number ≡ (log_of l.pass).number)
