use Rattle.std.proofs.Common.{◌≡◌}
use Rattle.turn_rows.specs.Passes.{IsPassOf, IsSamePass, log_of}
use Rattle.turn_rows.proofs.tests.crew.take_turns.Given as goal

abbrev pub invariant-loop-turn : goal.invariant-loop-turn
invariant-loop-turn g l = IsPassOf l.rows l.pass × ((log_of l.pass).calls ≡ l._turn) × IsSamePass l.initial.pass l.pass × (l.step.number ≡ (log_of l.initial.pass).number)
