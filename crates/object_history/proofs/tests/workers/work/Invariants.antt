use Rattle.std.proofs.Common.{◌≡◌}
use Rattle.turn_rows.specs.Passes.{IsPassOf, IsSamePass, log_of, tag_state}
use Rattle.object_history.specs.Histories.{tag_with, whole_tag_of}
use Rattle.object_history.proofs.tests.workers.work.Given as goal

abbrev pub invariant-loop-turn : goal.invariant-loop-turn
invariant-loop-turn g l = IsPassOf l.rows l.pass × ((log_of l.pass).calls ≡ l._turn) × IsSamePass l.initial.pass l.pass
    × (l.worker.number ≡ (log_of l.initial.pass).number) × (tag_with l.worker.tag l.worker.table.now ≡ whole_tag_of (tag_state l.rows))
