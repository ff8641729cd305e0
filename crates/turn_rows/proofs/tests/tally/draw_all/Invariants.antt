use Rattle.std.proofs.Common.{◌≡◌}
use Rattle.turn_rows.specs.Passes.{IsPassOf, log_of}
use Rattle.turn_rows.proofs.tests.tally.draw_all.Given as goal

abbrev pub invariant-loop-draw : goal.invariant-loop-draw
invariant-loop-draw l = IsPassOf l.rows l.drawer.pass × ((log_of l.drawer.pass).calls ≡ l._draw)
