use Rattle.std.proofs.Common.{refl}
use Rattle.turn_rows.proofs.tests.meeting.meet_in_two_rows.Goals as goal

pub new-requires-clause-new : goal.new-requires-clause-new
new-requires-clause-new g c = λ k d l. let h = c.in_ok-new_tallies.ensures.new k d l in (h.0, h.1, refl)
