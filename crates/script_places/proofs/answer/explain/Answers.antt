use Rattle.script_places.proofs.Pointed.{pointed_cut}
use Rattle.script_places.proofs.Answered.{nowhere}
use Rattle.script_places.proofs.answer.explain.Goals as goal

pub position_of-requires-clause-within : goal.position_of-requires-clause-within
position_of-requires-clause-within c =
    (pointed_cut c.args.bytes.now c.in-Some.refusal c.in-Some-2.place (rw c.in-Some-2.is at c.in_ok-place.ensures)).within

pub position_of-requires-clause-text : goal.position_of-requires-clause-text
position_of-requires-clause-text c =
    (pointed_cut c.args.bytes.now c.in-Some.refusal c.in-Some-2.place (rw c.in-Some-2.is at c.in_ok-place.ensures)).front

pub returns-in_ok-shown_position-in-Some-2 : goal.returns-in_ok-shown_position-in-Some-2
returns-in_ok-shown_position-in-Some-2 c = record {
  refusal = c.in-Some.refusal;
  written = c.in-Some.ensures.0;
  place = c.in-Some-2.place;
  points = rw c.in-Some-2.is at c.in_ok-place.ensures;
  position = c.in_ok-position-in-Some-2.position;
  found = c.in_ok-position-in-Some-2.ensures;
  shows = c.in_ok-shown_position-in-Some-2.ensures;
}

pub returns-in-None : goal.returns-in-None
returns-in-None c =
    nowhere _ c.args.bytes.now c.in-Some.refusal c.in-Some.ensures.1 c.in-Some.ensures.0 (rw c.in-None.is at c.in_ok-place.ensures)
