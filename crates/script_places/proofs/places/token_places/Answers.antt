use Rattle.script_places.proofs.places.token_places.Goals as goal

pub returns-in-Err-Refused : goal.returns-in-Err-Refused
returns-in-Err-Refused c =
    λ places has. (rw c.in-Err-Refused.field-0-is at c.in-Err-Refused.ensures.refused).1 has.tokens places has.text has.begin
