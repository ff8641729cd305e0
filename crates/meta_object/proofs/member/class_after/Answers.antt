-- The class with the name, where one is written that is nowhere.
use Rattle.meta_object.proofs.member.class_after.Goals as goal

pub returns-in_ok-next-in-Writes-None-clause-next : goal.returns-in_ok-next-in-Writes-None-clause-next
returns-in_ok-next-in-Writes-None-clause-next g c =
    rw (c.in-Writes-None.is-0, c.in-Writes-None.is-1) (c.in_ok-next-in-Writes-None.ensures.next c.in-Writes-None.field-0-0)
