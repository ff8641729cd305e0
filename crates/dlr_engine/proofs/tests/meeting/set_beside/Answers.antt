-- What a setter has may go to another thread.
use denote.Param.Send.{IsSend, IsSync, sendable}
use denote.Param.SendFields.{as_row_send, declared_send, declared_sync}
use denote.RattleType.{RattleType}
use denote.Ref.{NamedLft}
use Rattle.std.proofs.Crossing as heap
use Rattle.std.proofs.Crossing.{crosses}
use Rattle.dlr_engine.specs.contracts.tests.meeting.Setter as Setter
use Rattle.dlr_engine.specs.contracts.tests.meeting_language.MeetingLanguage as MeetingLanguage
use Rattle.dlr_engine.proofs.Crossing.{engine_sync, pass_send, script_sync}
use Rattle.dlr_engine.proofs.tests.meeting.set_beside.Goals as goal

language_sync : (m : NamedLft) → IsSync (MeetingLanguage.the_row m)
language_sync m = declared_sync (MeetingLanguage.the_type m) (
  script_sync,
  (search (sendable, crosses) depth 60 fits 20000, tt),
)

setter_send : (e p m : NamedLft) (R : RattleType) → IsSync R → IsSend (Setter.the_row e p m R)
setter_send e p m R s = declared_send (Setter.the_type e p m R) (
  search (s, sendable) depth 20,
  (heap.send, (search (engine_sync, language_sync, as_row_send, sendable) depth 20, (pass_send p, (search (sendable) depth 20, (search (sendable) depth 20, tt))))),
)

pub join-requires-send-F : goal.join-requires-send-F
join-requires-send-F g c κs within = search (c.type_bounds.sync-R, setter_send, sendable) depth 20

pub join-requires-send-A : goal.join-requires-send-A
join-requires-send-A g c κs within = search (sendable) depth 20
