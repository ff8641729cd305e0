-- What a shift has may go to another thread.
use denote.Param.Send.{IsSend, IsSync, sendable}
use denote.Param.SendFields.{as_row_send, declared_send}
use denote.RattleType.{RattleType}
use denote.Ref.{NamedLft}
use Rattle.std.proofs.Crossing as heap
use Rattle.dlr_engine.specs.contracts.tests.workers.Shift as Shift
use Rattle.dlr_engine.proofs.Crossing.{engine_sync, pass_send, script_sync}
use Rattle.dlr_engine.proofs.tests.workers.work_beside.Goals as goal

shift_send : (e p : NamedLft) (R : RattleType) → IsSync R → IsSend (Shift.the_row e p R)
shift_send e p R s = declared_send (Shift.the_type e p R) (
  search (s, sendable) depth 20,
  (heap.send, (search (engine_sync, script_sync, as_row_send, sendable) depth 20, (pass_send p, tt))),
)

pub join-requires-send-F : goal.join-requires-send-F
join-requires-send-F g c κs within = search (c.type_bounds.sync-R, shift_send, sendable) depth 20

pub join-requires-send-A : goal.join-requires-send-A
join-requires-send-A g c κs within = search (pass_send, sendable) depth 20
