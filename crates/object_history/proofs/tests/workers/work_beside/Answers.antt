-- What a shift has may go to another thread.
use denote.Param.Send.{IsSend, IsSync, recorded_send, sendable, struct_send}
use denote.RattleType.{RattleType}
use denote.Ref.{NamedLft}
use denote.Struct.Declared.{shape}
use Rattle.std.proofs.Crossing as heap
use Rattle.std.proofs.Crossing.{crosses}
use Rattle.atomic_table.proofs.shared.Seat.TheSendSync as seat
use Rattle.atomic_table.proofs.shared.Shared.TheSendSync as shared
use Rattle.atomic_table.proofs.send_lease.SendLease.TheSendSync as lease
use Rattle.object_history.specs.contracts.tests.workers.Shift as Shift
use Rattle.object_history.proofs.Crossing.{binder_sync, row_send, row_sync, table_sync}
use Rattle.object_history.proofs.tests.workers.work_beside.Goals as goal

shift_send : (a p : NamedLft) (R : RattleType) → IsSync R → IsSend (Shift.the_row a p R)
shift_send a p R s = recorded_send _ _ _ (Shift.the_type a p R).to_one (struct_send (shape (Shift.the_type a p R)) (
  search (s, sendable) depth 20,
  (
    search sendable depth 20,
    (
      search (table_sync, sendable) depth 20,
      (
        search (binder_sync, sendable) depth 20,
        (
          search (row_send, row_sync, shared.the_sync, lease.the_sync, heap.send, heap.sync, sendable, crosses) depth 80 fits 20000,
          (search (row_send, seat.the_send, sendable, crosses) depth 80 fits 20000, tt),
        ),
      ),
    ),
  ),
))

pub join-requires-send-F : goal.join-requires-send-F
join-requires-send-F g c κs within = search (c.type_bounds.sync-R, shift_send, sendable) depth 20

pub join-requires-send-A : goal.join-requires-send-A
join-requires-send-A g c κs within = search (row_send, seat.the_send, sendable, crosses) depth 80 fits 20000
