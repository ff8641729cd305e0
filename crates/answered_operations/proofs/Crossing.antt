-- A list of answered operations may cross threads.
use denote.Param.Send.{IsSend, sendable}
use denote.Param.SendFields.{declared_send}
use Rattle.std.proofs.Crossing.{crosses}
use Rattle.atomic_table.proofs.shared.Seat.TheSendSync as seat
use Rattle.atomic_table.proofs.shared.Shared.TheSendSync as shared
use Rattle.atomic_table.proofs.send_lease.SendLease.TheSendSync as lease
use Rattle.answered_operations.specs.contracts.answered.Answered as Answered
use Rattle.answered_operations.specs.contracts.said.Said as Said

said_send : IsSend Said.the_row
said_send = search (sendable, crosses) depth 40

pub answered_send : IsSend Answered.the_row
answered_send = declared_send Answered.the_type (
  search (said_send, shared.the_send, lease.the_send, sendable, crosses) depth 80 fits 20000,
  (search (said_send, seat.the_send, sendable) depth 40, tt),
)
