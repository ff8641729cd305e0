-- Objects and their parts may cross threads.
use denote.Ref.{NamedLft}
use denote.Param.Send.{IsSend, IsSync, sendable}
use Rattle.std.proofs.Crossing.{crosses}
use Rattle.boxcar.proofs.slot.Written.TheSendSync as written
use Rattle.boxcar.proofs.slot.OnceSlot.TheSendSync as slot
use Rattle.boxcar.proofs.tag.Tag.TheSendSync as tag
use Rattle.dyn_value.specs.contracts.entry.Entry as Entry
use Rattle.dyn_value.specs.contracts.value.Value as Value
use Rattle.expando_class.specs.contracts.table.ClassTable as ClassTable
use Rattle.standard_binders.specs.contracts.binder.Binder as Binder
use Rattle.object_history.specs.contracts.object_row.ObjectRow as ObjectRow

pub value_send : IsSend Value.the_row
value_send = search (sendable, crosses) depth 80 fits 20000

pub value_sync : IsSync Value.the_row
value_sync = search (sendable, crosses) depth 80 fits 20000

pub entry_send : IsSend Entry.the_row
entry_send = search (value_send, sendable, crosses) depth 80 fits 20000

pub entry_sync : IsSync Entry.the_row
entry_sync = search (value_sync, sendable, crosses) depth 80 fits 20000

pub binder_sync : IsSync Binder.the_row
binder_sync = search (sendable, crosses) depth 80 fits 20000

pub row_send : (p : NamedLft) → IsSend (ObjectRow.the_row p)
row_send p = search (binder_sync, entry_send, value_send, written.the_send, sendable, crosses) depth 80 fits 20000

pub row_sync : (p : NamedLft) → IsSync (ObjectRow.the_row p)
row_sync p = search (binder_sync, entry_sync, value_sync, written.the_sync, sendable, crosses) depth 80 fits 20000

pub table_sync : IsSync ClassTable.the_row
table_sync = search (slot.the_sync, tag.the_sync, slot.the_send, sendable, crosses) depth 80 fits 20000
