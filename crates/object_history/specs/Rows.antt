-- Objects of a run with their journals.
use Rattle.std.specs.Prelude.{◌≡◌, ◌<◌, ℕ, List, [], vec_len, vec_capacity}
use Rattle.dyn_value.specs.declared.entry.Entry.{Entry}
use Rattle.expando_class.specs.declared.table.ClassTable.{ClassTable}
use Rattle.expando_object.specs.declared.state.ObjState.{ObjState}
use Rattle.expando_object.specs.State.{class_in}
use Rattle.object_model.specs.Journals.{members_after}
use Rattle.object_model.specs.Members.{Members}
use Rattle.tree_eval.specs.States.{state_of}
use Rattle.object_history.specs.declared.object_row.ObjectRow.{ObjectRow}
use Rattle.object_history.specs.declared.tag.RowTag.{RowTag}

-- what does not change of the object
abbrev pub tag_of : ObjectRow → RowTag
tag_of row = row.tag

-- the table of its classes
abbrev pub table_of : ObjectRow → ClassTable
table_of row = row.table.value

abbrev pub state_in : ObjectRow → ObjState
state_in row = row.state

abbrev pub journal_of : ObjectRow → List Entry
journal_of row = row.journal.items

-- how many turns it had without an entry
abbrev pub idles_of : ObjectRow → ℕ
idles_of row = row.idles

-- the members after its journal
abbrev pub members_in : ObjectRow → Members
members_in row = members_after (tag_of row).binders.now [] (journal_of row)

-- there is room for one more entry
abbrev pub HasRoom : ObjectRow → Type 0
HasRoom row = vec_len row.journal < vec_capacity row.journal

-- at most the room of the object and its journal differs
pub record IsUntouched (old new : ObjectRow) : Type 0 where
  pub tag : tag_of new ≡ tag_of old
  pub table : table_of new ≡ table_of old
  pub class : class_in (state_in new) ≡ class_in (state_in old)
  pub state : state_of (state_in new) ≡ state_of (state_in old)
  pub journal : journal_of new ≡ journal_of old
  pub idles : idles_of new ≡ idles_of old
