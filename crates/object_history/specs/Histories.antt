-- What turns on rows see of an object.
use Rattle.std.specs.Prelude.{ℕ, ◌+◌, length}
use Rattle.dyn_value.specs.declared.entry.Entry.{Entry}
use Rattle.expando_class.specs.declared.table.ClassTable.{ClassTable}
use Rattle.expando_class.specs.Class.{number_of}
use Rattle.expando_object.specs.State.{class_in}
use Rattle.object_history.specs.declared.object_row.ObjectRow.{ObjectRow}
use Rattle.object_history.specs.declared.tag.RowTag.{RowTag}
use Rattle.object_history.specs.declared.tag.Tag.{Tag}
use Rattle.object_history.specs.Rows.{idles_of, journal_of, state_in, table_of, tag_of}

-- the pass that made an entry
abbrev pub by_of : Entry → ℕ
by_of e = e.pass

-- each turn leaves an entry, or is counted as one without
abbrev pub turns_of : ObjectRow → ℕ
turns_of row = length (journal_of row) + idles_of row

-- a tag with the table of the classes
abbrev pub tag_with : RowTag → ClassTable → Tag
tag_with tag table =
    record { binders = tag.binders.now; functions = tag.functions; limit = tag.limit; table = table }

abbrev pub whole_tag_of : ObjectRow → Tag
whole_tag_of row = tag_with (tag_of row) (table_of row)

-- the number of the object's class
abbrev pub mark_of : ObjectRow → ℕ
mark_of row = number_of (class_in (state_in row))
