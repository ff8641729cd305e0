-- Entries of a run: what one says, and when the values in it are proper.
use Rattle.std.specs.Prelude.{ℕ, List}
use Rattle.std.specs.List.{AllByRecursion}
use Rattle.dyn_value.specs.declared.entry.Entry.{Entry}
use Rattle.dyn_value.specs.declared.outcome.Outcome.{Outcome}
use Rattle.dyn_value.specs.declared.value.Value.{Value}
use Rattle.dyn_value.specs.Proper.{IsProperIn}
use Rattle.object_model.specs.Plain.{IsAnswerIn}
use Rattle.object_history.specs.declared.entry_head.EntryHead.{EntryHead}
use Rattle.object_history.specs.declared.tag.RowTag.{RowTag}

-- the entry of an operation with these operands after the object that answered this
abbrev pub entry_by : EntryHead → List Value → Outcome → Entry
entry_by head arguments o =
    record { pass = head.pass; task = head.task; binder = head.binder; operands = arguments; outcome = o }

-- its values are proper in a run of so many functions and objects
abbrev pub IsProperEntry : ℕ → ℕ → Entry → Type 0
IsProperEntry functions objects e =
    AllByRecursion (IsProperIn functions objects) e.operands × IsAnswerIn functions objects e.outcome

abbrev pub AreProperEntries : ℕ → ℕ → List Entry → Type 0
AreProperEntries functions objects es = AllByRecursion (IsProperEntry functions objects) es

-- their values are proper in a run of this tag
abbrev pub AreOfTag : RowTag → List Entry → Type 0
AreOfTag tag es = AreProperEntries tag.functions tag.limit es
