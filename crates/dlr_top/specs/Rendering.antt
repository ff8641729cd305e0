-- What is written, in characters.
use Rattle.std.specs.Prelude.{◌≡◌, ℕ, ◌+◌, min, Bool, true, false, List, [], ◌∷◌, ◌++◌, length, slice_get, Option, None, Some, codes, encode_utf8_all}
use Rattle.std.specs.Fmt.{decimal}
use Rattle.std.specs.Global.{Vec}
use Rattle.std.specs.List.{flat_map, range_with_len}
use Rattle.dyn_value.specs.declared.entry.Entry.{Entry}
use Rattle.dyn_value.specs.declared.outcome.Outcome.{Outcome}
use Rattle.dyn_value.specs.declared.outcome.Outcome.TheVariants as outcome
use Rattle.dyn_value.specs.declared.value.Value.{Value}
use Rattle.dyn_value.specs.Texts.{fault_text, quoted, quoted_text}
use Rattle.standard_binders.specs.declared.binder.Binder.{Binder}
use Rattle.standard_binders.specs.Binders.{binder_text}
use Rattle.object_model.specs.Journals.{members_after}
use Rattle.object_model.specs.Members.{Member, Members}
use Rattle.task_walk.specs.declared.ended.Ended.{Ended}
use Rattle.task_walk.specs.declared.ended.Ended.TheVariants.{Done, Faulted}
use Rattle.script_program.specs.declared.program.Program.{Program}
use Rattle.script_grammar.specs.declared.tree.Task.{Task}
use Rattle.script_program.specs.Programs.{script_of, binders_of}
use Rattle.dlr_engine.specs.Closing.{journals_in}
use Rattle.engine_tasks.specs.declared.report.TaskEnd.{TaskEnd}
use Rattle.engine_tasks.specs.declared.report.Report.{Report}
use Rattle.engine_tasks.specs.Lawful.{all_drawn, journal_at}
use Rattle.command_words.specs.declared.words.Options.{Options}

-- the text stands behind what was there, in UTF-8
abbrev pub AddsText : Vec ℕ → Vec ℕ → List ℕ → Type 0
AddsText old new text = new.items ≡ old.items ++ encode_utf8_all text

abbrev pub usage_text : List ℕ
usage_text =
    codes "usage: dlr run [--serial] [--journal] [--stats] [--rules] [--turns N] [--objects N] | check | drill SEED\n"

-- a printed line of a task
abbrev pub line_text : List ℕ → List ℕ → List ℕ
line_text name line = name ++ codes ": " ++ line ++ 10 ∷ []

-- the line of a fault that ended a task
abbrev pub ended_text : List ℕ → Ended → List ℕ
ended_text name Done = []
ended_text name (Faulted f) = name ++ codes "! " ++ fault_text f ++ 10 ∷ []

abbrev pub task_text : Task → TaskEnd → List ℕ
task_text task end = flat_map (line_text task.name) end.lines ++ ended_text task.name end.ended

-- for each task its lines, and its fault where it ended by one
abbrev pub tasks_text : List Task → List TaskEnd → List ℕ
tasks_text (task ∷ tasks) (end ∷ ends) = task_text task end ++ tasks_text tasks ends
tasks_text _ _ = []

-- the name of the task of this number
abbrev pub name_of : Option Task → List ℕ
name_of None = []
name_of (Some t) = t.name

-- the text of the binder of this number
abbrev pub text_of : Option Binder → List ℕ
text_of None = []
text_of (Some b) = binder_text b

abbrev pub operand_text : Value → List ℕ
operand_text v = codes " " ++ quoted v

-- No entry has another outcome than a value or a fault.
abbrev pub outcome_text : Outcome → List ℕ
outcome_text (outcome.Value v) = quoted v
outcome_text (outcome.Fault f) = codes "! " ++ fault_text f
outcome_text _ = []

-- the line of an entry: its task, its binder, its operands and its outcome
abbrev pub entry_text : Program → Entry → List ℕ
entry_text program e =
    codes "  " ++ name_of (slice_get (script_of program).tasks e.task)
    ++ codes " " ++ text_of (slice_get (binders_of program) e.binder)
    ++ flat_map operand_text e.operands ++ codes " -> " ++ outcome_text e.outcome ++ codes "\n"

abbrev pub member_text : Member → List ℕ
member_text m = codes " " ++ quoted_text m.name ++ codes " " ++ quoted m.value

-- the members, with a comma after all but the last
abbrev pub members_text : Members → List ℕ
members_text [] = []
members_text (m ∷ []) = member_text m
members_text (m ∷ n ∷ ms) = member_text m ++ codes "," ++ members_text (n ∷ ms)

-- an object's journal, and the members after it
abbrev pub object_text : Program → Report → ℕ → List ℕ
object_text program report object =
    codes "object " ++ decimal object ++ codes "\n" ++ flat_map (entry_text program) (journal_at report object)
    ++ codes "  members" ++ members_text (members_after (binders_of program) [] (journal_at report object))
    ++ codes "\n"

-- how many objects were shared or made; the report has a journal for each that there may be
abbrev pub object_count : Program → Report → ℕ
object_count program report =
    min (length (journals_in report.closed)) (length (script_of program).shared + length (all_drawn report))

-- the journals of the objects that were shared or made, in the order of their numbers
abbrev pub journals_text : Program → Report → List ℕ
journals_text program report = flat_map (object_text program report) (range_with_len 0 (object_count program report))

abbrev pub journals_if : Bool → Program → Report → List ℕ
journals_if true program report = journals_text program report
journals_if false program report = []

-- the lines and faults of the report's tasks
abbrev pub lines_text : Program → Report → List ℕ
lines_text program report = tasks_text (script_of program).tasks report.tasks

-- the tasks' lines, and the journals where they were asked for
abbrev pub report_text : Program → Options → Report → List ℕ
report_text program options report = lines_text program report ++ journals_if options.journal program report
