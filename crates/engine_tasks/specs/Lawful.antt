-- When a report is lawful.
use Rattle.std.specs.Prelude.{◌≡◌, ℕ, ◌+◌, ◌<◌, nat_eq, Bool, if◌then◌else◌, List, [], ◌∷◌, length}
use Rattle.std.specs.Prelude.{get_or, slice_get, Some}
use Rattle.std.specs.List.{AllByRecursion, filter, flat_map, range_with_len}
use Rattle.std.specs.List.Sorted.{IsPermutation, IsStrictlyIncreasing}
use Rattle.dyn_value.specs.declared.entry.Entry.{Entry}
use Rattle.object_model.specs.Journals.{IsLegal}
use Rattle.command_words.specs.declared.words.Options.{Options}
use Rattle.script_program.specs.declared.program.Program.{Program}
use Rattle.script_program.specs.Plans.{plan_of}
use Rattle.script_program.specs.Programs.{script_of, binders_of}
use Rattle.task_walk.specs.Deeds.{ended_of}
use Rattle.task_walk.specs.Tales.{Teller}
use Rattle.task_run.specs.Stores.{Left, Journals, Run, journal_objects, run_over}
use Rattle.program_run.specs.TaskRuns.{IsRun, acts_of, operations_of}
use Rattle.dlr_engine.specs.Closing.{journals_in, levels_in}
use Rattle.dlr_engine.specs.Levels.{total}
use Rattle.engine_tasks.specs.declared.report.TaskEnd.{TaskEnd}
use Rattle.engine_tasks.specs.declared.report.Report.{Report}

-- how many objects there may be: the shared ones, and so many that are made
abbrev pub limit_of : Program → Options → ℕ
limit_of program options = length (script_of program).shared + options.objects

-- for whom a pass answers: a task of the program, with the options' limit
abbrev pub teller_of : Program → Options → ℕ → ℕ → Teller
teller_of program options pass task =
    record { plan = plan_of program; pass = pass; task = task; limit = limit_of program options }

-- the pass of a task: the one pass where tasks run one after the other, and else its own
abbrev pub pass_of : Options → ℕ → ℕ
pass_of options task = if options.serial then 0 else task

-- the journal of the object of this number
abbrev pub journal_at : Report → ℕ → List Entry
journal_at report object = get_or (journals_in report.closed) object []

-- whether the entry is of this task
abbrev pub is_of_task : ℕ → Entry → Bool
is_of_task task e = nat_eq e.task task

-- a task's entries in every journal, in order, and the numbers that it drew
abbrev pub left_of : (ℕ → List Entry) → ℕ → List ℕ → Left
left_of journals task drawn = record { entries = λ object. filter (is_of_task task) (journals object); drawn = drawn }

-- Over the task's entries in every journal, in order, and the numbers that it drew, its code prints these lines and
-- ends so, and uses them all up.
abbrev pub Ends : Program → Options → (ℕ → List Entry) → ℕ → TaskEnd → Type 0
Ends program options journals task end =
    IsRun program task options.turns (limit_of program options) (left_of journals task end.drawn) end.lines end.ended

-- the entry is of a task of the script, in that task's pass
abbrev pub IsOwned : Program → Options → Entry → Type 0
IsOwned program options e = (e.task < length (script_of program).tasks) × (e.pass ≡ pass_of options e.task)

-- the numbers that a task drew
abbrev pub drawn_by : TaskEnd → List ℕ
drawn_by end = end.drawn

-- all numbers that were drawn
abbrev pub all_drawn : Report → List ℕ
all_drawn report = flat_map drawn_by report.tasks

-- each object's journal is legal
abbrev pub AreLegal : Program → Report → Type 0
AreLegal program report = (object : ℕ) → IsLegal (binders_of program) [] (journal_at report object)

-- how many operations the tasks from this number on ask, which came to these ends
abbrev pub asked_from : Program → Options → (ℕ → List Entry) → ℕ → List TaskEnd → ℕ
asked_from program options journals task [] = 0
asked_from program options journals task (end ∷ ends) =
    length (operations_of program task options.turns (limit_of program options) (left_of journals task end.drawn))
    + asked_from program options journals (task + 1) ends

-- One legal journal for each object, made or not; one end for each task, which its code has over the journals;
-- entries of these tasks alone, each in its task's pass; the numbers drawn are those after the shared objects, each
-- once, and each task's rise; and as many operations were answered, on all levels, as the tasks ask.
pub record IsLawful (program : Program) (options : Options) (report : Report) : Type 0 where
  pub count : length report.tasks ≡ length (script_of program).tasks
  pub each_object : length (journals_in report.closed) ≡ limit_of program options
  pub legal : AreLegal program report
  pub ends : (task : ℕ) (end : TaskEnd) → slice_get report.tasks task ≡ Some end
      → Ends program options (journal_at report) task end
  pub owned : (object : ℕ) → AllByRecursion (IsOwned program options) (journal_at report object)
  pub numbers : IsPermutation (all_drawn report)
      (range_with_len (length (script_of program).shared) (length (all_drawn report)))
  pub rising : (task : ℕ) (end : TaskEnd) → slice_get report.tasks task ≡ Some end → IsStrictlyIncreasing end.drawn
  pub counted : total (levels_in report.closed) ≡ asked_from program options (journal_at report) 0 report.tasks

-- the run of a task over a store of journals, in the one pass
abbrev pub journal_run : Program → Options → ℕ → Journals → Run Journals (Unit {0}) (Unit {0})
journal_run program options task store =
    run_over (journal_objects (teller_of program options 0 task)) (plan_of program)
    (acts_of program task options.turns (limit_of program options)) store

-- The tasks from this number on have these ends, one after the other over one store of journals, and leave it so.
-- Each draws the numbers that are next.
abbrev pub AreSerial : Program → Options → ℕ → List TaskEnd → Journals → Journals → Type 0
AreSerial program options task [] store final = store ≡ final
AreSerial program options task (end ∷ ends) store final =
    let run = journal_run program options task store in
    (run.lines ≡ end.lines) × (ended_of run.came ≡ Some end.ended)
    × (end.drawn ≡ range_with_len store.next (length end.drawn)) × (run.store.next ≡ store.next + length end.drawn)
    × AreSerial program options (task + 1) ends run.store final

-- the store that a run begins with
abbrev pub none_yet : Program → Journals
none_yet program = record { entries = λ object. []; next = length (script_of program).shared }

-- the store that a run leaves, whose report this is
abbrev pub store_after : Program → Report → Journals
store_after program report =
    record { entries = journal_at report; next = length (script_of program).shared + length (all_drawn report) }

-- The tasks run one after the other, in script order, over journals that begin empty. So the report is a function
-- of the script and the options.
abbrev pub IsSerial : Program → Options → Report → Type 0
IsSerial program options report =
    AreSerial program options 0 report.tasks (none_yet program) (store_after program report)
