-- What the run of one task adds to what a pass tells, and what the runs of all come to.
use Rattle.std.specs.Prelude.{◌≡◌, ℕ, ◌+◌, ◌<◌, List, [], drop, length, map, slice_get, slice_index_or, Some}
use Rattle.std.specs.List.{AllByRecursion, flat_map, range_with_len}
use Rattle.std.specs.List.Sorted.{IsStrictlyIncreasing}
use Rattle.dyn_value.specs.declared.entry.Entry.{Entry}
use Rattle.object_model.specs.Journals.{IsLegal}
use Rattle.command_words.specs.declared.words.Options.{Options}
use Rattle.script_program.specs.declared.program.Program.{Program}
use Rattle.script_program.specs.Programs.{binders_of, script_of}
use Rattle.task_walk.specs.Tales.{Teller}
use Rattle.task_run.specs.Events.{gained}
use Rattle.task_run.specs.Stores.{Begins, IsToldBy, Journals, Left}
use Rattle.program_run.specs.TaskRuns.{IsRun, operations_of}
use Rattle.dlr_engine.specs.declared.closed.Closed.{Closed}
use Rattle.dlr_engine.specs.declared.pass.Pass.{Pass}
use Rattle.dlr_engine.specs.Closing.{AreDrawn, IsClosedRow, journals_in, levels_in}
use Rattle.dlr_engine.specs.Levels.{all_levels, total}
use Rattle.dlr_engine.specs.Passes.{IsNew, levels_of, numbers_of}
use Rattle.engine_tasks.specs.declared.report.TaskEnd.{TaskEnd}
use Rattle.engine_tasks.specs.Lawful.{AreSerial, Ends, asked_from, drawn_by, limit_of, none_yet, teller_of}
use Rattle.engine_tasks.specs.Passes.{made_below, tale_of}

-- the entries and numbers that a pass gained from one moment to another
abbrev pub gained_by : Teller → Pass → Pass → Left
gained_by by old new = gained (tale_of by 0 old) (tale_of by 0 new)

-- Over the entries and numbers that the pass gained, the task's code prints these lines and ends so, and uses them all
-- up. The entries are the task's own, in this pass, and as many operations were counted as the code asks.
pub record Ran (program : Program) (options : Options) (pass task : ℕ) (end : TaskEnd) (old new : Pass) : Type 0 where
  pub run : IsRun program task options.turns (limit_of program options)
      (gained_by (teller_of program options pass task) old new) end.lines end.ended
  pub entries : (object : ℕ)
      → Begins (made_below (limit_of program options) old object) (made_below (limit_of program options) new object)
  pub told : (object : ℕ) → AllByRecursion (IsToldBy (teller_of program options pass task))
      ((gained_by (teller_of program options pass task) old new).entries object)
  pub drawn : Begins (numbers_of old) (numbers_of new)
  pub numbers : end.drawn ≡ drop (length (numbers_of old)) (numbers_of new)
  pub counted : total (levels_of new) ≡ total (levels_of old) + length (operations_of program task options.turns
      (limit_of program options) (gained_by (teller_of program options pass task) old new))

-- in a new pass with the task's own number, the task ran to this end, and left the pass so
pub record RanAlone (program : Program) (options : Options) (task : ℕ) (end : TaskEnd) (p : Pass) : Type 0 where
  pub begun : Pass
  pub is_new : IsNew begun
  pub ran : Ran program options task task end begun p

-- The first tasks each ran alone: their ends and passes stand in the order of the tasks.
pub record AreBeside (program : Program) (options : Options) (ends : List TaskEnd) (ps : List Pass) : Type 0 where
  pub count : length ends ≡ length ps
  pub ran : (k : ℕ) (e : TaskEnd) (d : Pass) → k < length ps
      → RanAlone program options k (slice_index_or ends k e) (slice_index_or ps k d)

-- the entry is of a task before this one, in the one pass
abbrev pub IsEarly : ℕ → Entry → Type 0
IsEarly task e = (e.task < task) × (e.pass ≡ 0)

-- the store of what a pass made and drew
abbrev pub store_of : Program → Options → Pass → Journals
store_of program options p = record {
  entries = made_below (limit_of program options) p;
  next = length (script_of program).shared + length (numbers_of p);
}

-- The first so many tasks ran one after the other to these ends, in the one pass, and left it so.
pub record AreRun (program : Program) (options : Options) (task : ℕ) (ends : List TaskEnd) (p : Pass) : Type 0 where
  pub count : length ends ≡ task
  pub ends_are : (t : ℕ) (end : TaskEnd) → slice_get ends t ≡ Some end
      → Ends program options (made_below (limit_of program options) p) t end
  pub early : (object : ℕ) → AllByRecursion (IsEarly task) (made_below (limit_of program options) p object)
  pub numbers : flat_map drawn_by ends ≡ numbers_of p
  pub rising : (t : ℕ) (end : TaskEnd) → slice_get ends t ≡ Some end → IsStrictlyIncreasing end.drawn
  pub serial : AreSerial program options 0 ends (none_yet program) (store_of program options p)
  pub counted : total (levels_of p) ≡ asked_from program options (made_below (limit_of program options) p) 0 ends

-- what the pass made of each object's entries is legal
abbrev pub IsLegalPass : Program → Options → Pass → Type 0
IsLegalPass program options p =
    (object : ℕ) → IsLegal (binders_of program) [] (made_below (limit_of program options) p object)

-- The same where what the pass made is legal, as it turns out to be at the end.
abbrev pub AreRunIn : Program → Options → ℕ → List TaskEnd → Pass → Type 0
AreRunIn program options task ends p = IsLegalPass program options p → AreRun program options task ends p

-- the numbers that the pass drew are those after the shared objects, one after the other
abbrev pub HasPlainNumbers : Program → Pass → Type 0
HasPlainNumbers program p =
    numbers_of p ≡ range_with_len (length (script_of program).shared) (length (numbers_of p))

-- What the engine says, for the program and with the options' limit, of what it closed with after these passes.
pub record HasClosed (program : Program) (options : Options) (ps : List Pass) (closed : Closed) : Type 0 where
  pub count : length (journals_in closed) ≡ limit_of program options
  pub rows : (row : ℕ) → row < limit_of program options
      → IsClosedRow (binders_of program) ps row (journals_in closed)
  pub numbers : AreDrawn (length (script_of program).shared) ps
  pub levels : levels_in closed ≡ all_levels (map levels_of ps)
