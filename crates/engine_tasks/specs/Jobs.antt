-- The tasks of a run as jobs.
use Rattle.std.specs.Prelude.{◌≡◌, ℕ, ◌<◌, List, length, map, slice_index_or, IfOk, Result, Ok}
use Rattle.command_words.specs.declared.words.Options.{Options}
use Rattle.script_program.specs.Programs.{script_of}
use Rattle.dlr_engine.specs.declared.pass.Pass.{Pass}
use Rattle.dlr_engine.specs.declared.run.Run.{Run}
use Rattle.dlr_engine.specs.Passes.{number_of, program_in, IsNew, IsPassOf}
use Rattle.engine_tasks.specs.declared.beside.Finished.{Finished}
use Rattle.engine_tasks.specs.declared.report.TaskEnd.{TaskEnd}
use Rattle.engine_tasks.specs.TaskRuns.{Ran}
use Rattle.engine_tasks.specs.Worlds.{Serves}

-- the pass can run the task of its number: it is one of the run, and has done nothing
pub record CanRun (options : Options) (run : Run) (p : Pass) : Type 0 where
  pub serves : Serves options run
  pub own : IsPassOf run p
  pub new : IsNew p
  pub task : number_of p < length (script_of (program_in run)).tasks

-- the task of the pass's number ran in the pass
pub record HasRun (options : Options) (run : Run) (old : Pass) (f : Finished) : Type 0 where
  pub own : IsPassOf run f.pass
  pub number : number_of f.pass ≡ number_of old
  pub ran : Ran (program_in run) options (number_of old) (number_of old) f.end old f.pass

-- the same, where there was memory
abbrev pub MayHaveRun : {E : Type 0} → Options → Run → Pass → Result Finished E → Type 0
MayHaveRun options run old result = IfOk result (HasRun options run old)

-- the task of each pass ran, where there was memory
pub record HaveRun {E : Type 0} (options : Options) (run : Run) (olds : List Pass) (all : List (Result Finished E))
    : Type 0 where
  pub count : length all ≡ length olds
  pub each : (k : ℕ) (d : Pass) (e : Result Finished E) → k < length olds
      → MayHaveRun options run (slice_index_or olds k d) (slice_index_or all k e)

-- the parts of what a task came to
abbrev pub end_in : Finished → TaskEnd
end_in f = f.end

abbrev pub pass_in : Finished → Pass
pass_in f = f.pass

-- these are the ends and the passes of all, each of which is there
pub record AreEnds {E : Type 0} (all : List (Result Finished E)) (ends : List TaskEnd) (ps : List Pass)
    : Type 0 where
  pub finished : List Finished
  pub each : all ≡ map Ok finished
  pub ends_are : ends ≡ map end_in finished
  pub passes_are : ps ≡ map pass_in finished
