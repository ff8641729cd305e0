-- What answers a task: what it tells, and what it answered.
use Rattle.std.specs.Prelude.{◌≡◌, ℕ, ◌+◌, ◌≤◌, List, length}
use Rattle.command_words.specs.declared.words.Options.{Options}
use Rattle.task_walk.specs.Tales.{Asked, Tale}
use Rattle.dlr_engine.specs.declared.pass.Pass.{Pass}
use Rattle.dlr_engine.specs.declared.run.Run.{Run}
use Rattle.dlr_engine.specs.Levels.{total}
use Rattle.dlr_engine.specs.Passes.{levels_of, limit_in, number_of, plan_in, program_in, IsSamePass}
use Rattle.engine_tasks.specs.Lawful.{limit_of}
use Rattle.engine_tasks.specs.Passes.{tale_of}

-- what a pass of the run tells while it answers for this task, where it answered and drew so often
abbrev pub tale_in : Run → ℕ → ℕ → Pass → Tale
tale_in run task count p =
    tale_of (record { plan = plan_in run; pass = number_of p; task = task; limit = limit_in run }) count p

-- In this run, from this moment of the pass on, these operations were counted.
pub record HasAnswered (home : Run) (old : Pass) (run : Run) (new : Pass) (ops : List Asked) : Type 0 where
  pub run_is : run ≡ home
  pub same : IsSamePass old new
  pub counted : total (levels_of new) ≡ total (levels_of old) + length ops

-- The run has as many objects as the options allow, and no more than there may be.
pub record Serves (options : Options) (run : Run) : Type 0 where
  pub limit : limit_in run ≡ limit_of (program_in run) options
  pub few : limit_in run ≤ 4096
