-- What a task of a program does.
use Rattle.std.specs.Prelude.{◌≡◌, ℕ, ◌<◌, ◌≤◌, List, length, Some}
use Rattle.script_program.specs.declared.program.Program.{Program}
use Rattle.script_program.specs.Plans.{plan_of}
use Rattle.script_program.specs.Programs.{script_of}
use Rattle.task_compile.specs.Runs.{task_act}
use Rattle.task_walk.specs.Deeds.{Deeds, deeds_of, ended_of}
use Rattle.task_run.specs.Stores.{IsUsedUp, Left, Lines, Run, left_objects, run_over}
use Rattle.task_walk.specs.declared.ended.Ended.{Ended}
use Rattle.task_walk.specs.Tales.{Asked, Teller}

-- The world answers for this task of the program. There may be as many objects as are shared, or more.
pub record IsTaskOf (program : Program) (number : ℕ) (by : Teller) : Type 0 where
  pub there : number < length (script_of program).tasks
  pub plan : by.plan ≡ plan_of program
  pub task : by.task ≡ number
  pub shared : length (script_of program).shared ≤ by.limit
  pub limit : by.limit ≤ 4096

-- what the task does with so many turns, where there may be so many objects
abbrev pub acts_of : Program → ℕ → ℕ → ℕ → Deeds
acts_of program task turns limit = deeds_of (task_act (script_of program) task turns limit)

-- the run of the task over what is left of each object's entries and of the numbers
abbrev pub run_of : Program → ℕ → ℕ → ℕ → Left → Run Left (Unit {0}) (Unit {0})
run_of program task turns limit left = run_over left_objects (plan_of program) (acts_of program task turns limit) left

-- the operations that it asks
abbrev pub operations_of : Program → ℕ → ℕ → ℕ → Left → List Asked
operations_of program task turns limit left = (run_of program task turns limit left).asked

-- Over these entries and numbers the task prints these lines and ends so, and uses them all up.
pub record IsRun (program : Program) (task turns limit : ℕ) (left : Left) (printed : Lines) (end : Ended) : Type 0 where
  pub lines : (run_of program task turns limit left).lines ≡ printed
  pub ended : ended_of (run_of program task turns limit left).came ≡ Some end
  pub used_up : IsUsedUp (run_of program task turns limit left).store
