-- What the walk over the code of a task did is the run of the task.
use Rattle.std.proofs.Common.{◌≡◌, ℕ, List, [], drop, length, Result, Ok, Err, IfOk, OnErr, OnOk, Some, refl, sym, ap, ◌∙◌, subst}
use Rattle.script_program.specs.declared.program.Program.{Program}
use Rattle.script_program.specs.Plans.{plan_of}
use Rattle.script_program.specs.Programs.{script_of}
use Rattle.task_code.specs.declared.code.Steps.{Steps}
use Rattle.task_code.specs.Acts.{Ending, Gives, Fails}
use Rattle.task_code.specs.Codes.{Plan, task_code_act}
use Rattle.task_compile.specs.Agreements.{cut, state_of}
use Rattle.task_compile.specs.CompiledScripts.{DoesTask}
use Rattle.task_compile.specs.Runs.{task_act}
use Rattle.task_run.specs.Events.{CameTo, Grew, gained, lines_in, nothing}
use Rattle.task_run.specs.Stores.{Left, left_objects, run_over}
use Rattle.task_run.proofs.EventRuns.{deeds_run, dropped}
use Rattle.task_run.proofs.Growth.{events_grow, lines_grow}
use Rattle.task_walk.specs.declared.code.Code.{Code}
use Rattle.task_walk.specs.declared.ended.Ended.{Ended}
use Rattle.task_walk.specs.declared.ended.Ended.TheVariants as ended
use Rattle.task_walk.specs.Comings.{Event, Told, Does, after, asked_in}
use Rattle.task_walk.specs.Deeds.{Deeds, deeds_of, ended_of}
use Rattle.task_walk.specs.Runs.{CameToEnd}
use Rattle.task_walk.specs.Tales.{Asked, Onto}
use Rattle.program_run.specs.TaskRuns.{IsRun, operations_of, run_of}
use Rattle.program_run.proofs.Alike.{deeds_alike}

module _ (program : Program) (task turns : ℕ) (code : Code) (body : Steps) (old new : Told)
    (plan : old.world.by.plan ≡ plan_of program) (does : DoesTask (plan_of program) (script_of program) code.functions.now task body) where
  abbrev left : Left
  left = gained old.world new.world

  -- what the code does by a plan
  abbrev deeds : Plan → Deeds
  deeds p = deeds_of (task_code_act p old.world.by.limit code.functions.now body turns)

  abbrev Comes : List Event → Ending (Unit {0}) → Plan → Deeds → Type 0
  Comes events ending p ds = CameTo (run_over left_objects p ds left) ending tt (lines_in events) (asked_in events) nothing

  came : (events : List Event) (ending : Ending (Unit {0})) → Does old.world.by.plan (deeds old.world.by.plan) events ending tt → new ≡ after events old
      → CameTo (run_of program task turns old.world.by.limit left) ending tt (lines_in events) (asked_in events) nothing
  came events ending done is =
      subst (Comes events ending (plan_of program))
      (sym (deeds_alike (cut 0) (state_of []) (task_act (script_of program) task turns old.world.by.limit)
      (task_code_act (plan_of program) old.world.by.limit code.functions.now body turns) (does turns old.world.by.limit)))
      (subst (λ p. Comes events ending p (deeds p)) plan (deeds_run (deeds old.world.by.plan) events ending old new done is))

  run_by : (events : List Event) (ending : Ending (Unit {0})) (end : Ended) → new ≡ after events old → ended_of (Some (ending, tt)) ≡ Some end
      → CameTo (run_of program task turns old.world.by.limit left) ending tt (lines_in events) (asked_in events) nothing
      → IsRun program task turns old.world.by.limit left (drop (length old.lines) new.lines) end
  run_by events ending end is same r = record {
    lines = r.lines ∙ sym (ap (drop (length old.lines)) (lines_grow events old new is) ∙ dropped old.lines (lines_in events));
    ended = ap ended_of r.came ∙ same;
    used_up = record { entries = r.entries; drawn = r.drawn };
  }

  -- the task's lines and end
  pub task_ran : {E H : Type 0} (result : Result Ended E) (before now : H → List Asked → Type 0) → CameToEnd code body turns result old new before now
      → IfOk result (IsRun program task turns old.world.by.limit left (drop (length old.lines) new.lines))
  task_ran (Ok ended.Done) before now r = run_by r.events (Gives tt) ended.Done r.is refl (came r.events (Gives tt) r.does r.is)
  task_ran (Ok (ended.Faulted f)) before now r = run_by r.events (Fails f) (ended.Faulted f) r.is refl (came r.events (Fails f) r.does r.is)
  task_ran (Err e) before now r = tt

  asks : {H : Type 0} (events : List Event) (ending : Ending (Unit {0})) (before now : H → List Asked → Type 0)
      → CameTo (run_of program task turns old.world.by.limit left) ending tt (lines_in events) (asked_in events) nothing
      → Onto before now (asked_in events) → Onto before now (operations_of program task turns old.world.by.limit left)
  asks events ending before now r onto = subst (Onto before now) (sym r.asked) onto

  -- its operations
  pub task_asked : {E H : Type 0} (result : Result Ended E) (before now : H → List Asked → Type 0) → CameToEnd code body turns result old new before now
      → OnOk result (Onto before now (operations_of program task turns old.world.by.limit left))
  task_asked (Ok ended.Done) before now r = asks r.events (Gives tt) before now (came r.events (Gives tt) r.does r.is) r.asked
  task_asked (Ok (ended.Faulted f)) before now r = asks r.events (Fails f) before now (came r.events (Fails f) r.does r.is) r.asked
  task_asked (Err e) before now r = tt

-- whatever the walk did, it only added
pub task_grew : {E H : Type 0} (code : Code) (body : Steps) (turns : ℕ) (result : Result Ended E) (old new : Told) (before now : H → List Asked → Type 0)
    → CameToEnd code body turns result old new before now → Grew old new
task_grew code body turns result old new before now r = events_grow r.events old new r.is

-- some operations were answered where memory was wanting
pub task_begun : {E H : Type 0} (code : Code) (body : Steps) (turns : ℕ) (result : Result Ended E) (old new : Told) (before now : H → List Asked → Type 0)
    → CameToEnd code body turns result old new before now → OnErr result ((operations : List Asked) × Onto before now operations)
task_begun code body turns (Ok end) old new before now r = tt
task_begun code body turns (Err e) old new before now r = (asked_in r.events, r.asked)
