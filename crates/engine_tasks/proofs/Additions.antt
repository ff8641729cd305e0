-- What the run of a task adds to a pass.
use Rattle.std.proofs.Common.{◌≡◌, ◌∙◌, ℕ, ◌+◌, ◌≤◌, List, [], drop, length, ap, refl, subst, arith, length-append}
use Rattle.std.specs.List.{AllByRecursion}
use Rattle.command_words.specs.declared.words.Options.{Options}
use Rattle.script_program.specs.declared.program.Program.{Program}
use Rattle.task_run.specs.Events.{Grew, gained}
use Rattle.task_run.specs.Stores.{Begins, IsToldBy, Left, Lines}
use Rattle.task_walk.specs.Comings.{told}
use Rattle.task_walk.specs.Tales.{Asked}
use Rattle.program_run.specs.TaskRuns.{IsRun, operations_of}
use Rattle.dlr_engine.specs.declared.pass.Pass.{Pass}
use Rattle.dlr_engine.specs.declared.run.Run.{Run}
use Rattle.dlr_engine.specs.Levels.{total}
use Rattle.dlr_engine.specs.Passes.{levels_of, limit_in, number_of, program_in, IsSamePass}
use Rattle.engine_tasks.specs.declared.report.TaskEnd.{TaskEnd}
use Rattle.engine_tasks.specs.Lawful.{limit_of, teller_of}
use Rattle.dlr_engine.specs.Passes.{numbers_of}
use Rattle.engine_tasks.specs.Passes.{made_below}
use Rattle.engine_tasks.specs.TaskRuns.{Ran}
use Rattle.engine_tasks.specs.Worlds.{HasAnswered, Serves, tale_in}

pub begins_longer : {A : Type 0} (old new : List A) → Begins old new → length old ≤ length new
begins_longer old new begins = omega (arith, ap length begins.1, length-append old begins.0)

-- no operation was answered yet
pub none_asked : (run : Run) (p : Pass) → HasAnswered run p run p []
none_asked run p = record { run_is = refl; same = (refl, refl, refl); counted = omega arith }

-- the run and the pass go on from where a task begins
pub runs_on : (first run now : Run) (old p new : Pass) (ops : List Asked) → run ≡ first → HasAnswered run p now new ops → now ≡ first
runs_on first run now old p new ops begun is = is.run_is ∙ begun

pub passes_on : (run now : Run) (old p new : Pass) (ops : List Asked) → p ≡ old → HasAnswered run p now new ops → IsSamePass old new
passes_on run now old p new ops begun is = subst (λ (q : Pass). IsSamePass q new) begun is.same

-- what a pass gained, where the limits are these
abbrev left_in : ℕ → ℕ → Pass → Pass → Left
left_in limit after old new = record {
  entries = λ object. drop (length (made_below limit old object)) (made_below after new object);
  drawn = drop (length (numbers_of old)) (numbers_of new);
}

-- where the walk over the task did all this, the task ran
pub has_run : (options : Options) (run now : Run) (old new : Pass) (program : Program) (task begun after count counted : ℕ) (printed before lines : Lines)
    (end : TaskEnd) → Serves options run → program ≡ program_in run → begun ≡ task
    → IsRun program task options.turns (limit_in run) (gained (tale_in run begun count old) (tale_in now after counted new)) printed end.ended
    → Grew (told (tale_in run begun count old) before) (told (tale_in now after counted new) lines)
    → HasAnswered run old now new (operations_of program task options.turns (limit_in run) (gained (tale_in run begun count old) (tale_in now after counted
    new)))
    → printed ≡ end.lines → end.drawn ≡ drop (length (numbers_of old)) (numbers_of new)
    → Ran (program_in run) options (number_of old) task end old new
has_run options run now old new program task begun after count counted printed before lines end serves program_is task_is is grew answered printed_is drawn_is =
    let limit = limit_of (program_in run) options in
    let later : limit_in now ≡ limit = ap limit_in answered.run_is ∙ serves.limit in
    record {
      run = subst (λ (q : Program × ℕ × ℕ × Lines). IsRun q.0 task options.turns q.1 (left_in q.1 q.2 old new) q.3 end.ended)
          (λ i. (program_is i, serves.limit i, later i, printed_is i)) is;
      entries = λ object. subst (λ (q : ℕ × ℕ). Begins (made_below q.0 old object) (made_below q.1 new object)) (λ i. (serves.limit i, later i))
          (grew.entries object);
      told = λ object. subst (λ (q : ℕ × ℕ × ℕ). AllByRecursion (IsToldBy (teller_of (program_in run) options (number_of old) q.0))
          ((left_in q.1 q.2 old new).entries object)) (λ i. (task_is i, serves.limit i, later i)) (grew.told object);
      drawn = grew.drawn;
      numbers = drawn_is;
      counted = subst (λ (q : Program × ℕ × ℕ). total (levels_of new) ≡ total (levels_of old) + length (operations_of q.0 task options.turns q.1 (left_in
          q.1 q.2 old new))) (λ i. (program_is i, serves.limit i, later i)) answered.counted;
    }

-- the same of the run and the pass before the task was begun
pub has_run_from : (options : Options) (first run : Run) (old p new : Pass) (task : ℕ) (end : TaskEnd) → run ≡ first → p ≡ old
    → Ran (program_in run) options (number_of p) task end p new → Ran (program_in first) options (number_of old) task end old new
has_run_from options first run old p new task end same begun ran =
    subst (λ (q : Run × Pass). Ran (program_in q.0) options (number_of q.1) task end q.1 new) (λ i. (same i, begun i)) ran
