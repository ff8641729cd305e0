-- What the engine says of what it closed with, for the program that it was started for.
use Rattle.std.proofs.Common.{◌≡◌, ℕ, ◌+◌, ◌<◌, List, length, map, ◌∙◌, subst, arith}
use Rattle.command_words.specs.declared.words.Options.{Options}
use Rattle.script_program.specs.declared.program.Program.{Program}
use Rattle.dlr_engine.specs.declared.closed.Closed.{Closed}
use Rattle.dlr_engine.specs.declared.pass.Pass.{Pass}
use Rattle.dlr_engine.specs.declared.run.Run.{Run}
use Rattle.dlr_engine.specs.Closing.{AreDrawn, IsClosedRow, journals_in, levels_in}
use Rattle.dlr_engine.specs.Levels.{all_levels}
use Rattle.dlr_engine.specs.Passes.{levels_of, limit_in, plan_in, program_in, shared_in}
use Rattle.engine_tasks.specs.TaskRuns.{HasClosed}

-- the clauses of `close`, of a run that was started for the program and the options' objects
pub has_closed : (run : Run) (program : Program) (options : Options) (ps : List Pass) (closed : Closed)
    → program_in run ≡ program → limit_in run ≡ shared_in run + options.objects
    → length (journals_in closed) ≡ limit_in run
    → ((row : ℕ) → row < limit_in run → IsClosedRow (plan_in run).binders ps row (journals_in closed))
    → AreDrawn (shared_in run) ps → levels_in closed ≡ all_levels (map levels_of ps)
    → HasClosed program options ps closed
has_closed run program options ps closed same limit count rows numbers levels =
    subst (λ (p : Program). HasClosed p options ps closed) same (record {
      count = count ∙ limit;
      rows = λ row within. rows row (omega (arith, within, limit));
      numbers = numbers;
      levels = levels;
    })
