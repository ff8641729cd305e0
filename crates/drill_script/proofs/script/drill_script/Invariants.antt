use Rattle.std.proofs.Common.{◌≡◌, ◌++◌, ◌*◌, string_bytes}
use Rattle.drill_script.specs.Draws.{state_after}
use Rattle.drill_script.specs.Script.{tasks_text}
use Rattle.drill_script.proofs.script.drill_script.Given as goal

abbrev pub invariant-loop-task : goal.invariant-loop-task
invariant-loop-task l = record {
  text : string_bytes l.script ≡ string_bytes l.initial.script ++ tasks_text l.initial.draws.state l.task;
  state : l.draws.state ≡ state_after l.initial.draws.state (3 * (250 * l.task));
}
