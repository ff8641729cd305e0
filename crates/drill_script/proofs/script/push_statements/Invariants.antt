use Rattle.std.proofs.Common.{◌≡◌, ◌++◌, ◌*◌, string_bytes}
use Rattle.drill_script.specs.Draws.{state_after}
use Rattle.drill_script.specs.Script.{statements_text}
use Rattle.drill_script.proofs.script.push_statements.Given as goal

abbrev pub invariant-loop : goal.invariant-loop
invariant-loop l = record {
  text : string_bytes l.script ≡ string_bytes l.initial.script ++ statements_text l.initial.draws.state 0 l.counter;
  state : l.draws.state ≡ state_after l.initial.draws.state (3 * l.counter);
}
