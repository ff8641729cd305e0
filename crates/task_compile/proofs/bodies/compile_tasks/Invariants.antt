use Rattle.std.proofs.Common.{◌≡◌, ℕ, List, take}
use Rattle.script_grammar.specs.declared.tree.Task.{Task}
use Rattle.task_code.specs.declared.code.Steps.{Steps}
use Rattle.task_compile.specs.declared.names.Scope.{Scope}
use Rattle.task_compile.specs.CompiledScripts.{AreTaskBodies}
use Rattle.task_compile.proofs.bodies.compile_tasks.Given as goal

-- the tasks so far are compiled, over the same items
pub record SoFar (before now : Scope) (starts : List ℕ) (ts : List Task) (codes : List Steps) : Type 0 where
  pub items : now.items ≡ before.items
  pub bodies : AreTaskBodies before.items starts ts codes

abbrev pub invariant-loop-place : goal.invariant-loop-place
invariant-loop-place l = SoFar l.initial.scope l.scope l.starts (take l.place l.tasks) l.codes
