use Rattle.std.proofs.Common.{◌≡◌, ℕ, List, take}
use Rattle.script_grammar.specs.declared.tree.Function.{Function}
use Rattle.task_code.specs.declared.code.FunctionCode.{FunctionCode}
use Rattle.task_compile.specs.declared.names.Scope.{Scope}
use Rattle.task_compile.specs.CompiledScripts.{AreFunctionBodies}
use Rattle.task_compile.proofs.bodies.compile_functions.Given as goal

-- the functions so far are compiled, over the same items
pub record SoFar (before now : Scope) (starts : List ℕ) (fs : List Function) (codes : List FunctionCode) : Type 0 where
  pub items : now.items ≡ before.items
  pub bodies : AreFunctionBodies before.items starts fs codes

abbrev pub invariant-loop-place : goal.invariant-loop-place
invariant-loop-place l = SoFar l.initial.scope l.scope l.starts (take l.place l.functions) l.codes
