use Rattle.std.proofs.Common.{◌≡◌, ℕ, List, take}
use Rattle.script_grammar.specs.declared.tree.Stmt.{Stmt}
use Rattle.task_code.specs.declared.code.Step.{Step}
use Rattle.task_compile.specs.declared.names.ItemNames.{ItemNames}
use Rattle.task_compile.specs.declared.names.Scope.{Scope}
use Rattle.task_compile.specs.CompiledBlocks.{AreSteps}
use Rattle.task_compile.proofs.statements.+statement.Given as goal

-- the statements so far are compiled, over the same items
pub record SoFar (before now : Scope) (site next : ℕ) (xs : List Stmt) (steps : List Step) : Type 0 where
  pub items : now.items ≡ before.items
  pub rows : AreSteps before.items before.locals site xs steps next now.locals

abbrev pub invariant-compile_block-loop-stmt : goal.invariant-compile_block-loop-stmt
invariant-compile_block-loop-stmt l = SoFar l.initial.scope l.scope l.initial.site l.site (take l.stmt-index l.stmt-items) l.steps
