-- When code is the code of a statement or a block.
use Rattle.std.specs.Prelude.{◌≡◌, ℕ, ◌+◌, List, [], ◌∷◌, ◌++◌, length, Option, None, Some}
use Rattle.script_grammar.specs.declared.tree.Block.{Block}
use Rattle.script_grammar.specs.declared.tree.Stmt.{Stmt}
use Rattle.script_grammar.specs.declared.tree.Stmt.TheFolds.{fold-Stmt}
use Rattle.script_grammar.specs.declared.tree.Stmt.TheOpen.{Stmt-F, Block-F}
use Rattle.script_grammar.specs.Spelling.{spell_block, spell_stmt}
use Rattle.script_sites.specs.Sites.{block_sites, stmt_sites}
use Rattle.task_code.specs.declared.code.Step.{Step}
use Rattle.task_code.specs.declared.code.Steps.{Steps}
use Rattle.task_code.specs.declared.frame.Flow.{Flow}
use Rattle.task_code.specs.Acts.{Act}
use Rattle.task_code.specs.Codes as code
use Rattle.task_code.specs.Codes.{Around, body_act, step_act}
use Rattle.task_code.specs.Costs.{step_cost, step_uses, steps_cost, steps_uses}
use Rattle.task_compile.specs.declared.names.ItemNames.{ItemNames}
use Rattle.task_compile.specs.States.{Names, State, Given}
use Rattle.task_compile.specs.Executions.{block_part, part_of_stmt}
use Rattle.task_compile.specs.Agreements.{AgreesBefore, AgreesInside}
use Rattle.task_compile.specs.Compiled.{Code, HasBinders, IsSized, Tree, given_in}

abbrev pub Execution : Type 0
Execution = Tree (ℕ → State → Act State Flow)

-- The code does what a statement does, where these names are in scope before it and those after it, and the first of its
-- sites has this number.
pub record IsExecution (items : ItemNames) (scope after : Names) (site : ℕ) (t : Execution) (c : Code code.Executes) : Type 0 where
  pub sized : IsSized items site t c
  pub same : (around : Around) → HasBinders around.plan site t.binders → (levels : ℕ)
      → AgreesBefore scope after ((t.part (given_in items around)).from site levels) (c.act around levels)

-- The code does what the statements of a block do, whose locals are out of scope after it.
pub record IsBody (items : ItemNames) (scope : Names) (site : ℕ) (t : Execution) (c : Code code.Executes) : Type 0 where
  pub sized : IsSized items site t c
  pub same : (around : Around) → HasBinders around.plan site t.binders → (levels : ℕ)
      → AgreesInside scope ((t.part (given_in items around)).from site levels) (c.act around levels)

abbrev pub tree_of_stmt : Stmt → Execution
tree_of_stmt x = record { part = λ given. part_of_stmt given x; binders = stmt_sites x; tokens = spell_stmt x }

abbrev pub tree_of_block : Block → Execution
tree_of_block b = record { part = λ given. block_part given b; binders = block_sites b; tokens = spell_block b }

abbrev pub code_of_step : Step → Code code.Executes
code_of_step x = record { act = λ around. step_act around x; cost = step_cost x; uses = step_uses x }

abbrev pub code_of_steps : Steps → Code code.Executes
code_of_steps b = record { act = λ around. body_act around b; cost = steps_cost b; uses = steps_uses b }

-- the name that a statement declares for those after it
abbrev pub layer_declares : Stmt-F Names Names → Names
layer_declares (Stmt-F.Let n e) = n ∷ []
layer_declares _ = []

abbrev pub none_declared : Block-F Names Names → Names
none_declared b = []

abbrev pub declares : Stmt → Names
declares x = fold-Stmt Names Names layer_declares none_declared x

-- the steps are the code of the block
abbrev pub IsSteps : ItemNames → Names → ℕ → Block → Steps → Type 0
IsSteps items scope site b steps = IsBody items scope site (tree_of_block b) (code_of_steps steps)

-- the code of a block that may be there
abbrev pub IsOther : ItemNames → Names → ℕ → Option Block → Option Steps → Type 0
IsOther items scope site None None = Unit {0}
IsOther items scope site (Some b) (Some steps) = IsSteps items scope site b steps
IsOther items scope site _ _ = ⊥

abbrev pub IsStep : ItemNames → Names → ℕ → Stmt → Step → Type 0
IsStep items scope site x step = IsExecution items scope (scope ++ declares x) site (tree_of_stmt x) (code_of_step step)

-- The steps are the code of the statements, in order; after them the next site has this number, and these names are in
-- scope.
abbrev pub AreSteps : ItemNames → Names → ℕ → List Stmt → List Step → ℕ → Names → Type 0
AreSteps items scope site [] [] next after = (next ≡ site) × (after ≡ scope)
AreSteps items scope site (x ∷ xs) (step ∷ steps) next after =
    IsStep items scope site x step
    × AreSteps items (scope ++ declares x) (site + length (stmt_sites x)) xs steps next after
AreSteps items scope site _ _ next after = ⊥
