-- When code is the code of a script.
use Rattle.std.specs.Prelude.{◌≡◌, ℕ, ◌≤◌, List, length, map, slice_get, Some}
use Rattle.script_grammar.specs.declared.tree.Function.{Function}
use Rattle.script_grammar.specs.declared.tree.Script.{Script}
use Rattle.script_grammar.specs.Spelling.{spell}
use Rattle.script_sites.specs.declared.site_numbering.Numbering.{Numbering}
use Rattle.task_code.specs.declared.code.FunctionCode.{FunctionCode}
use Rattle.task_code.specs.declared.code.Steps.{Steps}
use Rattle.task_code.specs.Codes.{Plan}
use Rattle.task_code.specs.Costs.{steps_cost, steps_uses}
use Rattle.task_code.specs.Fits.{Fits}
use Rattle.task_compile.specs.declared.compiling.ScriptCode.{ScriptCode}
use Rattle.task_compile.specs.CompiledScripts.{DoesTask}

abbrev pub params_of : Function → List (List ℕ)
params_of f = f.params

abbrev pub code_params : FunctionCode → List (List ℕ)
code_params c = c.params

-- what a script's operations are made by, where its sites are numbered so
abbrev pub script_plan : Script → Numbering → Plan
script_plan script n = record { binders = n.binders; sites = n.sites; functions = map params_of script.functions }

-- The code of a body can be run: what it uses is there, wherever there may be as many objects as are shared, or more.
-- It asks at most once for each token of the script.
pub record IsRunnable (script : Script) (n : Numbering) (body : Steps) : Type 0 where
  pub fits : (limit : ℕ) → length script.shared ≤ limit → Fits (script_plan script n) limit (steps_uses body)
  pub cost : steps_cost body ≤ length (spell script)

abbrev pub IsRunnableFunction : Script → Numbering → FunctionCode → Type 0
IsRunnableFunction script n c = IsRunnable script n c.body

-- the code of each task does what the task of its number does
abbrev pub DoesTasks : Script → Numbering → ScriptCode → Type 0
DoesTasks script n code = (t : ℕ) (body : Steps) → slice_get code.tasks t ≡ Some body
    → DoesTask (script_plan script n) script code.functions t body
