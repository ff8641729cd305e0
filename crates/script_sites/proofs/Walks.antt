-- A walk over the items of a script.
use Rattle.std.proofs.Common.{◌≡◌, ℕ, List, ◌++◌, length, map, Option}
use Rattle.standard_binders.specs.declared.binder.Binder.{Binder}
use Rattle.script_grammar.specs.declared.tree.Item.{Item}
use Rattle.script_grammar.specs.declared.tree.Function.{Function}
use Rattle.script_grammar.specs.declared.tree.Task.{Task}
use Rattle.script_grammar.specs.declared.tree.Script.{Script}
use Rattle.script_sites.specs.Calls.{checked}
use Rattle.script_sites.specs.Sites.{function_starts, items_sites, site_binders, starts_of_functions, starts_of_tasks, task_starts}

-- what was found, with what these items have left, is what the script has
pub record IsWalked (s : Script) (sites : List (Option Binder)) (functions_at tasks_at : List ℕ) (items : List Item) (shared : List (List ℕ)) (functions : List Function) (tasks : List Task) : Type 0 where
  pub sites_are : sites ++ map checked (items_sites items shared functions tasks) ≡ map checked (site_binders s)
  pub functions_are : functions_at ++ starts_of_functions (length sites) items shared functions tasks ≡ function_starts s
  pub tasks_are : tasks_at ++ starts_of_tasks (length sites) items shared functions tasks ≡ task_starts s
