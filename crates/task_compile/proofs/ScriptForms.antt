-- The code of a script, from the code of its functions and tasks.
use Rattle.std.proofs.Common.{◌≡◌, ℕ, ◌+◌, ◌<◌, ◌≤◌, true, List, [], ◌∷◌, length, map, get_or, slice_get, Option, None, Some, refl, sym, ap, ◌∙◌, subst, arith}
use Rattle.std.specs.Prelude.{nat_le}
use Rattle.std.specs.List.{AllByRecursion}
use Rattle.std.proofs.lemmas.Bool.Decides.{nat_tests}
use Rattle.std.proofs.lemmas.List.{length-map}
use Rattle.std.proofs.lemmas.Option.{slice_get-get_or, slice_get_within}
use Rattle.standard_binders.specs.declared.binder.Binder.{Binder}
use Rattle.script_grammar.specs.declared.tree.Block.{Block}
use Rattle.script_grammar.specs.declared.tree.Function.{Function}
use Rattle.script_grammar.specs.declared.tree.Script.{Script}
use Rattle.script_grammar.specs.declared.tree.Task.{Task}
use Rattle.script_grammar.specs.Spelling.{spell, spell_block}
use Rattle.script_grammar.specs.WrittenStatements.{is_written}
use Rattle.script_sites.specs.declared.limits.What.TheVariants as what
use Rattle.script_sites.specs.declared.site_numbering.Numbering.{Numbering}
use Rattle.script_sites.specs.Limits.{IsWithinLimits}
use Rattle.script_sites.specs.Numbering.{IsNumbering}
use Rattle.script_sites.specs.Sites.{block_sites, function_sites, function_starts, site_binders, task_sites, task_starts, IsPartAt}
use Rattle.task_code.specs.declared.code.FunctionCode.{FunctionCode}
use Rattle.task_code.specs.declared.code.Steps.{Steps}
use Rattle.task_compile.specs.declared.compiling.ScriptCode.{ScriptCode}
use Rattle.task_compile.specs.declared.names.ItemNames.{ItemNames}
use Rattle.task_compile.specs.States.{Names}
use Rattle.task_compile.specs.Compiled.{HasBinders, HasItems}
use Rattle.task_compile.specs.CompiledBlocks.{IsSteps}
use Rattle.task_compile.specs.CompiledScripts.{AreFunctionBodies, AreFunctionsOf, AreTaskBodies, IsBoth, IsFunctionBody, IsFunctionCode, IsTaskBody, items_of}
use Rattle.task_compile.specs.Runs.{function_site, name_of, task_site}
use Rattle.task_compile.specs.ScriptCodes.{DoesTasks, IsRunnable, IsRunnableFunction, code_params, params_of, script_plan}
use Rattle.task_compile.proofs.Pairs.{as_many, both_more, each_second, first_of, same_map}
use Rattle.task_compile.proofs.PlanBinders.{has_part}
use Rattle.task_compile.proofs.RunForms.{task_alike}
use Rattle.task_compile.proofs.WrittenItems.{function_among, starts_of_each_function, starts_of_each_task, task_among}

-- the sites of a script's functions and tasks are where they begin
abbrev pub FunctionsHaveParts : Type 0
FunctionsHaveParts = (s : Script) (k n : ℕ) (f : Function) → slice_get s.functions k ≡ Some f → slice_get (function_starts s) k ≡ Some n → IsPartAt (site_binders s) n (function_sites f)

abbrev pub TasksHaveParts : Type 0
TasksHaveParts = (s : Script) (k n : ℕ) (t : Task) → slice_get s.tasks k ≡ Some t → slice_get (task_starts s) k ≡ Some n → IsPartAt (site_binders s) n (task_sites t)

-- the names that items declare are few, and among those of a run
has_items : (script : Script) (n : Numbering) (limit : ℕ) → IsWithinLimits script → length script.shared ≤ limit → HasItems (items_of script) (script_plan script n) limit
has_items script n limit within enough =
    let functions : nat_le (length script.functions) 256 ≡ true = within what.Functions in
    let shared : nat_le (length script.shared) 64 ≡ true = within what.Shared in
    record {
      functions = simp length-map (omega arith);
      few_functions = simp length-map (grind (arith, nat_tests));
      shared = enough;
      few_shared = grind (arith, nat_tests);
    }

module _ (script : Script) (n : Numbering) (written : is_written script ≡ true) (within : IsWithinLimits script) (numbering : IsNumbering (site_binders script) n.sites n.binders) where
  -- the code of a body that stands among the script's
  runnable : (scope : Names) (site : ℕ) (b : Block) (body : Steps) → HasBinders (script_plan script n) site (block_sites b) → length (spell_block b) ≤ length (spell script) → IsSteps (items_of script) scope site b body → IsRunnable script n body
  runnable scope site b body has among is = record {
    fits = λ limit enough. is.sized.fits (script_plan script n) limit has (has_items script n limit within enough);
    cost = omega (arith, is.sized.cost, among);
  }

  function_binders : FunctionsHaveParts → (k : ℕ) (f : Function) → slice_get script.functions k ≡ Some f → HasBinders (script_plan script n) (function_site script k) (block_sites f.body)
  function_binders parts k f at =
      let inside : k < length (function_starts script) = omega (arith, starts_of_each_function script written, slice_get_within script.functions k f at) in
      has_part (script_plan script n) (site_binders script) (function_sites f) (function_site script k) numbering.each
      (parts script k (function_site script k) f at (slice_get-get_or (function_starts script) k 0 inside))

  task_binders : TasksHaveParts → (k : ℕ) (t : Task) → slice_get script.tasks k ≡ Some t → HasBinders (script_plan script n) (task_site script k) (block_sites t.body)
  task_binders parts k t at =
      let inside : k < length (task_starts script) = omega (arith, starts_of_each_task script written, slice_get_within script.tasks k t at) in
      has_part (script_plan script n) (site_binders script) (task_sites t) (task_site script k) numbering.each
      (parts script k (task_site script k) t at (slice_get-get_or (task_starts script) k 0 inside))

  functions_of : FunctionsHaveParts → (codes : List FunctionCode) → AreFunctionBodies (items_of script) (function_starts script) script.functions codes → AreFunctionsOf (script_plan script n) script codes
  functions_of parts codes are k =
      both_more (IsFunctionBody (items_of script) (function_site script k)) (IsFunctionCode (script_plan script n) (items_of script) (function_site script k)) (slice_get script.functions k) (slice_get codes k) (are k)
      (λ f c at is. record { code = is; binders = function_binders parts k f at })

  pub functions_runnable : FunctionsHaveParts → (codes : List FunctionCode) → AreFunctionBodies (items_of script) (function_starts script) script.functions codes → AllByRecursion (IsRunnableFunction script n) codes
  functions_runnable parts codes are =
      each_second (λ k. IsFunctionBody (items_of script) (function_site script k)) (IsRunnableFunction script n) script.functions codes are
      (λ k f c at is. runnable f.params (function_site script k) f.body c.body (function_binders parts k f at) (function_among script k f written at) is.body)

  pub tasks_runnable : TasksHaveParts → (bodies : List Steps) → AreTaskBodies (items_of script) (task_starts script) script.tasks bodies → AllByRecursion (IsRunnable script n) bodies
  tasks_runnable parts bodies are =
      each_second (λ k. IsTaskBody (items_of script) (task_site script k)) (IsRunnable script n) script.tasks bodies are
      (λ k t body at is. runnable [] (task_site script k) t.body body (task_binders parts k t at) (task_among script k t written at) is)

  pub tasks_do : FunctionsHaveParts → TasksHaveParts → (code : ScriptCode) → AreFunctionBodies (items_of script) (function_starts script) script.functions code.functions
      → AreTaskBodies (items_of script) (task_starts script) script.tasks code.tasks → DoesTasks script n code
  tasks_do function_parts task_parts code functions tasks t body at turns limit =
      let found = first_of (IsTaskBody (items_of script) (task_site script t)) (slice_get script.tasks t) (slice_get code.tasks t) body (tasks t) at in
      task_alike (script_plan script n) script code.functions limit (functions_of function_parts code.functions functions) t found.0 body turns found.1.0 found.1.1 (task_binders task_parts t found.0 found.1.0)

-- as many tasks, and the functions' parameters
pub same_params : (items : ItemNames) (starts : List ℕ) (fs : List Function) (codes : List FunctionCode) → AreFunctionBodies items starts fs codes → map code_params codes ≡ map params_of fs
same_params items starts fs codes are = same_map (λ k. IsFunctionBody items (get_or starts k 0)) params_of code_params fs codes are (λ k f c is. is.params)

pub same_count : (items : ItemNames) (starts : List ℕ) (ts : List Task) (bodies : List Steps) → AreTaskBodies items starts ts bodies → length bodies ≡ length ts
same_count items starts ts bodies are = as_many (λ k. IsTaskBody items (get_or starts k 0)) ts bodies are

-- the same of the script's own lists
pub functions_at : (script : Script) (items : ItemNames) (starts : List ℕ) (fs : List Function) (codes : List FunctionCode) → items ≡ items_of script → starts ≡ function_starts script → fs ≡ script.functions → AreFunctionBodies items starts fs codes
    → AreFunctionBodies (items_of script) (function_starts script) script.functions codes
functions_at script items starts fs codes p q r are =
    subst (λ z. AreFunctionBodies (items_of script) (function_starts script) z codes) r
    (subst (λ z. AreFunctionBodies (items_of script) z fs codes) q (subst (λ z. AreFunctionBodies z starts fs codes) p are))

pub tasks_at : (script : Script) (items : ItemNames) (starts : List ℕ) (ts : List Task) (bodies : List Steps) → items ≡ items_of script → starts ≡ task_starts script → ts ≡ script.tasks → AreTaskBodies items starts ts bodies
    → AreTaskBodies (items_of script) (task_starts script) script.tasks bodies
tasks_at script items starts ts bodies p q r are =
    subst (λ z. AreTaskBodies (items_of script) (task_starts script) z bodies) r
    (subst (λ z. AreTaskBodies (items_of script) z ts bodies) q (subst (λ z. AreTaskBodies z starts ts bodies) p are))
