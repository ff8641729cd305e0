-- The code of a program suits a world that answers for one of its tasks.
use Rattle.std.proofs.Common.{◌≡◌, ℕ, zero, suc, ◌^◌, ◌<◌, ◌≤◌, true, List, [], ◌∷◌, length, map, get_or, slice_get, Some, sym, ap, ◌∙◌, subst, arith}
use Rattle.std.specs.Prelude.{nat_le}
use Rattle.std.specs.List.{AllByRecursion}
use Rattle.std.proofs.lemmas.Bool.Decides.{nat_tests}
use Rattle.std.proofs.lemmas.List.{length-map}
use Rattle.std.proofs.lemmas.Option.{slice_get-get_or}
use Rattle.script_grammar.specs.declared.tree.Script.{Script}
use Rattle.script_grammar.specs.Spelling.{spell}
use Rattle.script_sites.specs.declared.limits.What.TheVariants as what
use Rattle.script_sites.specs.declared.site_numbering.Numbering.{Numbering}
use Rattle.script_sites.specs.Sites.{site_binders}
use Rattle.script_program.specs.declared.program.Program.{Program}
use Rattle.script_program.specs.Plans.{plan_of}
use Rattle.script_program.specs.Programs.{binders_of, built_of, numbering_of, script_of, sites_of}
use Rattle.task_code.specs.declared.code.FunctionCode.{FunctionCode}
use Rattle.task_code.specs.declared.code.Steps.{Steps}
use Rattle.task_code.specs.Codes.{Plan}
use Rattle.task_code.specs.Costs.{steps_cost, steps_uses}
use Rattle.task_code.specs.Fits.{Fits}
use Rattle.task_compile.specs.declared.compiling.ScriptCode.{ScriptCode}
use Rattle.task_compile.specs.CompiledScripts.{DoesTask}
use Rattle.task_compile.specs.ScriptCodes.{DoesTasks, IsRunnable, IsRunnableFunction, code_params, params_of, script_plan}
use Rattle.task_walk.specs.declared.code.Code.{Code}
use Rattle.task_walk.specs.Plans as walk
use Rattle.task_walk.specs.Walks.{IsBody, IsFor, most_asked}
use Rattle.task_walk.specs.Tales.{Teller}
use Rattle.program_run.specs.TaskRuns.{IsTaskOf}

all_as : {A : Type 0} (P Q : A → Type 0) (xs : List A) → ((x : A) → P x → Q x) → AllByRecursion P xs → AllByRecursion Q xs
all_as P Q [] as_q all = tt
all_as P Q (x ∷ xs) as_q all = (as_q x all.0, all_as P Q xs as_q all.1)

few : (n most : ℕ) → nat_le n most ≡ true → n ≤ most
few n most h = grind (arith, nat_tests)

-- a program has at most 4,096 sites
few_sites : (program : Program) → length (sites_of program) ≤ 4096
few_sites program =
    let numbered : length (sites_of program) ≡ length (site_binders (script_of program)) =
    sym (length-map (sites_of program) (slice_get (binders_of program))) ∙ ap length (built_of program).numbers.each
    ∙ length-map (site_binders (script_of program)) Some in
    let limited = few (length (site_binders (script_of program))) 4096 ((built_of program).limits what.Sites) in
    omega (arith, numbered, limited)

module _ (program : Program) (task : ℕ) (by : Teller) (script : Script) (n : Numbering) (of : IsTaskOf program task by)
    (same_script : script ≡ script_of program) (same_numbers : n ≡ numbering_of program) where
  plan_is : by.plan ≡ script_plan script n
  plan_is = of.plan ∙ (λ i. script_plan (sym same_script i) (sym same_numbers i))

  few_shared : length script.shared ≤ by.limit
  few_shared = subst (λ (s : Script). length s.shared ≤ by.limit) (sym same_script) of.shared

  few_tokens : length (spell script) ≤ 1048576
  few_tokens = subst (λ (s : Script). length (spell s) ≤ 1048576) (sym same_script) (built_of program).few_tokens

  -- a body uses what is there, and asks few operations without a turn
  body_fits : (body : Steps) → IsRunnable script n body → Fits by.plan by.limit (steps_uses body)
  body_fits body is = subst (λ (p : Plan). Fits p by.limit (steps_uses body)) (sym plan_is) (is.fits by.limit few_shared)

  body_costs : (body : Steps) → IsRunnable script n body → steps_cost body ≤ most_asked
  body_costs body is = let small = few_tokens in omega (arith, is.cost, small)

  function_is : (c : FunctionCode) → IsRunnableFunction script n c → IsBody by.plan by.limit c
  function_is c is = record { fits = body_fits c.body is; cost = body_costs c.body is }

  -- the world answers for the code
  pub is_for : (code : Code) (functions : List FunctionCode) → code.binders.now ≡ n.binders → code.sites.now ≡ n.sites → code.functions.now ≡ functions
      → map code_params functions ≡ map params_of script.functions → AllByRecursion (IsRunnableFunction script n) functions → IsFor code by
  is_for code functions binders sites same params all =
      let code_plan : script_plan script n ≡ walk.plan_of code =
      λ i. record { binders = sym binders i; sites = sym sites i; functions = (sym params ∙ ap (map code_params) (sym same)) i } in
      let small = few_sites program in
      record {
        plan = plan_is ∙ code_plan;
        sites = subst (λ (p : Plan). length p.sites < 2 ^ 32) (sym of.plan) (omega (arith, small));
        bodies = subst (AllByRecursion (IsBody by.plan by.limit)) (sym same)
            (all_as (IsRunnableFunction script n) (IsBody by.plan by.limit) functions function_is all);
        limit = of.limit;
      }

  -- the body of the task
  body_at : (tasks slice : List Steps) (body : Steps) → slice ≡ tasks → length tasks ≡ length script.tasks → body ≡ get_or slice task body
      → slice_get tasks task ≡ Some body
  body_at tasks slice body same count is =
      let there = subst (λ (s : Script). task < length s.tasks) (sym same_script) of.there in
      slice_get-get_or tasks task body (omega (arith, there, count)) ∙ ap Some (sym (is ∙ ap (λ xs. get_or xs task body) same))

  all_at : (xs : List Steps) (i : ℕ) (x : Steps) → AllByRecursion (IsRunnable script n) xs → slice_get xs i ≡ Some x → IsRunnable script n x
  all_at [] i x all at = cc
  all_at (y ∷ ys) zero x all at = subst (IsRunnable script n) (cc at) all.0
  all_at (y ∷ ys) (suc i) x all at = all_at ys i x all.1 at

  -- it uses what is there
  pub task_fits : (script_code : ScriptCode) (slice : List Steps) (body : Steps) → slice ≡ script_code.tasks → length script_code.tasks ≡ length script.tasks
      → body ≡ get_or slice task body → AllByRecursion (IsRunnable script n) script_code.tasks → Fits by.plan by.limit (steps_uses body)
  task_fits script_code slice body same count is all =
      body_fits body (all_at script_code.tasks task body all (body_at script_code.tasks slice body same count is))

  -- and it does what the task does
  pub task_does : (script_code : ScriptCode) (functions : List FunctionCode) (slice : List Steps) (body : Steps) → slice ≡ script_code.tasks
      → length script_code.tasks ≡ length script.tasks → body ≡ get_or slice task body → functions ≡ script_code.functions → DoesTasks script n script_code
      → DoesTask (plan_of program) (script_of program) functions task body
  task_does script_code functions slice body same count is functions_same does =
      subst (λ fs. DoesTask (plan_of program) (script_of program) fs task body) (sym functions_same)
      (subst (λ (m : Numbering). DoesTask (script_plan (script_of program) m) (script_of program) script_code.functions task body) same_numbers
      (subst (λ (s : Script). DoesTask (script_plan s n) s script_code.functions task body) same_script
      (does task body (body_at script_code.tasks slice body same count is))))
