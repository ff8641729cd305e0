-- What the code of a script's functions and of a task does.
use Rattle.std.proofs.Common.{◌≡◌, ℕ, zero, suc, List, [], length, slice_get, Option, None, Some, refl, sym, ap, ◌∙◌, subst}
use Rattle.dyn_value.specs.declared.fault.Fault.TheVariants.{Depth, NoOperator}
use Rattle.dyn_value.specs.declared.value.Value.{Value}
use Rattle.standard_binders.specs.Arguments.{Arguments}
use Rattle.script_grammar.specs.declared.tree.Block.{Block}
use Rattle.script_grammar.specs.declared.tree.Function.{Function}
use Rattle.script_grammar.specs.declared.tree.Script.{Script}
use Rattle.script_grammar.specs.declared.tree.Task.{Task}
use Rattle.script_sites.specs.Sites.{block_sites}
use Rattle.task_code.specs.declared.code.FunctionCode.{FunctionCode}
use Rattle.task_code.specs.declared.code.Steps.{Steps}
use Rattle.task_code.specs.declared.frame.Flow.{Flow}
use Rattle.task_code.specs.declared.frame.Flow.TheVariants as flow
use Rattle.task_code.specs.declared.frame.Frame.{Frame}
use Rattle.task_code.specs.Acts.{Act, Ending, Ends, Gives, Fails, Calls, bind, ends_in, fails, values_of}
use Rattle.task_code.specs.Codes as code
use Rattle.task_code.specs.Codes.{Plan, around_of, task_code_act}
use Rattle.task_compile.specs.declared.names.ItemNames.{ItemNames}
use Rattle.task_compile.specs.States.{Names, State, Given}
use Rattle.task_compile.specs.Executions.{block_part}
use Rattle.task_compile.specs.Agreements.{cut, state_of}
use Rattle.task_compile.specs.Compiled.{HasBinders, given_in}
use Rattle.task_compile.specs.CompiledBlocks.{IsSteps}
use Rattle.task_compile.specs.CompiledScripts.{AreFunctionsOf, DoesTask, IsBoth, IsFunctionCode, items_of}
use Rattle.task_compile.specs.Runs.{body_act, body_ends, calls_of, function_act, function_site, given_by, task_act, task_site}
use Rattle.task_compile.proofs.Agreement.{bind_bind}

-- a function's value does not look at its locals
ends_cut : (n : ℕ) (e : Ending Flow) (s : State) → body_ends e s ≡ body_ends e (cut n s)
ends_cut n (Gives flow.Next) s = refl
ends_cut n (Gives (flow.Returned v)) s = refl
ends_cut n (Fails f) s = refl

ends_alike : (scope : Names) (e : Ending Flow) (s : Frame) → body_ends e (state_of scope s) ≡ code.body_ends e s
ends_alike scope (Gives flow.Next) s = refl
ends_alike scope (Gives (flow.Returned v)) s = refl
ends_alike scope (Fails f) s = refl

-- the value of a function, where its body agrees
value_alike : (scope : Names) (act : Act State Flow) (acts : Act Frame Flow) → ends_in (cut (length scope)) act ≡ ends_in (state_of scope) acts → bind act body_ends ≡ bind acts code.body_ends
value_alike scope act acts h =
    (λ i. bind act (λ e s. ends_cut (length scope) e s i))
    ∙ sym (bind_bind act (λ e s. Ends e (cut (length scope) s)) body_ends)
    ∙ ap (λ z. bind z body_ends) h
    ∙ bind_bind acts (λ e s. Ends e (state_of scope s)) body_ends
    ∙ (λ i. bind acts (λ e s. ends_alike scope e s i))

module _ (plan : Plan) (script : Script) (codes : List FunctionCode) (limit : ℕ) (functions : AreFunctionsOf plan script codes) where
  -- what a script's functions are given
  given_alike : (more : ℕ) → calls_of script limit more ≡ code.calls_of plan limit codes more → given_by script limit (calls_of script limit more) ≡ given_in (items_of script) (around_of plan limit codes more)
  given_alike more same = ap (given_by script limit) same

  function_alike : (site more : ℕ) (f : Option Function) (c : Option FunctionCode) → IsBoth (IsFunctionCode plan (items_of script) site) f c → calls_of script limit more ≡ code.calls_of plan limit codes more
      → (info : Arguments) (args : List Value) (levels turns : ℕ)
      → function_act (given_by script limit (calls_of script limit more)) site f info args levels turns ≡ code.function_act (around_of plan limit codes more) c info args levels turns
  function_alike site more None None is same info args levels turns = refl
  function_alike site more None (Some c) is same info args levels turns = absurd is
  function_alike site more (Some f) None is same info args levels turns = absurd is
  function_alike site more (Some f) (Some c) is same info args levels turns =
      ap (λ z. function_act z site (Some f) info args levels turns) (given_alike more same)
      ∙ value_alike f.params
      ((block_part (given_in (items_of script) (around_of plan limit codes more)) f.body).from site levels (state_of f.params (record { turns = turns; locals = values_of f.params info args })))
      (code.body_act (around_of plan limit codes more) c.body levels (record { turns = turns; locals = values_of f.params info args }))
      (is.code.body.same (around_of plan limit codes more) is.binders levels (record { turns = turns; locals = values_of f.params info args }))
      ∙ ap (λ z. bind (code.body_act (around_of plan limit codes more) c.body levels (record { turns = turns; locals = values_of z info args })) code.body_ends) (sym is.code.params)

  -- the functions do the same
  pub calls_alike : (more : ℕ) → calls_of script limit more ≡ code.calls_of plan limit codes more
  calls_alike zero = λ i f info args levels turns. fails Depth turns
  calls_alike (suc more) = λ i f info args levels turns.
      function_alike (function_site script f) more (slice_get script.functions f) (slice_get codes f) (functions f) (calls_alike more) info args levels turns i

  -- and so does a task
  pub task_alike : (t : ℕ) (task : Task) (body : Steps) (turns : ℕ) → slice_get script.tasks t ≡ Some task → IsSteps (items_of script) [] (task_site script t) task.body body
      → HasBinders plan (task_site script t) (block_sites task.body) → ends_in (cut 0) (task_act script t turns limit) ≡ ends_in (state_of []) (task_code_act plan limit codes body turns)
  task_alike t task body turns found is binders =
      ap (λ z. ends_in (cut 0) (body_act (given_by script limit (calls_of script limit 256)) (task_site script t) z (record { turns = turns; locals = [] }))) found
      ∙ ap (λ z. ends_in (cut 0) ((block_part z task.body).from (task_site script t) 256 (record { turns = turns; locals = [] }))) (given_alike 256 (calls_alike 256))
      ∙ is.same (around_of plan limit codes 256) binders 256 (record { turns = turns; locals = [] })
