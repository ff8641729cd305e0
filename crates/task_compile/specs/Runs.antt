-- What a task of a script does.
use Rattle.std.specs.Prelude.{ℕ, zero, suc, List, [], get_or, slice_get, map, Option, None, Some}
use Rattle.dyn_value.specs.declared.fault.Fault.TheVariants.{Depth, NoOperator}
use Rattle.dyn_value.specs.declared.value.Value.{Value}
use Rattle.dyn_value.specs.declared.value.Value.TheVariants as value
use Rattle.standard_binders.specs.Arguments.{Arguments}
use Rattle.script_grammar.specs.declared.tree.Function.{Function}
use Rattle.script_grammar.specs.declared.tree.Script.{Script}
use Rattle.script_grammar.specs.declared.tree.Task.{Task}
use Rattle.script_sites.specs.Sites.{function_starts, task_starts}
use Rattle.task_code.specs.declared.frame.Flow.{Flow}
use Rattle.task_code.specs.declared.frame.Flow.TheVariants as flow
use Rattle.task_code.specs.Acts.{Ending, Gives, Fails, Act, gives, fails, bind, Calls, values_of}
use Rattle.task_compile.specs.States.{State, Given, locals_of}
use Rattle.task_compile.specs.Executions.{block_part}

-- a function's value: what it returned, or nil
abbrev pub body_ends : Ending Flow → State → Act ℕ Value
body_ends (Gives flow.Next) s = gives value.Nil s.turns
body_ends (Gives (flow.Returned v)) s = gives v s.turns
body_ends (Fails f) s = fails f s.turns

-- a function's locals begin with its parameters, which have the values of the arguments
abbrev pub function_act : Given → ℕ → Option Function → Arguments → List Value → ℕ → ℕ → Act ℕ Value
function_act given site None info args levels turns = fails NoOperator turns
function_act given site (Some f) info args levels turns =
    bind ((block_part given f.body).from site levels (record { turns = turns; locals = locals_of f.params (values_of f.params info args) }))
    body_ends

abbrev pub name_of : Function → List ℕ
name_of f = f.name

abbrev pub given_by : Script → ℕ → Calls → Given
given_by script limit calls =
    record { shared = script.shared; functions = map name_of script.functions; limit = limit; calls = calls }

-- the number of the first site of a function, and of a task
abbrev pub function_site : Script → ℕ → ℕ
function_site script f = get_or (function_starts script) f 0

abbrev pub task_site : Script → ℕ → ℕ
task_site script t = get_or (task_starts script) t 0

-- What the functions do, by recursion on a number that is not below the levels left: each call opens a level.
abbrev pub calls_of : Script → ℕ → ℕ → Calls
calls_of script limit zero f info args levels turns = fails Depth turns
calls_of script limit (suc more) f info args levels turns =
    function_act (given_by script limit (calls_of script limit more)) (function_site script f) (slice_get script.functions f)
    info args levels turns

abbrev pub body_act : Given → ℕ → Option Task → State → Act State Flow
body_act given site None s = gives flow.Next s
body_act given site (Some t) s = (block_part given t.body).from site 256 s

-- what the task of this number does with so many turns: 256 levels may be open at once, and `return` ends it
abbrev pub task_act : Script → ℕ → ℕ → ℕ → Act State Flow
task_act script t turns limit =
    body_act (given_by script limit (calls_of script limit 256)) (task_site script t) (slice_get script.tasks t)
    (record { turns = turns; locals = [] })
