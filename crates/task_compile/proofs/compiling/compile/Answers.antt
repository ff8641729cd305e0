use Rattle.std.proofs.Common.{◌≡◌, ◌∙◌, length, sym, ap}
use Rattle.task_compile.proofs.ScriptForms.{functions_at, functions_runnable, same_count, same_params, tasks_at, tasks_do, tasks_runnable}
use Rattle.task_compile.proofs.WrittenItems.{starts_of_each_function, starts_of_each_task}
use Rattle.task_compile.specs.CompiledScripts.{items_of}
use Rattle.script_sites.specs.Sites.{function_starts, task_starts}
use Rattle.task_compile.proofs.compiling.compile.Goals as goal

pub compile_functions-requires : goal.compile_functions-requires
compile_functions-requires c = ap length c.as_slice-2.ensures ∙ ap length c.requires.functions ∙ starts_of_each_function c.args.script.now c.requires.written ∙ sym (ap length c.as_slice.ensures)

pub compile_tasks-requires : goal.compile_tasks-requires
compile_tasks-requires c = ap length c.as_slice-4.ensures ∙ ap length c.requires.tasks ∙ starts_of_each_task c.args.script.now c.requires.written ∙ sym (ap length c.as_slice-3.ensures)

pub returns-clause-count : goal.returns-clause-count
returns-clause-count c =
    same_count (items_of c.args.script.now) (task_starts c.args.script.now) c.args.script.now.tasks c.in_ok-tasks.tasks
    (tasks_at c.args.script.now c.compile_functions.new.scope.items c.as_slice-4.result.now c.as_slice-3.result.now c.in_ok-tasks.tasks (c.in_ok-functions.ensures.items ∙ c.in_ok-item_names.ensures) (c.as_slice-4.ensures ∙ c.requires.tasks) c.as_slice-3.ensures c.in_ok-tasks.ensures.code)

pub returns-clause-params : goal.returns-clause-params
returns-clause-params c =
    same_params (items_of c.args.script.now) (function_starts c.args.script.now) c.args.script.now.functions c.in_ok-functions.functions
    (functions_at c.args.script.now c.in_ok-item_names.field-0 c.as_slice-2.result.now c.as_slice.result.now c.in_ok-functions.functions c.in_ok-item_names.ensures (c.as_slice-2.ensures ∙ c.requires.functions) c.as_slice.ensures c.in_ok-functions.ensures.code)

pub returns-clause-functions : goal.returns-clause-functions
returns-clause-functions c =
    functions_runnable c.args.script.now c.args.numbering.now c.requires.written c.requires.limits c.requires.numbering c.bodies_have_their_sites.ensures.functions c.in_ok-functions.functions
    (functions_at c.args.script.now c.in_ok-item_names.field-0 c.as_slice-2.result.now c.as_slice.result.now c.in_ok-functions.functions c.in_ok-item_names.ensures (c.as_slice-2.ensures ∙ c.requires.functions) c.as_slice.ensures c.in_ok-functions.ensures.code)

pub returns-clause-tasks : goal.returns-clause-tasks
returns-clause-tasks c =
    tasks_runnable c.args.script.now c.args.numbering.now c.requires.written c.requires.limits c.requires.numbering c.bodies_have_their_sites.ensures.tasks c.in_ok-tasks.tasks
    (tasks_at c.args.script.now c.compile_functions.new.scope.items c.as_slice-4.result.now c.as_slice-3.result.now c.in_ok-tasks.tasks (c.in_ok-functions.ensures.items ∙ c.in_ok-item_names.ensures) (c.as_slice-4.ensures ∙ c.requires.tasks) c.as_slice-3.ensures c.in_ok-tasks.ensures.code)

pub returns-clause-runs : goal.returns-clause-runs
returns-clause-runs c =
    tasks_do c.args.script.now c.args.numbering.now c.requires.written c.requires.limits c.requires.numbering c.bodies_have_their_sites.ensures.functions c.bodies_have_their_sites.ensures.tasks
    (record { functions = c.in_ok-functions.functions; tasks = c.in_ok-tasks.tasks })
    (functions_at c.args.script.now c.in_ok-item_names.field-0 c.as_slice-2.result.now c.as_slice.result.now c.in_ok-functions.functions c.in_ok-item_names.ensures (c.as_slice-2.ensures ∙ c.requires.functions) c.as_slice.ensures c.in_ok-functions.ensures.code)
    (tasks_at c.args.script.now c.compile_functions.new.scope.items c.as_slice-4.result.now c.as_slice-3.result.now c.in_ok-tasks.tasks (c.in_ok-functions.ensures.items ∙ c.in_ok-item_names.ensures) (c.as_slice-4.ensures ∙ c.requires.tasks) c.as_slice-3.ensures c.in_ok-tasks.ensures.code)
