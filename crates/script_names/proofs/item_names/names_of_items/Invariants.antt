use Rattle.std.proofs.Common.{◌≡◌, ◌++◌, take, map}
use Rattle.script_names.specs.Scripts.{function_name, task_name}
use Rattle.script_names.proofs.item_names.names_of_items.Given as goal

abbrev pub invariant-loop-name : goal.invariant-loop-name
invariant-loop-name l = record { all : l.all ≡ take l.name-index l.name-items; values : l.values ≡ take l.name-index l.name-items }

abbrev pub invariant-loop-function : goal.invariant-loop-function
invariant-loop-function l = record {
  all : l.all ≡ l.initial.all ++ map function_name (take l.function-index l.function-items);
  values : l.values ≡ l.initial.values ++ map function_name (take l.function-index l.function-items);
}

abbrev pub invariant-loop-task : goal.invariant-loop-task
invariant-loop-task l = l.all ≡ l.initial.all ++ map task_name (take l.task-index l.task-items)
