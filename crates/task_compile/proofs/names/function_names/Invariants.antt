use Rattle.std.proofs.Common.{◌≡◌, map, take}
use Rattle.task_compile.specs.Runs.{name_of}
use Rattle.task_compile.proofs.names.function_names.Given as goal

abbrev pub invariant-loop-function : goal.invariant-loop-function
invariant-loop-function l = l.names ≡ map name_of (take l.function-index l.functions)
