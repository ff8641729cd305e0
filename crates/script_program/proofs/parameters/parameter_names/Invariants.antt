use Rattle.std.proofs.Common.{◌≡◌, map, take}
use Rattle.script_program.specs.Programs.{params_of}
use Rattle.script_program.proofs.parameters.parameter_names.Given as goal

abbrev pub invariant-loop-function : goal.invariant-loop-function
invariant-loop-function l = l.all ≡ map params_of (take l.function-index l.functions)
