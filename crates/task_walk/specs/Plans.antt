-- The plan of code.
use Rattle.std.specs.Prelude.{ℕ, List, map}
use Rattle.task_code.specs.declared.code.FunctionCode.{FunctionCode}
use Rattle.task_code.specs.Codes.{Plan}
use Rattle.task_walk.specs.declared.code.Code.{Code}

abbrev pub params_in : FunctionCode → List (List ℕ)
params_in f = f.params

-- what operations are made by: the code's binders, the number of each site's binder, and the functions' parameters
abbrev pub plan_of : Code → Plan
plan_of code =
    record { binders = code.binders.now; sites = code.sites.now; functions = map params_in code.functions.now }
