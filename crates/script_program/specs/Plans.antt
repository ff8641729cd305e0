-- What the operations of a program's tasks are made by.
use Rattle.task_code.specs.Codes.{Plan}
use Rattle.script_program.specs.declared.program.Program.{Program}
use Rattle.script_program.specs.Programs.{binders_of, functions_of, sites_of}

abbrev pub plan_of : Program → Plan
plan_of p = record { binders = binders_of p; sites = sites_of p; functions = functions_of p }
