use Rattle.std.proofs.Common.{◌≡◌, ◌+◌, length, take}
use Rattle.std.specs.Prelude.{min}
use Rattle.std.specs.List.{flat_map}
use Rattle.script_program.specs.Programs.{script_of}
use Rattle.dlr_engine.specs.Closing.{journals_in}
use Rattle.engine_tasks.specs.Lawful.{drawn_by}
use Rattle.dlr_top.proofs.report.journals.object_count_of.Given as goal

abbrev pub invariant-loop-end : goal.invariant-loop-end
invariant-loop-end l = l.count ≡ min (length (journals_in l.report.closed)) (length (script_of l.program).shared + length (flat_map drawn_by (take l.end-index l.report.tasks)))
