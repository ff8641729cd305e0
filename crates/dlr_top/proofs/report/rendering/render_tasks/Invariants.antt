use Rattle.std.proofs.Common.{◌≡◌, ◌++◌, take}
use Rattle.std.specs.Prelude.{encode_utf8_all}
use Rattle.dlr_top.specs.Rendering.{tasks_text}
use Rattle.script_program.specs.Programs.{script_of}
use Rattle.dlr_top.proofs.report.rendering.render_tasks.Given as goal

abbrev pub invariant-loop-at : goal.invariant-loop-at
invariant-loop-at l = l.out.items ≡ l.initial.out.items ++ encode_utf8_all (tasks_text (take l.at (script_of l.program).tasks) (take l.at l.report.tasks))
