use Rattle.std.proofs.Common.{◌≡◌, ◌++◌, take}
use Rattle.std.specs.Prelude.{encode_utf8_all}
use Rattle.std.specs.List.{flat_map}
use Rattle.dlr_top.specs.Rendering.{line_text}
use Rattle.dlr_top.proofs.report.rendering.render_task.Given as goal

abbrev pub invariant-loop-line : goal.invariant-loop-line
invariant-loop-line l = l.out.items ≡ l.initial.out.items ++ encode_utf8_all (flat_map (line_text l.task.name) (take l.line-index l.line-items))
