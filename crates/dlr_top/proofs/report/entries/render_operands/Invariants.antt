use Rattle.std.proofs.Common.{◌≡◌, ◌++◌, take}
use Rattle.std.specs.Prelude.{encode_utf8_all}
use Rattle.std.specs.List.{flat_map}
use Rattle.dlr_top.specs.Rendering.{operand_text}
use Rattle.dlr_top.proofs.report.entries.render_operands.Given as goal

abbrev pub invariant-loop-operand : goal.invariant-loop-operand
invariant-loop-operand l = l.out.items ≡ l.initial.out.items ++ encode_utf8_all (flat_map operand_text (take l.operand-index l.operands))
