use Rattle.std.proofs.Common.{◌≡◌, ◌++◌, take}
use Rattle.std.specs.Prelude.{encode_utf8_all}
use Rattle.std.specs.List.{flat_map, range_with_len}
use Rattle.dlr_top.specs.Rendering.{object_text}
use Rattle.dlr_top.proofs.report.journals.render_journals.Given as goal

abbrev pub invariant-loop-object : goal.invariant-loop-object
invariant-loop-object l = l.out.items ≡ l.initial.out.items ++ encode_utf8_all (flat_map (object_text l.program l.report) (take l.object (range_with_len 0 l.count)))
