use Rattle.std.proofs.Common.{◌≡◌, ◌++◌, take}
use Rattle.std.specs.Prelude.{encode_utf8_all}
use Rattle.std.specs.List.{flat_map}
use Rattle.dlr_top.proofs.Lines.{later_text}
use Rattle.dlr_top.proofs.report.journals.render_members.Given as goal

abbrev pub invariant-loop-member : goal.invariant-loop-member
invariant-loop-member l = l.out.items ≡ l.initial.out.items ++ encode_utf8_all (flat_map later_text (take l.member-index l.others))
