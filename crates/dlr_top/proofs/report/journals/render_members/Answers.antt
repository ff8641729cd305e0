use Rattle.std.proofs.Common.{◌++◌, ◌-◌, length, take, drop, ◌∙◌, ap, sym}
use Rattle.std.specs.Prelude.{codes, encode_utf8_all}
use Rattle.std.specs.List.{flat_map}
use Rattle.dlr_top.specs.Rendering.{member_text}
use Rattle.dlr_top.proofs.Lines.{both, row_more, row_whole, later_text, first_and_rest}
use Rattle.dlr_top.proofs.report.journals.render_members.Goals as goal

pub loop-member-preserved : goal.loop-member-preserved
loop-member-preserved c =
    let others = take (length c.args.members.now - 1) (drop 1 c.args.members.now) in
    row_more later_text others c.loop-member.member-index c.member-item.result c.render_member.new.out.items c.loop-member.out.items c.render_member-in-loop-member.new.out.items
    c.loop-member-test.true c.member-item.is c.loop-member.invariant
    (both c.loop-member.out.items c.put_ascii.new.out.items c.render_member-in-loop-member.new.out.items (codes ",") (member_text c.member-item.result) c.in_ok-put_ascii.ensures.appended c.in_ok-render_member-2.ensures.appended)

pub returns-clause-appended : goal.returns-clause-appended
returns-clause-appended c =
    let ms = c.args.members.now in
    let others = take (length ms - 1) (drop 1 ms) in
    let rest = row_whole later_text others c.loop-member.member-index c.render_member.new.out.items c.loop-member.out.items c.loop-member-test.false c.loop-member.invariant in
    both c.args.out.now.items c.render_member.new.out.items c.loop-member.out.items (member_text c.first-item.result) (flat_map later_text others) c.in_ok-render_member.ensures.appended rest
    ∙ ap (λ z. c.args.out.now.items ++ encode_utf8_all z) (sym (first_and_rest ms c.first-item.result c.in-len1-up.len_at_least c.first-item.is))
