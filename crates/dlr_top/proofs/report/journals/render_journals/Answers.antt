use Rattle.std.proofs.Common.{◌++◌, ◌∙◌, ap}
use Rattle.std.specs.Prelude.{encode_utf8_all}
use Rattle.std.specs.List.{flat_map, range_with_len}
use Rattle.dlr_top.specs.Rendering.{object_text}
use Rattle.dlr_top.proofs.Lines.{numbers_more, numbers_whole, refused_here}
use Rattle.dlr_top.proofs.report.journals.render_journals.Goals as goal

pub loop-object-preserved : goal.loop-object-preserved
loop-object-preserved c =
    numbers_more (object_text c.args.program.now c.args.report.now) c.object_count_of-count.result c.loop-object.object c.args.out.now.items c.loop-object.out.items c.render_object.new.out.items
    c.loop-object-test.true c.loop-object.invariant c.in_ok-render_object.ensures.appended

pub returns-clause-appended : goal.returns-clause-appended
returns-clause-appended c =
    let f = object_text c.args.program.now c.args.report.now in
    numbers_whole f c.object_count_of-count.result c.loop-object.object c.args.out.now.items c.loop-object.out.items c.loop-object-test.false c.loop-object.invariant
    ∙ ap (λ z. c.args.out.now.items ++ encode_utf8_all (flat_map f (range_with_len 0 z))) c.object_count_of-count.ensures.count

pub returns-in_err-render_object-clause-begins : goal.returns-in_err-render_object-clause-begins
returns-in_err-render_object-clause-begins c =
    refused_here c.from_residual.result c.args.out.now.items c.loop-object.out.items c.render_object.new.out.items _
    c.loop-object.invariant c.in_err-render_object.ensures.begins
