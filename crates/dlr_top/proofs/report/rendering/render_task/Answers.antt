use Rattle.std.proofs.Common.{◌≡◌, ◌++◌, subst}
use Rattle.std.specs.Prelude.{encode_utf8_all}
use Rattle.std.specs.List.{flat_map}
use Rattle.std.proofs.lemmas.Result.{on_ok_weaker}
use Rattle.dlr_top.specs.Rendering.{line_text, ended_text}
use Rattle.dlr_top.proofs.Lines.{both, row_more, row_whole, refused_here, refused_after}
use Rattle.dlr_top.proofs.report.rendering.render_task.Goals as goal

pub loop-line-preserved : goal.loop-line-preserved
loop-line-preserved c =
    row_more (line_text c.args.task.now.name) c.as_slice-line-items.result.now c.loop-line.line-index c.line-item.result c.args.out.now.items c.loop-line.out.items c.render_line.new.out.items
    c.loop-line-test.true c.line-item.is c.loop-line.invariant c.in_ok-render_line.ensures.appended

pub returns-clause-appended : goal.returns-clause-appended
returns-clause-appended c =
    let f = line_text c.args.task.now.name in
    let lines = row_whole f c.as_slice-line-items.result.now c.loop-line.line-index c.args.out.now.items c.loop-line.out.items c.loop-line-test.false c.loop-line.invariant in
    let lines' = subst (λ z. c.loop-line.out.items ≡ c.args.out.now.items ++ encode_utf8_all (flat_map f z)) c.as_slice-line-items.ensures lines in
    on_ok_weaker c.render_ended.result (λ h. both c.args.out.now.items c.loop-line.out.items c.render_ended.new.out.items (flat_map f c.args.end.now.lines) (ended_text c.args.task.now.name c.args.end.now.ended) lines' h) c.render_ended.ensures.appended

pub returns-in_err-render_line-clause-begins : goal.returns-in_err-render_line-clause-begins
returns-in_err-render_line-clause-begins c =
    refused_here c.from_residual.result c.args.out.now.items c.loop-line.out.items c.render_line.new.out.items _
    c.loop-line.invariant c.in_err-render_line.ensures.begins

pub returns-clause-begins : goal.returns-clause-begins
returns-clause-begins c =
    refused_after c.render_ended.result c.args.out.now.items c.loop-line.out.items c.render_ended.new.out.items _
    c.loop-line.invariant c.render_ended.ensures.begins
