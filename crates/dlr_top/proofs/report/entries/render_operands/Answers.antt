use Rattle.dlr_top.specs.Rendering.{operand_text}
use Rattle.dlr_top.proofs.Lines.{row_more, refused_here}
use Rattle.dlr_top.proofs.report.entries.render_operands.Goals as goal

pub loop-operand-preserved : goal.loop-operand-preserved
loop-operand-preserved c =
    row_more operand_text c.args.operands.now c.loop-operand.operand-index c.operand-item.result c.args.out.now.items c.loop-operand.out.items c.render_operand.new.out.items
    c.loop-operand-test.true c.operand-item.is c.loop-operand.invariant c.in_ok-render_operand.ensures.appended

pub returns-in_err-render_operand-clause-begins : goal.returns-in_err-render_operand-clause-begins
returns-in_err-render_operand-clause-begins c =
    refused_here c.from_residual.result c.args.out.now.items c.loop-operand.out.items c.render_operand.new.out.items _
    c.loop-operand.invariant c.in_err-render_operand.ensures.begins
