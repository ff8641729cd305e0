use Rattle.dlr_top.specs.Rendering.{entry_text}
use Rattle.dlr_top.proofs.Lines.{row_more, refused_here}
use Rattle.dlr_top.proofs.report.journals.render_entries.Goals as goal

pub loop-entry-preserved : goal.loop-entry-preserved
loop-entry-preserved c =
    row_more (entry_text c.args.program.now) c.args.journal.now c.loop-entry.entry-index c.entry-item.result c.args.out.now.items c.loop-entry.out.items c.render_entry.new.out.items
    c.loop-entry-test.true c.entry-item.is c.loop-entry.invariant c.in_ok-render_entry.ensures.appended

pub returns-in_err-render_entry-clause-begins : goal.returns-in_err-render_entry-clause-begins
returns-in_err-render_entry-clause-begins c =
    refused_here c.from_residual.result c.args.out.now.items c.loop-entry.out.items c.render_entry.new.out.items _
    c.loop-entry.invariant c.in_err-render_entry.ensures.begins
