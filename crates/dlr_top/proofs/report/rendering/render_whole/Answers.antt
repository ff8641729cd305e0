use Rattle.dlr_top.specs.Rendering.{journals_if, lines_text}
use Rattle.dlr_top.proofs.Lines.{both_ok}
use Rattle.dlr_top.proofs.report.rendering.render_whole.Goals as goal

pub returns-clause-appended : goal.returns-clause-appended
returns-clause-appended c =
    let lines = lines_text c.args.program.now c.args.report.now in
    let journals = journals_if c.args.options.now.journal c.args.program.now c.args.report.now in
    both_ok c.render_asked_journals.result _ _ _ lines journals c.in_ok-render_tasks.ensures.appended c.render_asked_journals.ensures.appended
