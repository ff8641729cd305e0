use Rattle.dlr_top.proofs.Lines.{both, both_ok}
use Rattle.dlr_top.proofs.report.rendering.render_line.Goals as goal

pub returns-clause-appended : goal.returns-clause-appended
returns-clause-appended c =
    both_ok c.put_ascii-2.result _ _ _ _ _
    (both _ _ _ _ _ (both _ _ _ _ _ c.in_ok-put_text.ensures.appended c.in_ok-put_ascii.ensures.appended) c.in_ok-put_text-2.ensures.appended)
    c.put_ascii-2.ensures.appended
