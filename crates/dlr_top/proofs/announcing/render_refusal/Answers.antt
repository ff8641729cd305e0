use Rattle.std.proofs.Common.{◌++◌}
use Rattle.std.specs.Prelude.{codes}
use Rattle.dlr_top.specs.Refusals.{cause_text}
use Rattle.dlr_top.proofs.Lines.{both, both_ok}
use Rattle.dlr_top.proofs.announcing.render_refusal.Goals as goal

pub returns : goal.returns
returns c =
    both_ok c.put_ascii-2.result _ _ _ (codes "refused: " ++ cause_text c.args.cause) (codes "\n")
    (both _ _ _ (codes "refused: ") (cause_text c.args.cause) c.in_ok-put_ascii.ensures.appended c.in_ok-render_cause.ensures) c.put_ascii-2.ensures.appended
