use Rattle.std.proofs.Common.{◌∙◌, List, [], ◌∷◌, ◌++◌, ap, arith, length-append}
use Rattle.object_history.specs.declared.object_row.ObjectRow.{ObjectRow}
use Rattle.turn_rows.specs.declared.view.Log.{Log}
use Rattle.turn_rows.specs.Passes.{logs_of}
use Rattle.dlr_engine.specs.declared.answer.Levels.{Levels}
use Rattle.dlr_engine.specs.declared.pass.Drawn.{Drawn}
use Rattle.dlr_engine.specs.Levels.{added}
use Rattle.dlr_engine.specs.Passes.{drawn_of, levels_of, log_in}
use Rattle.dlr_engine.proofs.LevelSums.{levels_more}
use Rattle.dlr_engine.proofs.Pushes.{pushed}
use Rattle.dlr_engine.proofs.gathered.Gathered.add_all.Goals as goal

pub loop-pass-preserved : goal.loop-pass-preserved
loop-pass-preserved c =
    let inv = c.loop-pass.invariant in let before = c.args.self.now in let ps = c.loop-pass.yielded in let p = c.in-Some.pass in let more = c.add.ensures in (
      more.own,
      more.logs ∙ ap (λ (cs : List (Log ObjectRow)). cs ++ log_in p ∷ []) inv.1 ∙ pushed log_in (logs_of before.rows) ps p,
      more.drawn ∙ ap (λ (ds : List (List Drawn)). ds ++ drawn_of p ∷ []) inv.2 ∙ pushed drawn_of before.drawn.items ps p,
      more.levels ∙ ap (λ (l : Levels). added l (levels_of p)) inv.3 ∙ levels_more before.levels ps p,
      omega (arith, more.total, inv.4, length-append ps (p ∷ [])),
      more.room ∙ inv.5,
    )
