use Rattle.std.proofs.Common.{◌≡◌, ◌∙◌, ◌+◌, length, sym, subst, arith}
use Rattle.dlr_engine.specs.Passes.{ArePasses, number_of}
use Rattle.dlr_engine.proofs.PassMaking.{AreOthers, all_made, one_more, still_new}
use Rattle.dlr_engine.proofs.run.Run.passes_from.Goals as goal

pub loop-number-preserved : goal.loop-number-preserved
loop-number-preserved c =
    let inv = c.loop-number.invariant in let run = c.args.self.now in let ps = c.loop-number.passes.items in
    let p = c.in_ok-split.field-0 in let split = c.in_ok-split.ensures in
    let more = c.push_reserved.ensures.items in
    let number : number_of p ≡ length ps + 1 = split.number.0 ∙ inv.2 ∙ sym inv.5 in (
      split.own,
      split.untaken.number ∙ inv.1,
      split.made ∙ (omega (arith, inv.2)),
      still_new c.loop-number.first c.split.new.pass inv.3 split.untaken,
      subst (AreOthers run) (sym more) (one_more run ps p inv.4 (split.other, number, split.new)),
      omega (arith, inv.5, c.push_reserved.ensures.len),
      omega (arith, inv.6, c.push_reserved.ensures.capacity),
    )

pub returns-clause-passes : goal.returns-clause-passes
returns-clause-passes c =
    let inv = c.loop-number.invariant in let run = c.args.self.now in
    let last : c.loop-number._number ≡ run.passes = omega (arith, c.loop-number-test.false, c.loop-number.auto, run.some_passes) in
    subst (ArePasses run) (sym c.in_ok-insert.ensures.items)
    (all_made run c.loop-number.first c.loop-number.passes.items run.some_passes inv.0 inv.1 (inv.2 ∙ last) inv.3 (inv.5 ∙ last) inv.4)
