use Rattle.std.proofs.Common.{◌∙◌, ap, length, rules}
use Rattle.std.proofs.lemmas.List.Elements.{All-push, All-same}
use Rattle.class_bench.specs.Growths.{IsGrowthOf}
use Rattle.class_bench.proofs.growth.grown.Goals as goal

pub loop-number-preserved : goal.loop-number-preserved
loop-number-preserved g c = (
  c.in_ok-last_of_kind.ensures.pass,
  All-same (IsGrowthOf c.args.table.now) _ _ c.push_reserved.ensures.items
      (All-push (IsGrowthOf c.args.table.now) _ _ c.loop-number.invariant.1 c.in_ok-last_of_kind.ensures.growth),
  ap length c.push_reserved.ensures.items ∙ search rules,
  search rules,
)
