-- The metaobject more is that of its operand.
use Rattle.std.proofs.Common.{arith}
use Rattle.std.specs.Option.{option_copied}
use Rattle.std.proofs.lemmas.Grind.{common_steps}
use Rattle.fallback.proofs.TestMetas.{metas_more}
use Rattle.fallback.proofs.tests.metas.metas_of.Goals as goal

pub loop-place-preserved : goal.loop-place-preserved
loop-place-preserved c = record {
  count = grind (arith, common_steps);
  each = metas_more c.args.operands.now (option_copied c.args.class) c.loop-place.metas.items c.push.new.self.items c.loop-place.place c.index-operands-place.result c.in_ok-meta.meta
      c.loop-place.invariant.count c.loop-place.invariant.each c.in_ok-push.ensures.items c.index-operands-place.is c.in_ok-meta.ensures;
}
