use Rattle.std.specs.Option.{option_copied}
use Rattle.rule.proofs.TestedOperands.{one_more}
use Rattle.rule.proofs.tests.operations.metas_of.Goals as goal

pub loop-number-preserved : goal.loop-number-preserved
loop-number-preserved c =
    one_more c.args.operands.now (option_copied c.args.class) c.loop-number.metas.items c.push.new.self.items c.loop-number.number c.index-operands-number.result c.in_ok-meta.meta
    (option_copied c.lent_to.result) c.loop-number-test.true c.index-operands-number.is c.loop-number.invariant c.in_ok-push.ensures.items c.lent_to.ensures c.in_ok-meta.ensures
