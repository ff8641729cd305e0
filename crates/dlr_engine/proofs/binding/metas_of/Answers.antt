use Rattle.std.proofs.Common.{Option, arith, subst}
use Rattle.std.specs.Option.{option_copied}
use Rattle.expando_class.specs.declared.class.ClassRef.{ClassRef}
use Rattle.meta_object.specs.Metas.{IsMetaOf}
use Rattle.dlr_engine.proofs.BoundRules.{all_metas, metas_more, no_metas}
use Rattle.dlr_engine.proofs.binding.metas_of.Goals as goal

pub loop-number-init : goal.loop-number-init
loop-number-init c = no_metas (option_copied c.args.class) c.in_ok-metas.metas.items c.in_ok-metas.ensures.items

pub loop-number-preserved : goal.loop-number-preserved
loop-number-preserved c =
    metas_more c.args.operands.now (option_copied c.args.class) c.loop-number.metas.items c.push.new.self.items c.loop-number.number
    c.index-operands-number.result c.in_ok-meta.meta
    (omega arith) c.index-operands-number.is c.loop-number.invariant
    (subst (λ (class : Option ClassRef). IsMetaOf c.loop-number.number c.index-operands-number.result class c.in_ok-meta.meta) c.lent_to.ensures
    c.in_ok-meta.ensures) c.in_ok-push.ensures.items

pub returns : goal.returns
returns c = all_metas c.args.operands.now (option_copied c.args.class) c.loop-number.metas.items c.loop-number.number (omega arith) c.loop-number.invariant
