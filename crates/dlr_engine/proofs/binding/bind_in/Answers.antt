use Rattle.std.proofs.Common.{List, sym, subst}
use Rattle.std.specs.Option.{option_copied}
use Rattle.meta_object.specs.declared.meta.MetaObject.{MetaObject}
use Rattle.meta_object.specs.Metas.{CanBind}
use Rattle.rule.specs.Rules.{IsBoundRule}
use Rattle.dlr_engine.proofs.BoundRules.{can_be_bound, rule_for}
use Rattle.dlr_engine.proofs.binding.bind_in.Goals as goal

pub bind-requires-clause-can : goal.bind-requires-clause-can
bind-requires-clause-can g c =
    let functions = g.L.Language.functions c.args.lang.now in let class = option_copied c.args.class in let table = c.args.cx.now.table.now in
    let pass = c.args.cx.now.pass.now in
    subst (λ (metas : List MetaObject). CanBind functions table pass c.args.binder.now metas) (sym c.as_slice.ensures.value)
    (c.operations_are_bound_by_their_metaobjects.ensures functions table pass c.args.binder.now c.args.operands.now class c.in_ok-metas.metas.items
    c.requires.bindable.number c.in_ok-metas.ensures c.requires.bindable.lent
    (can_be_bound functions table pass c.args.binder.now c.args.operands.now class c.requires.few c.requires.own c.requires.bindable))

pub returns-clause-rule : goal.returns-clause-rule
returns-clause-rule g c =
    let functions = g.L.Language.functions c.args.lang.now in let class = option_copied c.args.class in let metas = c.in_ok-metas.metas.items in
    let pass = c.bind.new.cx.pass.now in
    rule_for functions pass c.args.cx.now.table.now c.args.binder.now c.args.operands.now class metas c.in_ok-rule.rule c.requires.bindable
    c.in_ok-metas.ensures
    (λ number lent. c.metaobjects_describe_their_operands.ensures c.args.binder.now c.args.operands.now class metas number c.in_ok-metas.ensures lent)
    c.claim.ensures.sound (subst (λ (ms : List MetaObject). IsBoundRule functions pass c.args.binder.now ms c.in_ok-rule.rule)
    c.as_slice.ensures.value c.in_ok-rule.ensures.bound)
