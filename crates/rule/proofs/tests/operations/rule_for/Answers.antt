-- What was asked for before suffices to bind.
use Rattle.std.proofs.Common.{List, sym, ◌∙◌, subst}
use Rattle.std.specs.Option.{option_copied}
use Rattle.expando_class.specs.Class.{number_of}
use Rattle.meta_object.specs.declared.meta.MetaObject.{MetaObject}
use Rattle.meta_object.specs.Metas.{CanBind}
use Rattle.rule.proofs.TestedOperands.{tested_can}
use Rattle.rule.proofs.tests.operations.rule_for.Goals as goal

pub bind-requires-clause-can : goal.bind-requires-clause-can
bind-requires-clause-can g c =
    let functions = c.args.language.now.functions.params in
    let b = c.args.binder.now in
    let table = c.args.cx.now.table.now in
    let pass = c.args.cx.now.pass.now in
    subst (λ (metas : List MetaObject). CanBind functions table pass b metas) (sym c.deref.ensures.value)
    (tested_can functions table pass b c.args.operands.now c.args.class.now (option_copied c.lent.result) c.in_ok-metas.metas.items (number_of c.args.class.now)
    c.in_ok-metas.ensures c.lent.ensures.lent (sym c.if-not-has_key.ensures) (c.if-operands-operand_count.false ∙ c.operand_count.ensures) c.requires.pass c.lent.ensures.class c.requires.class (sym c.if-not-are_callable.ensures))
