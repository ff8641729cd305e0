use Rattle.std.proofs.Common.{◌≡◌, [], Some, rules, sym, subst}
use Rattle.expando_class.specs.declared.table.ClassTable.{ClassTable}
use Rattle.expando_class.specs.Class.{number_of}
use Rattle.meta_object.specs.Metas.{CanBind}
use Rattle.rule.specs.declared.rule.Rule.{Rule}
use Rattle.rule.specs.Rules.{IsBoundRule}
use Rattle.standard_binders.specs.declared.binder.Binder.{Binder}
use Rattle.standard_binders.specs.declared.binder.Binder.TheVariants.{SetIndex}
use Rattle.standard_binders.specs.Functions.{Functions}
use Rattle.known_rules.specs.Guarding.{IsAdoptedIn}
use Rattle.known_rules.specs.Writes.{write}
use Rattle.known_rules.proofs.WritesBound.{write_adopted, write_bindable, write_lent}
use Rattle.known_rules.proofs.tests.bind_write.Goals as goal

pub bind-requires-clause-can : goal.bind-requires-clause-can
bind-requires-clause-can g c =
    let table = c.args.cx.now.table.now in let pass = c.args.cx.now.pass.now in let key = c.args.key.now in let class = c.args.class.now in
    let metas = c.in_ok-metas.metas in
    let can : CanBind [] table pass SetIndex metas =
    c.operations_are_bound_by_their_metaobjects.ensures [] table pass SetIndex (write key) (Some class) metas (number_of class)
    c.in_ok-metas.ensures (write_lent key class) (write_bindable key table pass class c.requires.key c.requires.pass c.requires.class) in
    subst (λ (functions : Functions). CanBind functions table pass c.args.binder.now metas) (sym c.requires.functions)
    (subst (λ (b : Binder). CanBind [] table pass b metas) (sym c.requires.binder) can)

pub returns-clause-adopted : goal.returns-clause-adopted
returns-clause-adopted g c =
    let pass = c.bind.new.cx.pass.now in let table = c.bind.new.cx.table.now in let key = c.args.key.now in let class = c.args.class.now in
    let metas = c.in_ok-metas.metas in let r = c.in_ok-rule.rule in let adopted = c.new.result.adopted in
    let bound : IsBoundRule [] pass SetIndex metas r =
    subst (λ (functions : Functions). IsBoundRule functions pass SetIndex metas r) c.requires.functions
    (subst (λ (b : Binder). IsBoundRule c.args.language.now.functions.params pass b metas r) c.requires.binder c.in_ok-rule.ensures.bound) in
    let same : table ≡ c.args.cx.now.table.now = search rules in
    subst (λ (t : ClassTable). IsAdoptedIn SetIndex [] t c.new.result.rule adopted) same
    (subst (λ (k : Rule). IsAdoptedIn SetIndex [] table k adopted) (sym c.new.ensures.rule)
    (write_adopted table pass class key metas r adopted c.in_ok-metas.ensures bound (c.new.ensures.adopted [])))
