use Rattle.std.proofs.Common.{◌≡◌, [], None, rules, sym, subst}
use Rattle.expando_class.specs.declared.table.ClassTable.{ClassTable}
use Rattle.meta_object.specs.Metas.{CanBind}
use Rattle.rule.specs.declared.rule.Rule.{Rule}
use Rattle.rule.specs.Rules.{IsBoundRule}
use Rattle.standard_binders.specs.declared.binder.Binder.{Binder}
use Rattle.standard_binders.specs.Functions.{Functions}
use Rattle.known_rules.specs.Guarding.{IsAdoptedIn}
use Rattle.known_rules.specs.Sums.{addition, two_and_three}
use Rattle.known_rules.proofs.SumsBound.{sum_adopted, sum_bindable, sum_lent}
use Rattle.known_rules.proofs.tests.bind_sum.Goals as goal

pub bind-requires-clause-can : goal.bind-requires-clause-can
bind-requires-clause-can g c =
    let table = c.args.cx.now.table.now in let pass = c.args.cx.now.pass.now in
    let metas = c.in_ok-metas.metas in
    let can : CanBind [] table pass addition metas =
    c.operations_are_bound_by_their_metaobjects.ensures [] table pass addition two_and_three None metas 0
    c.in_ok-metas.ensures sum_lent (sum_bindable table pass c.requires.pass) in
    subst (λ (functions : Functions). CanBind functions table pass c.args.binder.now metas) (sym c.requires.functions)
    (subst (λ (b : Binder). CanBind [] table pass b metas) (sym c.requires.binder) can)

pub returns-clause-adopted : goal.returns-clause-adopted
returns-clause-adopted g c =
    let pass = c.bind.new.cx.pass.now in let table = c.bind.new.cx.table.now in
    let metas = c.in_ok-metas.metas in let r = c.in_ok-rule.rule in let adopted = c.new.result.adopted in
    let bound : IsBoundRule [] pass addition metas r =
    subst (λ (functions : Functions). IsBoundRule functions pass addition metas r) c.requires.functions
    (subst (λ (b : Binder). IsBoundRule c.args.language.now.functions.params pass b metas r) c.requires.binder c.in_ok-rule.ensures.bound) in
    let same : table ≡ c.args.cx.now.table.now = search rules in
    subst (λ (t : ClassTable). IsAdoptedIn addition [] t c.new.result.rule adopted) same
    (subst (λ (k : Rule). IsAdoptedIn addition [] table k adopted) (sym c.new.ensures.rule)
    (sum_adopted table pass metas r adopted c.in_ok-metas.ensures bound (c.new.ensures.adopted [])))
