use Rattle.std.proofs.Common.{◌≡◌, ◌∙◌, [], List, sym, ap, subst}
use Rattle.std.specs.Prelude.{IsTrue}
use Rattle.expr_tree.specs.declared.node.Node.{Node}
use Rattle.expr_tree.specs.Meanings.{IsThere, answer_in, is_plain}
use Rattle.expr_tree.specs.Trees.{root}
use Rattle.object_model.specs.Plain.{plain_step}
use Rattle.dlr_engine.specs.Minds.{classes_in}
use Rattle.dlr_engine.proofs.BoundRules.{bindable_plain, plain_answer, plain_plain, plain_there}
use Rattle.dlr_engine.proofs.PlainAnswers.{is_plain_outcome}
use Rattle.dlr_engine.proofs.plain.bound_outcome.Goals as goal

pub bind-requires-clause-bindable : goal.bind-requires-clause-bindable
bind-requires-clause-bindable g c =
    bindable_plain (g.L.Language.functions c.args.lang.now) c.args.table.now c.args.binder.now c.args.operands.now c.requires.proper.0
    c.requires.short_names c.requires.suit c.requires.proper.1
    c.requires.none

pub eval_plain-requires-clause-there : goal.eval_plain-requires-clause-there
eval_plain-requires-clause-there g c =
    subst (λ (body : List Node). IsThere c.args.operands.now [] (root body)) (sym c.body.ensures)
    (plain_there (g.L.Language.functions c.args.lang.now) (classes_in c.bind.new.self) c.args.binder.now c.args.operands.now c.in_ok-bound.bound.rule
    c.in_ok-bound.ensures.rule c.requires.none c.requires.suit)

pub eval_plain-requires-clause-plain : goal.eval_plain-requires-clause-plain
eval_plain-requires-clause-plain g c =
    subst (λ (body : List Node). IsTrue (is_plain (root body))) (sym c.body.ensures)
    (plain_plain (g.L.Language.functions c.args.lang.now) (classes_in c.bind.new.self) c.args.binder.now c.args.operands.now c.in_ok-bound.bound.rule
    c.in_ok-bound.ensures.rule c.requires.none c.requires.suit)

pub returns-clause-outcome : goal.returns-clause-outcome
returns-clause-outcome g c =
    let functions = g.L.Language.functions c.args.lang.now in let b = c.args.binder.now in let operands = c.args.operands.now in
    let is : c.in_ok-outcome.outcome ≡ plain_step functions b operands =
    plain_answer functions (classes_in c.bind.new.self) b operands c.in_ok-bound.bound.rule c.in_ok-outcome.outcome
    c.in_ok-bound.ensures.rule c.requires.none
    c.requires.suit (λ s. c.in_ok-outcome.ensures s ∙ ap (λ (body : List Node). answer_in operands s (root body)) c.body.ensures) in
    is_plain_outcome functions c.requires.proper.0 b operands c.in_ok-outcome.outcome c.requires.short_names c.requires.proper.1 is
    c.show_proper_content.ensures
