use Rattle.std.proofs.Common.{◌∙◌, ℕ, Some, ap, subst}
use Rattle.expando_class.specs.Class.{number_of}
use Rattle.expando_object.specs.State.{class_in}
use Rattle.known_rules.specs.Knowledge.{IsChosen, rules_in}
use Rattle.dlr_engine.proofs.making.choose_and_make.Goals as goal

pub make_known-requires-clause-chosen : goal.make_known-requires-clause-chosen
make_known-requires-clause-chosen g c =
    subst (λ (n : ℕ). IsChosen (rules_in c.choose-chosen.new.known) c.args.operation.now.operands.now n (Some c.in-Some.index))
    (c.number-class.ensures ∙ ap number_of (c.class.ensures.class ∙ ap class_in c.state.ensures.state)) c.in-Some.ensures.chosen

pub returns-in_ok-made-in-Some-clause-chosen : goal.returns-in_ok-made-in-Some-clause-chosen
returns-in_ok-made-in-Some-clause-chosen g c = (
  c.in-Some.index,
  subst (λ (n : ℕ). IsChosen (rules_in c.choose-chosen.new.known) c.args.operation.now.operands.now n (Some c.in-Some.index))
      (c.number-class.ensures ∙ ap number_of (c.class.ensures.class ∙ ap class_in c.state.ensures.state)) c.in-Some.ensures.chosen,
)
