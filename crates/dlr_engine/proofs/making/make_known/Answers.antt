use Rattle.std.proofs.Common.{◌∙◌, ℕ, Some, sym, ap, subst}
use Rattle.expando_class.specs.Class.{number_of}
use Rattle.expando_object.specs.State.{class_in}
use Rattle.known_rules.specs.Knowledge.{IsChosen, rules_in}
use Rattle.dlr_engine.proofs.making.make_known.Goals as goal

pub fitting-after-requires-clause-chosen : goal.fitting-after-requires-clause-chosen
fitting-after-requires-clause-chosen c =
    subst (λ (n : ℕ). IsChosen (rules_in c.args.known.now) c.args.operation.now.operands.now n (Some c.args.index))
    (sym (ap number_of (c.class.ensures.class ∙ ap class_in c.state.ensures.state))) c.requires.chosen
