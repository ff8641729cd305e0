use Rattle.std.proofs.Common.{ℕ, Some, subst}
use Rattle.known_rules.specs.Knowledge.{IsChosen, rules_in}
use Rattle.known_rules.proofs.tests.found.Goals as goal

pub fitting-fitting-requires-clause-chosen : goal.fitting-fitting-requires-clause-chosen
fitting-fitting-requires-clause-chosen c =
    subst (λ (number : ℕ). IsChosen (rules_in c.find.new.self) c.args.operands.now number (Some c.in_ok-index.index)) c.number.ensures
    c.in_ok-index.ensures.chosen
