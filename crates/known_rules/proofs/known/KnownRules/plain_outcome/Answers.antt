use Rattle.std.proofs.Common.{◌≡◌, IfOk, sym, subst}
use Rattle.object_model.specs.Plain.{plain_step}
use Rattle.rule.specs.declared.rule.Rule.{Rule}
use Rattle.rule.specs.Rules.{claim_of}
use Rattle.rule_model.specs.Claims.{FunHolds}
use Rattle.standard_binders.specs.declared.binder.Binder.{Binder}
use Rattle.known_rules.specs.Guarding.{Passes}
use Rattle.known_rules.specs.Knowledge.{setting_of}
use Rattle.known_rules.proofs.known.KnownRules.plain_outcome.Goals as goal

pub plain_outcome-requires-clause-claim : goal.plain_outcome-requires-clause-claim
plain_outcome-requires-clause-claim c =
    let functions = (setting_of c.args.self.now).functions in let k = c.requires.chosen.1.1 in (
      functions,
      subst (λ (r : Rule). FunHolds (claim_of r) functions) (sym (c.show.ensures.rule k.0 k.1.0 k.1.1.0))
          (c.note.ensures.adopted k.0 k.1.0 k.1.1.0).1.fun,
    )

pub plain_outcome-requires-clause-passes : goal.plain_outcome-requires-clause-passes
plain_outcome-requires-clause-passes c =
    let class = c.requires.chosen.0 in let k = c.requires.chosen.1.1 in
    (class, subst (Passes c.args.operands.now class) (sym (c.show.ensures.rule k.0 k.1.0 k.1.1.0)) k.1.1.1)

pub returns : goal.returns
returns c =
    let functions = (setting_of c.args.self.now).functions in let k = c.requires.chosen.1.1 in
    let fun : FunHolds (claim_of c.show.result.now) functions =
    subst (λ (r : Rule). FunHolds (claim_of r) functions) (sym (c.show.ensures.rule k.0 k.1.0 k.1.1.0))
    (c.note.ensures.adopted k.0 k.1.0 k.1.1.0).1.fun in
    subst (λ (b : Binder). IfOk c.plain_outcome.result (λ o. o ≡ plain_step functions b c.args.operands.now)) c.show.ensures.binder
    (c.plain_outcome.ensures functions fun)
