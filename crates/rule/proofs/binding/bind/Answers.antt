-- The rule has the bound's parts, and its test is true where the bound's restrictions hold.
use Rattle.std.proofs.Common.{List, sym, ◌∙◌, ap, subst}
use Rattle.restrictions.specs.declared.restriction.Restriction.{Restriction}
use Rattle.restrictions.specs.Meanings.{all_hold}
use Rattle.rule_model.specs.declared.claim.Claim.{Claim}
use Rattle.meta_object.specs.Bindings.{IsClaimed}
use Rattle.rule.proofs.binding.bind.Goals as goal

pub returns-clause-bound : goal.returns-clause-bound
returns-clause-bound g c =
    let rule = c.in_ok-rule.ensures in
    let bound = c.in_ok-bound.ensures in
    record {
      binder_is = rule.binder ∙ c.in_ok-copy.ensures;
      tests = λ operands class. rule.test operands class ∙ ap (λ (rs : List Restriction). all_hold rs operands class) bound.tests;
      passing = λ operands class described. rule.test operands class ∙ bound.bound.passing operands class described;
      holds = subst (λ (claim : Claim). IsClaimed (g.L.Language.functions c.args.lang.now) c.bound_for.new.cx.pass.now c.args.metas.now claim) (sym rule.claim) bound.bound.holds;
    }
