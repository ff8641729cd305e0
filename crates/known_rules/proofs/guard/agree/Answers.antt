use Rattle.std.proofs.Common.{◌≡◌, Option, rules, subst, sym}
use Rattle.expando_class.specs.declared.class.ClassRef.{ClassRef}
use Rattle.known_rules.specs.Guarding.{FitsClass}
use Rattle.known_rules.proofs.Fit.{fits_class}
use Rattle.known_rules.proofs.guard.agree.Goals as goal

pub returns-clause-fits : goal.returns-clause-fits
returns-clause-fits c =
    let r = c.args.rule.now in let operands = c.args.operands.now in let class = c.args.class.now in let table = c.args.table.now in
    let after : c.copied.result ≡ c.args.adopted.now.after = search rules in
    subst (λ (k : Option ClassRef). FitsClass r operands table class k) (sym after)
    (fits_class r c.requires.adopted.0 table c.args.adopted.now operands class c.claim.ensures.sound c.requires.adopted.1
    c.requires.passes c.show_same_names.ensures)
