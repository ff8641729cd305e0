use Rattle.std.proofs.Common.{sym, subst}
use Rattle.expando_class.specs.declared.table.ClassTable.{ClassTable}
use Rattle.expando_class.specs.Class.{number_of}
use Rattle.rule.specs.declared.rule.Rule.{Rule}
use Rattle.rule.specs.Claimed.{IsAdopted}
use Rattle.rule.specs.Rules.{claim_of}
use Rattle.known_rules.specs.Guarding.{Passes}
use Rattle.known_rules.specs.Knowledge.{setting_of}
use Rattle.known_rules.proofs.known.KnownRules.fitting.Goals as goal

pub agree-after-requires-clause-adopted : goal.agree-after-requires-clause-adopted
agree-after-requires-clause-adopted c =
    let s = setting_of c.args.self.now in let k = c.requires.chosen.1 in let note = c.note.result.now in (
      s.functions,
      subst (λ (t : ClassTable). IsAdopted s.functions t (claim_of c.show-rule.result.now) note) c.requires.table
          (subst (λ (r : Rule). IsAdopted s.functions s.table (claim_of r) note) (sym (c.show-rule.ensures.rule k.0 k.1.0 k.1.1.0))
          (c.note.ensures.adopted k.0 k.1.0 k.1.1.0).1),
    )

pub agree-after-requires-clause-passes : goal.agree-after-requires-clause-passes
agree-after-requires-clause-passes c =
    let k = c.requires.chosen.1 in
    subst (Passes c.args.operands.now (number_of c.args.class.now)) (sym (c.show-rule.ensures.rule k.0 k.1.0 k.1.1.0)) k.1.1.1
