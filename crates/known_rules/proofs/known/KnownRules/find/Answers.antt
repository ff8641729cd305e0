use Rattle.std.proofs.Common.{sym, subst}
use Rattle.binder_cache.specs.declared.cache.Cache.{Cache}
use Rattle.binder_cache.specs.Pass.{IsPassOf, known_of}
use Rattle.rule.specs.declared.rule.Rule.{Rule}
use Rattle.known_rules.specs.Guarding.{Passes}
use Rattle.known_rules.specs.Knowledge.{setting_of}
use Rattle.known_rules.proofs.Keeping.{chosen_of, found_adopted}
use Rattle.known_rules.proofs.known.KnownRules.find.Goals as goal

pub find-requires : goal.find-requires
find-requires c = subst (λ (x : Cache Rule). IsPassOf x c.args.self.now.rules) c.requires c.args.self.now.own

pub invariant_of-self : goal.invariant_of-self
invariant_of-self c = record {
  own = subst (λ (x : Cache Rule). IsPassOf x c.find.new.pass) (sym c.requires) c.find.ensures.pass;
  adopted = found_adopted (setting_of c.args.self.now) (Passes c.args.operands.now c.args.class) (known_of c.args.self.now.rules)
      (known_of c.find.new.pass) c.find.result c.find.ensures.same c.find.ensures.found c.args.self.now.adopted;
}

pub returns-clause-chosen : goal.returns-clause-chosen
returns-clause-chosen c =
    chosen_of (known_of c.args.self.now.rules) (known_of c.find.new.pass) c.args.operands.now c.args.class c.find.result c.find.ensures.none
    c.find.ensures.same c.find.ensures.found c.find.ensures.known
