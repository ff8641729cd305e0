use Rattle.std.proofs.Common.{sym, subst}
use Rattle.binder_cache.specs.declared.cache.Cache.{Cache}
use Rattle.binder_cache.specs.Pass.{IsPassOf, known_of}
use Rattle.rule.specs.declared.rule.Rule.{Rule}
use Rattle.known_rules.specs.Guarding.{Passes}
use Rattle.known_rules.specs.Knowledge.{setting_of}
use Rattle.known_rules.proofs.Selecting.{chosen_of_select, selected_adopted}
use Rattle.known_rules.proofs.known.KnownRules.select.Goals as goal

pub invariant_of-self : goal.invariant_of-self
invariant_of-self c = record {
  own = subst (λ (x : Cache Rule). IsPassOf x c.select.new.cache_pass) (sym c.requires.cache) c.select.ensures.cache_own;
  adopted = selected_adopted (setting_of c.args.self.now) (Passes c.args.operands.now c.args.class) (known_of c.args.self.now.rules)
      (known_of c.select.new.cache_pass) c.select.result.level c.select.result.rule c.select.ensures.chooses c.args.self.now.adopted;
}

pub returns-clause-chosen : goal.returns-clause-chosen
returns-clause-chosen c =
    chosen_of_select (known_of c.args.self.now.rules) (known_of c.select.new.cache_pass) c.args.operands.now c.args.class c.select.result.level
    c.select.result.rule c.select.ensures.chooses c.select.ensures.known
