use Rattle.std.proofs.Common.{ap, sym, subst}
use Rattle.binder_cache.specs.declared.cache.Cache.{Cache}
use Rattle.binder_cache.specs.Pass.{IsPassOf, known_of}
use Rattle.rule.specs.declared.rule.Rule.{Rule}
use Rattle.known_rules.specs.Adoptions.{Setting, setting}
use Rattle.known_rules.specs.Knowledge.{setting_of}
use Rattle.known_rules.proofs.Keeping.{learned_adopted}
use Rattle.known_rules.proofs.known.KnownRules.learn.Goals as goal

pub learn-requires : goal.learn-requires
learn-requires c =
    subst (λ (x : Cache Rule). IsPassOf x c.args.self.now.rules) (ap (λ (s : Setting). s.cache) c.requires) c.args.self.now.own

pub invariant_of-self : goal.invariant_of-self
invariant_of-self c = let learns = c.learn.ensures.learns in record {
  own = subst (λ (x : Cache Rule). IsPassOf x c.learn.new.pass) (sym (ap (λ (s : Setting). s.cache) c.requires)) c.learn.ensures.pass;
  adopted = learned_adopted (setting_of c.args.self.now)
      (setting c.args.cache.now c.args.binder.now c.args.funs.now.params c.args.table.now) (known_of c.args.self.now.rules)
      (known_of c.learn.new.pass) learns.added c.requires learns.new_is learns.admitted c.args.self.now.adopted;
}
