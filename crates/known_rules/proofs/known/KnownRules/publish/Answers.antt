use Rattle.std.proofs.Common.{sym, subst}
use Rattle.binder_cache.specs.declared.cache.Cache.{Cache}
use Rattle.binder_cache.specs.Pass.{IsPassOf}
use Rattle.rule.specs.declared.rule.Rule.{Rule}
use Rattle.known_rules.specs.Knowledge.{setting_of}
use Rattle.known_rules.proofs.Keeping.{published_adopted}
use Rattle.known_rules.proofs.known.KnownRules.publish.Goals as goal

pub publish-published-requires : goal.publish-published-requires
publish-published-requires g c = subst (λ (x : Cache Rule). IsPassOf x c.args.self.now.rules) c.requires.cache c.args.self.now.own

pub invariant_of-self : goal.invariant_of-self
invariant_of-self g c = let done = c.publish-published.ensures in record {
  own = subst (λ (x : Cache Rule). IsPassOf x c.publish-published.new.pass) (sym c.requires.cache) done.pass;
  adopted = published_adopted (setting_of c.args.self.now) c.args.self.now.rules c.publish-published.new.pass c.args.bound.rule
      c.args.bound.adopted c.publish-published.result done.at done.past done.err c.requires.adopted c.args.self.now.adopted;
}
