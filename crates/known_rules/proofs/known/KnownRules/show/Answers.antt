use Rattle.std.proofs.Common.{◌∙◌, ap, subst}
use Rattle.binder_cache.specs.declared.cache.Cache.{Cache}
use Rattle.binder_cache.specs.Pass.{IsPassOf, known_of}
use Rattle.rule.specs.declared.rule.Rule.{Rule}
use Rattle.rule.specs.Rules.{binder_of}
use Rattle.known_rules.specs.Knowledge.{setting_of}
use Rattle.known_rules.proofs.Keeping.{known_binder}
use Rattle.known_rules.proofs.known.KnownRules.show.Goals as goal

pub show-requires-clause-pass : goal.show-requires-clause-pass
show-requires-clause-pass c = subst (λ (x : Cache Rule). IsPassOf x c.args.self.now.rules) c.requires.cache c.args.self.now.own

pub returns-clause-binder : goal.returns-clause-binder
returns-clause-binder c =
    let k = known_binder (setting_of c.args.self.now) (known_of c.args.self.now.rules) c.args.index c.requires.known c.args.self.now.adopted in
    ap binder_of (c.show.ensures k.0 k.1.0 k.1.1.0) ∙ k.1.1.1.0
