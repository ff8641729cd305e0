use Rattle.std.proofs.Common.{subst}
use Rattle.binder_cache.specs.declared.cache.Cache.{Cache}
use Rattle.binder_cache.specs.Pass.{IsPassOf, known_of}
use Rattle.rule.specs.declared.rule.Rule.{Rule}
use Rattle.known_rules.specs.Knowledge.{setting_of}
use Rattle.known_rules.proofs.Keeping.{note_adopted}
use Rattle.known_rules.proofs.known.KnownRules.note.Goals as goal

pub note-requires-clause-pass : goal.note-requires-clause-pass
note-requires-clause-pass c = subst (λ (x : Cache Rule). IsPassOf x c.args.self.now.rules) c.requires.cache c.args.self.now.own

pub returns-clause-adopted : goal.returns-clause-adopted
returns-clause-adopted c = λ k there at.
    note_adopted (setting_of c.args.self.now) (known_of c.args.self.now.rules) k c.note.result.now c.args.self.now.adopted there
    (c.note.ensures k there at)
