use Rattle.std.proofs.lemmas.Option.{IfSome_then}
use Rattle.binder_cache.specs.Pass.{known_of}
use Rattle.binder_cache.specs.Rows.{rules_in}
use Rattle.binder_cache.proofs.Knowing.{brings_known}
use Rattle.binder_cache.proofs.cache.Cache.find.Goals as goal

pub returns-clause-known : goal.returns-clause-known
returns-clause-known g c = IfSome_then c.find.result c.find.ensures.found (brings_known (g.P.Probe.accepts c.args.probe.now) (known_of c.args.pass.now) (rules_in c.find.new.self))
