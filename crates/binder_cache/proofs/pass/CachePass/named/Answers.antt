use Rattle.std.proofs.lemmas.Option.{IfSome_then}
use Rattle.binder_cache.specs.Pass.{known_of}
use Rattle.binder_cache.proofs.Knowing.{named_known}
use Rattle.binder_cache.proofs.pass.CachePass.named.Goals as goal

pub returns-clause-known : goal.returns-clause-known
returns-clause-known g c = IfSome_then c.named.result c.named.ensures.some (named_known (known_of c.args.self.now) c.args.word)
