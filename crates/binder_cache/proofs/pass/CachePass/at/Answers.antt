use Rattle.binder_cache.specs.Pass.{known_of}
use Rattle.binder_cache.proofs.Places.{indexes_apart}
use Rattle.binder_cache.proofs.Knowing.{place_known}
use Rattle.binder_cache.proofs.pass.CachePass.at.Goals as goal

pub returns-clause-once : goal.returns-clause-once
returns-clause-once g c = let v = c.args.self.now.rules in indexes_apart v.rows.items v.apart v.order v.once

pub returns-clause-known : goal.returns-clause-known
returns-clause-known g c = place_known (known_of c.args.self.now) c.args.place c.at.result c.at.ensures
