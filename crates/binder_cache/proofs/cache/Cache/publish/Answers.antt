use Rattle.std.proofs.Common.{sym, subst}
use Rattle.rule_cells.specs.Cells.{index_of, rule_of}
use Rattle.binder_cache.specs.Known.{Knows}
use Rattle.binder_cache.specs.Pass.{known_of}
use Rattle.binder_cache.proofs.Knowing.{adds_known}
use Rattle.binder_cache.proofs.cache.Cache.publish.Goals as goal

pub returns-in-Ok-clause-known : goal.returns-in-Ok-clause-known
returns-in-Ok-clause-known g c = let known = c.in-Ok.known in
    subst (Knows (known_of c.add_own.new.self)) (sym c.index-index.ensures) (adds_known (known_of c.args.pass.now) (known_of c.add_own.new.self) (index_of known) (rule_of known).rule c.args.note c.add_own.ensures.publishes.adds)
