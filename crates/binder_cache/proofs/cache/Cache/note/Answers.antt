use Rattle.std.proofs.Common.{sym, ap}
use Rattle.binder_cache.specs.Known.{KnownRule}
use Rattle.binder_cache.proofs.cache.Cache.note.Goals as goal

pub returns : goal.returns
returns g c = λ known held same. sym (ap (λ (known : KnownRule g.row.R.Denot g.row.A.Denot). known.note) (c.row.ensures.rule known held same))
