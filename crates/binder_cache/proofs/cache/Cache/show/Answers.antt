use Rattle.std.proofs.Common.{sym, ◌∙◌, ap}
use Rattle.binder_cache.specs.Known.{KnownRule}
use Rattle.binder_cache.specs.declared.rows.Publication.{Publication}
use Rattle.binder_cache.proofs.cache.Cache.show.Goals as goal

pub returns : goal.returns
returns g c = λ known held same. ap (λ (z : Publication g.row.R.Denot). z.rule) c.show.ensures ∙ sym (ap (λ (known : KnownRule g.row.R.Denot g.row.A.Denot). known.rule) (c.row.ensures.rule known held same))
