use Rattle.std.proofs.Common.{sym, ap}
use Rattle.binder_cache.specs.Known.{KnownRule}
use Rattle.binder_cache.proofs.Places.{words_apart}
use Rattle.binder_cache.proofs.pass.CachePass.word.Goals as goal

pub returns-clause-word : goal.returns-clause-word
returns-clause-word g c = λ known held same. sym (ap (λ (known : KnownRule g.row.R.Denot g.row.A.Denot). known.word) (c.row.ensures.rule known held same))

pub returns-clause-apart : goal.returns-clause-apart
returns-clause-apart g c = let v = c.args.self.now.rules in words_apart v.rows.items v.apart v.worded v.order v.once
