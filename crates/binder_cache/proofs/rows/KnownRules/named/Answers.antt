use Rattle.std.proofs.Common.{◌≢◌, ℕ, ◌<◌, List, sym, ◌∙◌, subst, arith, Contains, All}
use Rattle.binder_cache.specs.Known.{KnownRule}
use Rattle.binder_cache.specs.Row.{shown}
use Rattle.binder_cache.specs.declared.rows.Row.{Row}
use Rattle.binder_cache.proofs.Places.{all_shown, row_known}
use Rattle.binder_cache.proofs.rows.KnownRules.named.Goals as goal

pub returns-then-row-word-clause-some : goal.returns-then-row-word-clause-some
returns-then-row-word-clause-some g c = let v = c.args.self.now in let row = c.row-item.result in
    let here : Contains v.rows.items row = subst (λ (xs : List (Row g.row.R.Denot g.row.A.Denot)). Contains xs row) c.loop-row.invariant.0 (c.loop-row.row-index, c.loop-row-test.true, sym c.row-item.is) in
    let k = row_known v.rows.items v.order v.once (subst (λ n. All (λ x. x < n) v.order) v.rows.ok.0 v.placed) (v.counted ∙ v.rows.ok.0) row here in
    (k.0, shown row, k.1, k.2, (c.if-row-word.true, sym c.index.ensures))

pub returns-clause-none : goal.returns-clause-none
returns-clause-none g c = let v = c.args.self.now in let word : ℕ = c.args.word in
    all_shown (λ (known : KnownRule g.row.R.Denot g.row.A.Denot). known.word ≢ word) v.rows.items v.order
    (subst (λ (xs : List (Row g.row.R.Denot g.row.A.Denot)). All (λ row. row.word ≢ word) xs) c.loop-row.invariant.0 (λ k d l. c.loop-row.invariant.1 k d (omega arith) (omega arith)))
