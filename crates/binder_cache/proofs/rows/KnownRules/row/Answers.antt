use Rattle.std.proofs.Common.{◌≡◌, ◌≢◌, ℕ, List, sym, ◌∙◌, ap, subst, arith, Contains, All}
use Rattle.std.proofs.lemmas.List.Elements.{All-contains}
use Rattle.rule_cells.specs.Cells.{index_of}
use Rattle.binder_cache.specs.Known.{KnownRule}
use Rattle.binder_cache.specs.Row.{shown}
use Rattle.binder_cache.specs.Rows.{rules_in}
use Rattle.binder_cache.specs.declared.rows.Row.{Row}
use Rattle.binder_cache.proofs.Places.{all_shown, only_row}
use Rattle.binder_cache.proofs.rows.KnownRules.row.Goals as goal

pub returns-then-index-clause-rule : goal.returns-then-index-clause-rule
returns-then-index-clause-rule g c = let v = c.args.self.now in let row = c.row-item.result in
    let here : Contains v.rows.items row = subst (λ (xs : List (Row g.row.R.Denot g.row.A.Denot)). Contains xs row) c.loop-row.invariant.0 (c.loop-row.row-index, c.loop-row-test.true, sym c.row-item.is) in
    λ known held same. All-contains (λ (known : KnownRule g.row.R.Denot g.row.A.Denot). known.index ≡ index_of row.known → known ≡ shown row) (rules_in v) known (only_row v.rows.items v.apart v.order row here) held (same ∙ sym c.if-index.true ∙ c.index.ensures)

pub unreachable-requires : goal.unreachable-requires
unreachable-requires g c = let v = c.args.self.now in let index : ℕ = c.args.index in
    let none = all_shown (λ (known : KnownRule g.row.R.Denot g.row.A.Denot). known.index ≢ index) v.rows.items v.order
    (subst (λ (xs : List (Row g.row.R.Denot g.row.A.Denot)). All (λ row. index_of row.known ≢ index) xs) c.loop-row.invariant.0 (λ k d l. c.loop-row.invariant.1 k d (omega arith) (omega arith))) in
    none c.requires.0 c.requires.1 c.requires.2 (ap (λ (known : KnownRule g.row.R.Denot g.row.A.Denot). known.index) c.requires.3 ∙ c.requires.4)
