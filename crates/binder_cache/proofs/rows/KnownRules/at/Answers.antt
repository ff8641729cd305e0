use Rattle.std.proofs.Common.{◌≡◌, ℕ, ◌<◌, sym, ◌∙◌, ap, subst, arith, Some, slice_get, All, vec_len}
use Rattle.std.specs.Prelude.{option_map}
use Rattle.std.proofs.lemmas.List.Elements.{All-contains}
use Rattle.std.proofs.lemmas.Option.{slice_get_read}
use Rattle.binder_cache.specs.Known.{KnownRule}
use Rattle.binder_cache.proofs.Places.{placed_at, at_none, at_some}
use Rattle.binder_cache.proofs.rows.KnownRules.at.Goals as goal

pub returns-in_err-at : goal.returns-in_err-at
returns-in_err-at g c = let v = c.args.self.now in
    c.from_residual.ensures ∙ sym (ap (option_map (λ (known : KnownRule g.row.R.Denot g.row.A.Denot). known.index))
    (at_none v.rows.items v.order (subst (λ n. All (λ x. x < n) v.order) v.rows.ok.0 v.placed) c.loop-step._step c.args.place (sym c.loop-step.invariant ∙ c.in_err-at.was) (omega arith)))

pub next-at-requires : goal.next-at-requires
next-at-requires g c = placed_at c.args.self.now.order c.loop-step._step c.in_ok-at.field-0 (sym c.loop-step.invariant ∙ c.in_ok-at.was)

pub returns-in_err-at-2 : goal.returns-in_err-at-2
returns-in_err-at-2 g c = let v = c.args.self.now in
    c.from_residual-in_err-at-2.ensures ∙ sym (ap (option_map (λ (known : KnownRule g.row.R.Denot g.row.A.Denot). known.index))
    (at_none v.rows.items v.order (subst (λ n. All (λ x. x < n) v.order) v.rows.ok.0 v.placed) c.loop-step._step c.args.place (sym c.loop-step.invariant ∙ c.in_err-at-2.was) (omega arith)))

pub index-requires : goal.index-requires
index-requires g c = let v = c.args.self.now in All-contains (λ x. x < vec_len v.rows) v.order c.in_ok-at-2.field-0 v.placed (placed_at v.order c.loop-step._step c.in_ok-at-2.field-0 (sym c.loop-step.invariant ∙ c.in_ok-at-2.was))

pub returns : goal.returns
returns g c = let v = c.args.self.now in let place : ℕ = c.in_ok-at-2.field-0 in let step : c.loop-step._step ≡ c.args.place = omega arith in
    let at : slice_get v.order c.args.place ≡ Some place = ap (slice_get v.order) (sym step) ∙ sym c.loop-step.invariant ∙ c.in_ok-at-2.was in
    let near : place < vec_len v.rows = All-contains (λ x. x < vec_len v.rows) v.order place v.placed (placed_at v.order c.args.place place at) in
    let read = slice_get_read v.rows.items (vec_len v.rows) place c.index.result.now v.rows.ok.0 near c.index.ensures in
    ap Some c.index-2.ensures ∙ sym (ap (option_map (λ (known : KnownRule g.row.R.Denot g.row.A.Denot). known.index))
    (at_some v.rows.items v.order (subst (λ n. All (λ x. x < n) v.order) v.rows.ok.0 v.placed) c.args.place place c.index.result.now at read))
