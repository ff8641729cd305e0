use Rattle.std.proofs.Common.{◌≡◌, ℕ, ◌<◌, length, sym, ◌∙◌, subst, arith, Some, slice_get, All, vec_len}
use Rattle.std.proofs.lemmas.List.Elements.{All-contains}
use Rattle.std.proofs.lemmas.List.{take_all}
use Rattle.std.proofs.lemmas.Option.{slice_get_read}
use Rattle.binder_cache.specs.Row.{in_order}
use Rattle.binder_cache.proofs.Places.{more_fail, first_at, placed_at}
use Rattle.std.proofs.Common.{true, false}
use Rattle.binder_cache.specs.declared.rows.Publication.{Publication}
use Rattle.binder_cache.proofs.rows.KnownRules.first_passing.Goals as goal

pub returns-then-passes-clause-found : goal.returns-then-passes-clause-found
returns-then-passes-clause-found g c = let v = c.args.self.now in let P = g.P.Probe.accepts c.args.probe.now in let place : ℕ = c.in_ok-place.place in
    let at : slice_get v.order c.loop-step._step ≡ Some place = sym c.loop-step.invariant.0 ∙ c.in_ok-place.was in
    let near : place < vec_len v.rows = All-contains (λ x. x < vec_len v.rows) v.order place v.placed (placed_at v.order c.loop-step._step place at) in
    let read = slice_get_read v.rows.items (vec_len v.rows) place c.index.result.now v.rows.ok.0 near c.index.ensures in
    first_at P v.rows.items v.order c.loop-step._step place c.index.result.now at read
    (subst (λ (z : Publication g.row.R.Denot). P z.rule) c.show-publication.ensures (c.passes.ensures.0 c.if-passes.true)) c.loop-step.invariant.1

pub next-at-requires : goal.next-at-requires
next-at-requires g c = placed_at c.args.self.now.order c.loop-step._step c.in_ok-place.place (sym c.loop-step.invariant.0 ∙ c.in_ok-place.was)

pub loop-step-preserved : goal.loop-step-preserved
loop-step-preserved g c = let v = c.args.self.now in let P = g.P.Probe.accepts c.args.probe.now in let place : ℕ = c.in_ok-place.place in
    let at : slice_get v.order c.loop-step._step ≡ Some place = sym c.loop-step.invariant.0 ∙ c.in_ok-place.was in
    let near : place < vec_len v.rows = All-contains (λ x. x < vec_len v.rows) v.order place v.placed (placed_at v.order c.loop-step._step place at) in
    let read = slice_get_read v.rows.items (vec_len v.rows) place c.index.result.now v.rows.ok.0 near c.index.ensures in (
      c.next-at.ensures.next c.loop-step._step at,
      more_fail (λ known. ¬ P known.rule) v.rows.items v.order c.loop-step._step place c.index.result.now at read
          (λ p. let t : c.passes.result ≡ true = c.passes.ensures.1 (subst (λ (z : Publication g.row.R.Denot). P z.rule) (sym c.show-publication.ensures) p) in let f : c.passes.result ≡ false = c.if-passes.false in absurd (cc)) c.loop-step.invariant.1,
    )

pub returns-clause-none : goal.returns-clause-none
returns-clause-none g c = let v = c.args.self.now in let P = g.P.Probe.accepts c.args.probe.now in let counted : length v.order ≡ vec_len v.rows = v.counted in let l : c.len-known.result ≡ vec_len v.rows = c.len-known.ensures in
    subst (λ xs. All (λ known. ¬ P known.rule) (in_order v.rows.items xs)) (take_all c.loop-step._step v.order (omega arith)) c.loop-step.invariant.1
