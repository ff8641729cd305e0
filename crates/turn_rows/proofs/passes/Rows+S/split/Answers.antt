use Rattle.std.proofs.Common.{arith, rules, ◌<◌, ◌∙◌, ℕ, ap, sym, subst, ◌*◌}
use lib.ListN.{get_elem?}
use Rattle.turn_rows.specs.Rule.{meaning}
use Rattle.turn_rows.specs.Passes.{IsFresh}
use Rattle.turn_rows.proofs.Steps.{recalls}
use Rattle.turn_rows.proofs.Splits.{splits}
use Rattle.turn_rows.proofs.Ends.{begins_fresh}
use Rattle.turn_rows.proofs.passes.Rows+S.split.Goals as goal

pub load-requires : goal.load-requires
load-requires g c = let held = g.S.Held in let rows = c.args.self.now in let key = rows.table.shared.key in let seat = c.args.pass.now.seat in
    (search rules, omega (arith, rows.sized.1), recalls (meaning held.entries held.by held.turns held.tag held.mark) key.shared key.states.value.items (held.tag key.one.value) rows.table.shared.table_id.slots seat.id (rows.count * 8) seat.me c.args.pass.now.rests.1)

pub split_seat-seat-requires : goal.split_seat-seat-requires
split_seat-seat-requires g c = let held = g.S.Held in let rows = c.args.self.now in let key = rows.table.shared.key in let seat = c.load.new.seat in let same = c.load.ensures.2.0 in (
  c.load.ensures.0 ∙ c.requires.own.0,
  omega (arith, rows.sized.1),
  splits (meaning held.entries held.by held.turns held.tag held.mark) key.shared key.states.value.items (held.tag key.one.value) seat.id seat.me.0
      (ap (λ z. z.0.live) same ∙ c.args.pass.now.rests.1) (ap (λ z. z.0.own.number) same ∙ c.requires.first) (subst (λ (n : ℕ). n < 8) (sym (ap (λ z. z.0.own.made) same)) c.requires.few),
)

pub returns-clause-fresh : goal.returns-clause-fresh
returns-clause-fresh g c = let held = g.S.Held in let m = meaning held.entries held.by held.turns held.tag held.mark in let v = c.load.new.seat.me.0 in
    subst (λ z. IsFresh m z) (sym (ap (λ z. z.0.own) c.split_seat-seat.ensures.4)) (begins_fresh m v.start v.own.made 0 (λ i y e. c.load.ensures.2.1 i y (ap (λ z. get_elem? z.0.start i) (sym c.load.ensures.2.0) ∙ e)))
