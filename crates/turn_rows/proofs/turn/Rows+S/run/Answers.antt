use Rattle.std.proofs.Common.{arith, rules, ◌∙◌, ap, subst, ℕ}
use Rattle.turn_rows.specs.Lists.{Adds}
use Rattle.turn_rows.specs.Rule.{meaning}
use Rattle.turn_rows.proofs.Lists.{same_at}
use Rattle.turn_rows.proofs.Steps.{takes_out}
use Rattle.turn_rows.proofs.Turns.{given, gives, serves_next, ran}
use Rattle.turn_rows.proofs.turn.Rows+S.run.Goals as goal

pub load-requires : goal.load-requires
load-requires g c = let held = g.S.Held in let rows = c.args.self.now in let key = rows.table.shared.key in let seat = c.args.seat.now in (
  search rules,
  omega (arith, rows.sized.0, rows.sized.1),
  takes_out (meaning held.entries held.by held.turns held.tag held.mark) key.shared key.states.value.items (held.tag key.one.value) rows.table.shared.table_id.slots seat.id seat.me c.args.row c.args.ticket
      (λ z e. ap held.tag (same_at key.states.value.items 0 key.one.value z rows.headed e)) c.requires.live c.requires.served,
)

pub load-requires-2 : goal.load-requires-2
load-requires-2 g c = let held = g.S.Held in let rows = c.args.self.now in let key = rows.table.shared.key in let seat = c.args.seat.now in let v = seat.me.0 in let took = c.load.ensures.2 c.args.row c.args.ticket c.requires.served in let old = c.slot_mut-state.result.now in (
  c.load.ensures.0 ∙ c.requires.own.0,
  omega (arith, rows.sized.0, rows.sized.1),
  gives (meaning held.entries held.by held.turns held.tag held.mark) key.shared key.states.value.items (held.tag key.one.value) rows.table.shared.table_id.slots c.load.new.seat.id
      v seat.me.1 c.args.row c.args.ticket took.0 old c.run.new.state c.load.new.seat.me c.requires.live record { is = took.1; no_other = c.requires.holds } c.slot_mut-state.ensures.value c.run.ensures.tag c.run.ensures.turns
      (subst (λ (n : ℕ). Adds held.by n (held.entries old) (held.entries c.run.new.state)) c.requires.number c.run.ensures.adds),
)

pub store-requires : goal.store-requires
store-requires g c = let held = g.S.Held in let rows = c.args.self.now in let key = rows.table.shared.key in let seat = c.args.seat.now in let v = seat.me.0 in let took = c.load.ensures.2 c.args.row c.args.ticket c.requires.served in (
  c.load-2.ensures.0 ∙ (c.load.ensures.0 ∙ c.requires.own.0),
  omega (arith, rows.sized.0, rows.sized.1),
  serves_next (meaning held.entries held.by held.turns held.tag held.mark) key.shared key.states.value.items (held.tag key.one.value) rows.table.shared.table_id.slots c.load-2.new.seat.id
      v c.args.row c.args.ticket c.run.new.state c.load-2.new.seat.me c.requires.live (given v seat.me.1 c.args.row c.args.ticket took.0 c.run.new.state c.load.new.seat.me c.load-2.new.seat.me record { is = took.1; no_other = c.requires.holds } c.load-2.ensures.2),
)

pub returns-clause-seat : goal.returns-clause-seat
returns-clause-seat g c = let v = c.args.seat.now.me.0 in let took = c.load.ensures.2 c.args.row c.args.ticket c.requires.served in (
  c.store.ensures.0 ∙ (c.load-2.ensures.0 ∙ c.load.ensures.0),
  c.store.ensures.1 ∙ (c.load-2.ensures.1 ∙ c.load.ensures.1),
  ap (λ z. z.1) c.store.ensures.2 ∙ ap (λ z. z.1) (given v c.args.seat.now.me.1 c.args.row c.args.ticket took.0 c.run.new.state c.load.new.seat.me c.load-2.new.seat.me record { is = took.1; no_other = c.requires.holds } c.load-2.ensures.2),
)

pub returns-clause-ran : goal.returns-clause-ran
returns-clause-ran g c = let held = g.S.Held in let seat = c.args.seat.now in let v = seat.me.0 in let took = c.load.ensures.2 c.args.row c.args.ticket c.requires.served in let old = c.slot_mut-state.result.now in
    ran (meaning held.entries held.by held.turns held.tag held.mark) (λ x y. g.M.Step.then c.args.step.now x c.run.new.self y) v seat.me.1 c.args.row c.args.ticket took.0 old c.run.new.state c.load.new.seat.me c.load-2.new.seat.me c.store.new.seat.me
    record { is = took.1; no_other = c.requires.holds } c.slot_mut-state.ensures.value (given v seat.me.1 c.args.row c.args.ticket took.0 c.run.new.state c.load.new.seat.me c.load-2.new.seat.me record { is = took.1; no_other = c.requires.holds } c.load-2.ensures.2)
    c.store.ensures.2 c.run.ensures.then took.2 c.run.ensures.tag c.run.ensures.turns (subst (λ (n : ℕ). Adds held.by n (held.entries old) (held.entries c.run.new.state)) c.requires.number c.run.ensures.adds)
