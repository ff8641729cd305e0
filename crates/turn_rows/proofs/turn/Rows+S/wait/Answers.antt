use Rattle.std.proofs.Common.{arith, rules, refl, ◌∙◌, ap}
use Rattle.turn_rows.specs.declared.view.Stage.TheVariants.{Served}
use Rattle.turn_rows.specs.Plays.{moved}
use Rattle.turn_rows.specs.Rule.{meaning}
use Rattle.turn_rows.proofs.Steps.{draws_ticket, looks}
use Rattle.turn_rows.proofs.turn.Rows+S.wait.Goals as goal

pub fetch_add-ticket-requires : goal.fetch_add-ticket-requires
fetch_add-ticket-requires g c = let held = g.S.Held in let rows = c.args.self.now in let key = rows.table.shared.key in let seat = c.args.seat.now in
    (search rules, omega (arith, rows.sized.1), draws_ticket (meaning held.entries held.by held.turns held.tag held.mark) key.shared key.states.value.items (held.tag key.one.value) rows.table.shared.table_id.slots seat.id seat.me c.args.row (omega (arith, rows.sized.0)) c.requires.live c.requires.idle c.requires.few)

pub load-now-requires : goal.load-now-requires
load-now-requires g c = let held = g.S.Held in let rows = c.args.self.now in let key = rows.table.shared.key in let seat = c.loop.seat in let is = c.loop.invariant.2 ∙ c.fetch_add-ticket.ensures.2.1 c.args.row refl in (
  c.loop.invariant.0 ∙ (c.fetch_add-ticket.ensures.0 ∙ c.requires.own.0),
  omega (arith, rows.sized.1),
  looks (meaning held.entries held.by held.turns held.tag held.mark) key.shared key.states.value.items (held.tag key.one.value) rows.table.shared.table_id.slots seat.id seat.me c.args.row c.fetch_add-ticket.result
      (ap (λ z. z.0.live) is ∙ c.requires.live) (ap (λ z. z.0.stage) is),
)

pub returns-then-now-ticket-clause-served : goal.returns-then-now-ticket-clause-served
returns-then-now-ticket-clause-served g c = let is = c.loop.invariant.2 ∙ c.fetch_add-ticket.ensures.2.1 c.args.row refl in
    (c.load-now.ensures.2 c.args.row c.fetch_add-ticket.result (ap (λ z. z.0.stage) is)).0 c.if-now-ticket.true ∙ ap (λ z. (moved z.0 (Served c.args.row c.fetch_add-ticket.result) z.0.own, z.1)) is

pub loop-preserved : goal.loop-preserved
loop-preserved g c = let is = c.loop.invariant.2 ∙ c.fetch_add-ticket.ensures.2.1 c.args.row refl in
    (c.load-now.ensures.0 ∙ c.loop.invariant.0, c.load-now.ensures.1 ∙ c.loop.invariant.1, (c.load-now.ensures.2 c.args.row c.fetch_add-ticket.result (ap (λ z. z.0.stage) is)).1 c.if-now-ticket.false ∙ c.loop.invariant.2)
