use Rattle.std.proofs.Common.{◌∙◌, ap}
use lib.ListN.{get_elem?}
use Rattle.turn_rows.specs.Rule.{meaning}
use Rattle.turn_rows.proofs.Turns.{grows, others, taken}
use Rattle.turn_rows.proofs.turn.Rows+S.turn.Goals as goal

pub returns-clause-others : goal.returns-clause-others
returns-clause-others g c = let held = g.S.Held in
    others (meaning held.entries held.by held.turns held.tag held.mark) _ c.args.pass.now.seat.me.0 c.wait-ticket.new.seat.me.0 c.run.new.seat.me.0 c.args.row c.wait-ticket.result (ap (λ z. z.0) c.wait-ticket.ensures.served) c.run.ensures.ran

pub returns-clause-grows : goal.returns-clause-grows
returns-clause-grows g c = let held = g.S.Held in
    grows (meaning held.entries held.by held.turns held.tag held.mark) _ c.args.pass.now.seat.me.0 c.wait-ticket.new.seat.me.0 c.run.new.seat.me.0 c.args.row c.wait-ticket.result (ap (λ z. z.0) c.wait-ticket.ensures.served) c.run.ensures.ran

pub returns-clause-taken : goal.returns-clause-taken
returns-clause-taken g c = let held = g.S.Held in
    taken (meaning held.entries held.by held.turns held.tag held.mark) _ c.args.pass.now.seat.me.0 c.wait-ticket.new.seat.me.0 c.run.new.seat.me.0 c.args.row c.wait-ticket.result (ap (λ z. z.0) c.wait-ticket.ensures.served) c.run.ensures.ran
    c.args.self.now.table.shared.key.one.value (ap (λ z. get_elem? z 0) c.requires.own.1 ∙ c.args.self.now.headed)
