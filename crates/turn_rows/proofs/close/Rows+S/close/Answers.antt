use Rattle.std.proofs.Common.{refl, sym, subst}
use Rattle.std.specs.Slots.{slots_items}
use Rattle.turn_rows.specs.Rule.{meaning}
use Rattle.turn_rows.specs.Passes.{logs_of, tag_state, AllLast}
use Rattle.turn_rows.proofs.Ends.{closes}
use Rattle.turn_rows.proofs.close.Rows+S.close.Goals as goal

pub returns-clause-states : goal.returns-clause-states
returns-clause-states g c = let held = g.S.Held in let m = meaning held.entries held.by held.turns held.tag held.mark in let key = c.args.self.table.shared.key in let pass = c.args.pass in
    subst (AllLast m (tag_state c.args.self) (logs_of pass)) (sym c.take_out.ensures)
    (closes m key.shared key.states.value.items (held.tag key.one.value) pass.seat.id pass.seat.me.0 key.one.value (slots_items c.close_with.result.words) (slots_items c.close_with.result.slots) pass.rests.1 pass.rests.2 c.requires.all refl c.close_with.ensures.values.2).0

pub returns-clause-draws : goal.returns-clause-draws
returns-clause-draws g c = let held = g.S.Held in let m = meaning held.entries held.by held.turns held.tag held.mark in let key = c.args.self.table.shared.key in let pass = c.args.pass in
    (closes m key.shared key.states.value.items (held.tag key.one.value) pass.seat.id pass.seat.me.0 key.one.value (slots_items c.close_with.result.words) (slots_items c.close_with.result.slots) pass.rests.1 pass.rests.2 c.requires.all refl c.close_with.ensures.values.2).1
