use Rattle.std.proofs.Common.{arith, rules}
use Rattle.turn_rows.specs.Rule.{meaning}
use Rattle.turn_rows.proofs.Draws.{draws_at}
use Rattle.turn_rows.proofs.draw.Rows+S.draw.Goals as goal

pub fetch_add-requires : goal.fetch_add-requires
fetch_add-requires g c = let held = g.S.Held in let rows = c.args.self.now in let key = rows.table.shared.key in let seat = c.args.pass.now.seat in
    (search rules, omega arith, draws_at (meaning held.entries held.by held.turns held.tag held.mark) key.shared key.states.value.items (held.tag key.one.value) rows.count rows.sized.0 rows.table.shared.table_id.slots seat.id seat.me c.args.pass.now.rests.1 c.requires.few)
