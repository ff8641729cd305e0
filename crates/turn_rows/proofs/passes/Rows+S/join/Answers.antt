use Rattle.std.proofs.Common.{arith, rules}
use Rattle.turn_rows.specs.Rule.{meaning}
use Rattle.turn_rows.proofs.Joins.{joins}
use Rattle.turn_rows.proofs.passes.Rows+S.join.Goals as goal

pub join_seat-requires : goal.join_seat-requires
join_seat-requires g c = let held = g.S.Held in let rows = c.args.self.now in let key = rows.table.shared.key in let seat = c.args.pass.now.seat in let other = c.args.other.seat in
    (search rules, search rules, c.args.other.rests.0, omega (arith, rows.sized.1), joins (meaning held.entries held.by held.turns held.tag held.mark) key.shared key.states.value.items (held.tag key.one.value) seat.id seat.me.0 other.id other.me.0 c.args.pass.now.rests.1 c.args.other.rests.1 c.args.other.rests.2)
