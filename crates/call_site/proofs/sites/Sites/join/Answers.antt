use Rattle.std.proofs.Common.{rules, arith}
use Rattle.call_site.proofs.Keeps.{joins}
use Rattle.call_site.proofs.sites.Sites.join.Goals as goal

pub join_seat-requires : goal.join_seat-requires
join_seat-requires c = let t = c.args.self.now.table.shared in let seat = c.args.pass.now.seat in let other = c.args.other.seat in
    (search rules, search rules, c.args.other.rests, omega (arith, c.args.self.now.sized), joins t.key.words seat.id seat.me.0 other.id other.me.0)
