use Rattle.std.proofs.Common.{◌≤◌, get_or, rules, arith, subst, sym, ap, ◌+◌, ◌*◌, length}
use Rattle.call_site.proofs.Keeps.{splits}
use Rattle.call_site.proofs.Words.{zeros_at}
use Rattle.call_site.specs.Rule.{newcomer}
use Rattle.call_site.specs.declared.memo.Memo.{Memo}
use Rattle.call_site.proofs.sites.Sites.split.Goals as goal

pub split_seat-requires : goal.split_seat-requires
split_seat-requires c = let t = c.args.self.now.table.shared in let seat = c.args.pass.now.seat in
    (search rules, omega (arith, c.args.self.now.sized), splits t.key.words seat.id seat.me.0 c.requires.first)

pub invariant_of-result-clause-few : goal.invariant_of-result-clause-few
invariant_of-result-clause-few c site = let z = zeros_at (length c.args.pass.now.seat.me.0.words) (site * 12 + 11) in
    subst (λ (m : Memo). get_or m.words (site * 12 + 11) 0 ≤ m.calls) (ap (λ z. z.0) (sym c.split_seat.ensures.4)) (let q : get_or (newcomer c.args.pass.now.seat.me.0).words (site * 12 + 11) 0 ≤ 0 = omega arith in q)
