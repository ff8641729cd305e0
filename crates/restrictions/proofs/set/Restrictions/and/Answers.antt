use Rattle.std.proofs.Common.{◌≡◌, ◌<◌, false, length, sym, ap, subst, arith}
use Rattle.restrictions.specs.Sets.{IsSet, is_in}
use Rattle.restrictions.proofs.Merged.{one_more_is_set}
use Rattle.restrictions.proofs.set.Restrictions.and.Goals as goal

pub invariant_of-self : goal.invariant_of-self
invariant_of-self c =
    let own = c.self.inside.items.items in
    let room : length own < 16 = omega (arith, c.requires.room, ap length c.self.view_is) in
    let new : is_in c.args.restriction own ≡ false = subst (λ rs. is_in c.args.restriction rs ≡ false) (sym c.self.view_is) c.requires.new in
    subst IsSet (sym c.in_ok-push.ensures.items) (one_more_is_set own c.args.restriction c.self.invariant room new c.requires.operand)
