-- Two new links put the index between the end and the first.
use Rattle.std.proofs.Common.{sym}
use Rattle.rule_order.proofs.Rings.{first_small, ring_pushed}
use Rattle.rule_order.proofs.order.Order.push_front.Goals as goal

pub join-requires-clause-to : goal.join-requires-clause-to
join-requires-clause-to c = first_small c.self.inside.links.next c.self.inside.links.previous c.self.invariant

pub invariant_of-self : goal.invariant_of-self
invariant_of-self c = let absent = rw (sym c.self.view_is) at c.requires.absent in
    rw (c.join-2.ensures.next, c.join-2.ensures.previous, c.join.ensures.next, c.join.ensures.previous) (ring_pushed c.self.inside.links.next c.self.inside.links.previous c.self.invariant c.args.index c.requires.small absent).1

pub returns-clause-pushed : goal.returns-clause-pushed
returns-clause-pushed c = let absent = rw (sym c.self.view_is) at c.requires.absent in
    rw (c.join-2.ensures.next, c.join.ensures.next, ← c.self.view_is) (ring_pushed c.self.inside.links.next c.self.inside.links.previous c.self.invariant c.args.index c.requires.small absent).0

pub returns-clause-order : goal.returns-clause-order
returns-clause-order c = let absent = rw (sym c.self.view_is) at c.requires.absent in
    rw (c.join-2.ensures.next, c.join.ensures.next) (ring_pushed c.self.inside.links.next c.self.inside.links.previous c.self.invariant c.args.index c.requires.small absent).1.order
