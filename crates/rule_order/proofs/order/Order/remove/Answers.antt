-- The new link cuts the index out of the ring.
use Rattle.std.proofs.Common.{◌∙◌}
use Rattle.rule_order.proofs.Rings.{found, index_small, previous_small, next_small, absent_without, ring_without}
use Rattle.rule_order.proofs.order.Order.remove.Goals as goal

pub join-requires-clause-from : goal.join-requires-clause-from
join-requires-clause-from c = let f = found c.args.self.now c.args.index c.requires.0 c.requires.1 c.requires.2 in
    previous_small c.self.inside.links.next c.self.inside.links.previous c.self.invariant f.0 c.args.index f.1 (c.self.view_is ∙ f.2)

pub join-requires-clause-to : goal.join-requires-clause-to
join-requires-clause-to c = let f = found c.args.self.now c.args.index c.requires.0 c.requires.1 c.requires.2 in
    next_small c.self.inside.links.next c.self.inside.links.previous c.self.invariant f.0 c.args.index f.1 (c.self.view_is ∙ f.2)

pub invariant_of-self : goal.invariant_of-self
invariant_of-self c = let f = found c.args.self.now c.args.index c.requires.0 c.requires.1 c.requires.2 in
    rw (c.join.ensures.next, c.join.ensures.previous) (ring_without c.self.inside.links.next c.self.inside.links.previous c.self.invariant f.0 c.args.index f.1 (c.self.view_is ∙ f.2)).1

pub returns-clause-removed : goal.returns-clause-removed
returns-clause-removed c = λ before after split.
    rw c.join.ensures.next (ring_without c.self.inside.links.next c.self.inside.links.previous c.self.invariant before c.args.index after (c.self.view_is ∙ split)).0

pub returns-clause-absent : goal.returns-clause-absent
returns-clause-absent c = let f = found c.args.self.now c.args.index c.requires.0 c.requires.1 c.requires.2 in let n = c.self.inside.links.next in let p = c.self.inside.links.previous in
    λ held. absent_without n p c.self.invariant f.0 c.args.index f.1 (c.self.view_is ∙ f.2)
    (rw (c.join.ensures.next, (ring_without n p c.self.invariant f.0 c.args.index f.1 (c.self.view_is ∙ f.2)).0) at held)

pub returns-clause-small : goal.returns-clause-small
returns-clause-small c = let f = found c.args.self.now c.args.index c.requires.0 c.requires.1 c.requires.2 in
    index_small c.self.inside.links.next c.self.inside.links.previous c.self.invariant f.0 c.args.index f.1 (c.self.view_is ∙ f.2)

pub returns-clause-order : goal.returns-clause-order
returns-clause-order c = let f = found c.args.self.now c.args.index c.requires.0 c.requires.1 c.requires.2 in
    rw c.join.ensures.next (ring_without c.self.inside.links.next c.self.inside.links.previous c.self.invariant f.0 c.args.index f.1 (c.self.view_is ∙ f.2)).1.order
