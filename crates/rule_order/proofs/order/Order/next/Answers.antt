use Rattle.rule_order.specs.Ring.{indexes_along}
use Rattle.rule_order.proofs.Rings.{next_along}
use Rattle.rule_order.proofs.order.Order.next.Goals as goal

pub returns-clause-next : goal.returns-clause-next
returns-clause-next c = let n = c.self.inside.links.next in
    rw (← c.self.view_is) (next_along n c.self.inside.links.previous (indexes_along n) c.self.invariant.order.small c.self.invariant.linked c.args.index c.index_at.result c.index_at.ensures.index c.index_at.ensures.end)
