use Rattle.std.proofs.Common.{◌<◌, ℕ, List}
use Rattle.std.proofs.lemmas.List.Elements.{recursion_from_All}
use Rattle.rule_order.specs.Ring.{indexes_along}
use Rattle.rule_order.proofs.Rings.{last_along}
use Rattle.rule_order.proofs.order.Order.last.Goals as goal

pub returns-clause-last : goal.returns-clause-last
returns-clause-last c = let n = c.self.inside.links.next in let xs : List ℕ = indexes_along n in
    rw (← c.self.view_is) (last_along n c.self.inside.links.previous xs (recursion_from_All (λ x. x < 128) xs c.self.invariant.order.small) c.self.invariant.linked c.index_at.result c.index_at.ensures.index c.index_at.ensures.end)
