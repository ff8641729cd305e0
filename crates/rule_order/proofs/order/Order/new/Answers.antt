-- The ring of the end alone holds no index.
use Rattle.std.proofs.Common.{◌≡◌, ℕ, List, [], replicate, length, ◌∙◌, ap, get_or, arith, ◌<◌}
use Rattle.std.proofs.lemmas.List.{get_or-replicate, length-replicate}
use Rattle.std.proofs.lemmas.List.Elements.{All-nil}
use Rattle.std.specs.List.{IsDistinct}
use Rattle.rule_order.specs.Order.{IsOrder}
use Rattle.rule_order.specs.Ring.{indexes_along, IsRing}
use Rattle.rule_order.proofs.Rings.{ring_of}
use Rattle.rule_order.proofs.order.Order.new.Goals as goal

empty : IsOrder []
unfolding IsDistinct
empty = record { distinct = tt; small = All-nil (λ index. index < 128) }

ring : (n p : List ℕ) → n ≡ replicate 129 128 → p ≡ replicate 129 128 → (indexes_along n ≡ []) × IsRing n p
ring n p e f = ring_of n p [] (ap length e ∙ length-replicate {A = ℕ} 129 128, ap length f ∙ length-replicate {A = ℕ} 129 128) empty
    (ap (λ xs. get_or xs 128 0) e ∙ get_or-replicate 129 128 128 0 (omega arith), ap (λ xs. get_or xs 128 0) f ∙ get_or-replicate 129 128 128 0 (omega arith))

pub invariant_of-result : goal.invariant_of-result
invariant_of-result c = (ring c.new.result.next c.new.result.previous c.new.ensures.next c.new.ensures.previous).1

pub returns : goal.returns
returns c = (ring c.new.result.next c.new.result.previous c.new.ensures.next c.new.ensures.previous).0
