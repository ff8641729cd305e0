use Rattle.std.proofs.Common.{◌≡◌, vec_len, ◌-◌, ◌≤◌, length, take, slice_get}
use Rattle.rule_order.proofs.tests.listed.Given as goal

abbrev pub invariant-loop-at : goal.invariant-loop-at
invariant-loop-at l = (l.indexes.items ≡ take (vec_len l.indexes) l.order) × (l.at ≡ slice_get l.order (vec_len l.indexes)) × (vec_len l.indexes ≤ length l.order)

abbrev pub decreases-loop-at : goal.decreases-loop-at
decreases-loop-at l = length l.order - vec_len l.indexes
