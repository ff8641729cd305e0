use Rattle.restrictions.proofs.Merged.{none_is_set}
use Rattle.restrictions.proofs.set.Restrictions.empty.Goals as goal

pub invariant_of-result : goal.invariant_of-result
invariant_of-result c = none_is_set c.new.result.items c.new.ensures.items
