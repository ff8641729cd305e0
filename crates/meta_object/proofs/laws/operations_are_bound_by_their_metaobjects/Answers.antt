-- The lemma is the law.
use Rattle.meta_object.proofs.OperandMetas.{can_bind}
use Rattle.meta_object.proofs.laws.operations_are_bound_by_their_metaobjects.Goals as goal

pub returns : goal.returns
returns c = can_bind
