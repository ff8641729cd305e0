-- The lemma is the law.
use Rattle.meta_object.proofs.OperandMetas.{describes}
use Rattle.meta_object.proofs.laws.metaobjects_describe_their_operands.Goals as goal

pub returns : goal.returns
returns c = describes
