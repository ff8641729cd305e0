-- The lemma is the law.
use Rattle.cache_levels.proofs.SameShapes.{shapes_decide}
use Rattle.cache_levels.proofs.laws.shapes_are_told_apart.Goals as goal

pub returns : goal.returns
returns c = shapes_decide
