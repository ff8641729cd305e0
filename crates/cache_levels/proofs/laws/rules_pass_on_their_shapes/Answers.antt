-- The lemma is the law.
use Rattle.cache_levels.proofs.RunSteps.{fits_shape}
use Rattle.cache_levels.proofs.laws.rules_pass_on_their_shapes.Goals as goal

pub returns : goal.returns
returns c = fits_shape
