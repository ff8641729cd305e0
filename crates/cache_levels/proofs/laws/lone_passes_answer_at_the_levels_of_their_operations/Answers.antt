-- The lemma is the law.
use Rattle.cache_levels.proofs.RunLaws.{next_answered}
use Rattle.cache_levels.proofs.laws.lone_passes_answer_at_the_levels_of_their_operations.Goals as goal

pub returns : goal.returns
returns c binders sites classes earlier o class old new level once mem asked answered =
    next_answered binders sites classes earlier o class old new once mem asked level answered
