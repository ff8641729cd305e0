-- The lemma is the law.
use Rattle.cache_levels.proofs.RunLaws.{next_bound}
use Rattle.cache_levels.proofs.laws.lone_passes_bind_where_no_rule_passes.Goals as goal

pub returns : goal.returns
returns c binders sites classes earlier o class m once mem asked none =
    next_bound binders sites classes earlier o class m m once mem asked none
