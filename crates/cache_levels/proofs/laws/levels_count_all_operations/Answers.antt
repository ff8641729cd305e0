-- The lemmas are the law.
use Rattle.cache_levels.proofs.RunLaws.{all_counted, fewer}
use Rattle.cache_levels.proofs.laws.levels_count_all_operations.Goals as goal

pub returns-clause-total : goal.returns-clause-total
returns-clause-total c = all_counted

pub returns-clause-few : goal.returns-clause-few
returns-clause-few c = fewer
