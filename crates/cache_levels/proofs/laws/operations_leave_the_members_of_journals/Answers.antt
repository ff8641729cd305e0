-- The lemmas are the law.
use Rattle.cache_levels.proofs.RunLaws.{grows, stays}
use Rattle.cache_levels.proofs.laws.operations_leave_the_members_of_journals.Goals as goal

pub returns-clause-grows : goal.returns-clause-grows
returns-clause-grows c = grows

pub returns-clause-stays : goal.returns-clause-stays
returns-clause-stays c = stays
