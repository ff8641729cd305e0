-- The lemmas are the law.
use Rattle.cache_levels.proofs.KeptRuns.{answered_run, nothing_run, past_run, run_stays}
use Rattle.cache_levels.proofs.laws.counts_are_those_of_the_operations.Goals as goal

pub returns-clause-starts : goal.returns-clause-starts
returns-clause-starts c = nothing_run

pub returns-clause-answered : goal.returns-clause-answered
returns-clause-answered c = answered_run

pub returns-clause-past : goal.returns-clause-past
returns-clause-past c = past_run

pub returns-clause-stays : goal.returns-clause-stays
returns-clause-stays c = run_stays
