use Rattle.known_rules.proofs.SumsBound.{sum_metas}
use Rattle.known_rules.proofs.tests.metas_of_sum.Goals as goal

pub returns : goal.returns
returns c = sum_metas c.in_ok-first.first c.in_ok-second.second c.in_ok-first.ensures c.in_ok-second.ensures
