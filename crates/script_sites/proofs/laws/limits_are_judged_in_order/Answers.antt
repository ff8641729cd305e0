use Rattle.script_sites.proofs.Turns.{none_above}
use Rattle.script_sites.proofs.laws.limits_are_judged_in_order.Goals as goal

pub returns-clause-none : goal.returns-clause-none
returns-clause-none c = λ s. none_above s
