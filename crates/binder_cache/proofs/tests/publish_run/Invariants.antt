use Rattle.binder_cache.specs.Pass.{IsPassOf}
use Rattle.binder_cache.proofs.tests.publish_run.Given as goal

abbrev pub invariant-loop-step : goal.invariant-loop-step
invariant-loop-step g l = IsPassOf l.cache l.pass
