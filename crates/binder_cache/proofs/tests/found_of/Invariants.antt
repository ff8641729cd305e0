use Rattle.binder_cache.specs.Pass.{IsPassOf}
use Rattle.binder_cache.proofs.tests.found_of.Given as goal

abbrev pub invariant-loop-step : goal.invariant-loop-step
invariant-loop-step l = IsPassOf l.cache l.pass
