use Rattle.binder_cache.specs.Pass.{IsPassOf}
use Rattle.binder_cache.proofs.tests.having_learned.Given as goal

abbrev pub invariant-loop-time : goal.invariant-loop-time
invariant-loop-time l = IsPassOf l.cache l.pass
