use Rattle.binder_cache.specs.Pass.{IsPassOf}
use Rattle.binder_cache.proofs.tests.a_pass_finds_what_another_published.Given as goal

abbrev pub invariant-loop-rule : goal.invariant-loop-rule
invariant-loop-rule g l = IsPassOf l.cache l.first
