use Rattle.std.proofs.Common.{◌≤◌}
use Rattle.binder_cache.specs.Pass as caches
use Rattle.call_site.specs.Passes.{IsPassOf, calls_of}
use Rattle.call_site.proofs.tests.counts.Given as goal

abbrev pub invariant-loop-shape : goal.invariant-loop-shape
invariant-loop-shape g l = record {
  own : IsPassOf l.sites l.pass;
  cache_own : caches.IsPassOf l.cache l.cache_pass;
  few : calls_of l.pass ≤ l.shape-index;
}
