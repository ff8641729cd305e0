use Rattle.std.proofs.Common.{◌≡◌, ◌≤◌}
use Rattle.call_site.specs.Passes.{IsPassOf, made_of, calls_of}
use Rattle.cache_levels.specs.LonePasses.{AreLoneOf}
use Rattle.cache_levels.proofs.tests.counts.Given as goal

abbrev pub invariant-loop-shape : goal.invariant-loop-shape
invariant-loop-shape g l = record {
  own : IsPassOf l.sites l.pass;
  one : made_of l.pass ≡ 1;
  few : calls_of l.pass ≤ l.shape-index;
  known : AreLoneOf l.caches l.passes;
}
