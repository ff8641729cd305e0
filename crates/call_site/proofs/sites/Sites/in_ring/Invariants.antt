use Rattle.std.proofs.Common.{◌≡◌, ℕ, ◌<◌}
use Rattle.binder_cache.specs.Pass.{known_of}
use Rattle.call_site.specs.Passes.{IsSamePass, made_of, words_of}
use Rattle.call_site.specs.Places.{entered_in}
use Rattle.call_site.specs.Chosen.{PassedOver}
use Rattle.call_site.proofs.sites.Sites.in_ring.Given as goal

abbrev pub invariant-loop-age : goal.invariant-loop-age
invariant-loop-age g l = record {
  same : IsSamePass l.fn.pass l.pass;
  over : made_of l.fn.pass ≡ 1 → (age : ℕ) → age < l.age → PassedOver (g.P.Probe.accepts l.probe) (known_of l.cache_pass) (entered_in (words_of l.fn.pass) l.site age);
}
