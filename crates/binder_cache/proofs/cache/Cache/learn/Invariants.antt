use Rattle.std.proofs.Common.{◌-◌, ◌^◌}
use Rattle.std.specs.Prelude.{◌↔◌}
use Rattle.binder_cache.specs.Pass.{IsPassOf, Learns}
use Rattle.binder_cache.proofs.cache.Cache.learn.Given as goal

abbrev pub invariant-loop-pass : goal.invariant-loop-pass
invariant-loop-pass g l =
    IsPassOf l.self l.pass × Learns (g.P.Adopt.admits l.initial.adopt) l.initial.pass l.pass × ((rule : _) (note : _) → g.P.Adopt.admits l.adopt rule note ↔ g.P.Adopt.admits l.initial.adopt rule note)

abbrev pub decreases-loop-pass : goal.decreases-loop-pass
decreases-loop-pass g l = 2 ^ 64 - l.pass.next_look
