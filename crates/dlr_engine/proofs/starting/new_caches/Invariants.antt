use Rattle.std.proofs.Common.{◌≡◌, length}
use Rattle.dlr_engine.proofs.starting.new_caches.Given as goal

abbrev pub invariant-loop-cache : goal.invariant-loop-cache
invariant-loop-cache l = length l.caches.items ≡ l._cache
