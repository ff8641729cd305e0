use Rattle.std.proofs.Common.{◌≡◌, slice_get}
use Rattle.binder_cache.proofs.rows.KnownRules.at.Given as goal

abbrev pub invariant-loop-step : goal.invariant-loop-step
invariant-loop-step g l = l.at ≡ slice_get l.self.order l._step
