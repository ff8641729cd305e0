use Rattle.std.proofs.Common.{◌≡◌, slice_get, take, All}
use Rattle.binder_cache.specs.Row.{in_order}
use Rattle.binder_cache.proofs.rows.KnownRules.first_passing.Given as goal

abbrev pub invariant-loop-step : goal.invariant-loop-step
invariant-loop-step g l = (l.at ≡ slice_get l.self.order l._step) × All (λ known. ¬ g.P.Probe.accepts l.probe known.rule) (in_order l.self.rows.items (take l._step l.self.order))
