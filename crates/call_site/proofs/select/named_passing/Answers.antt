use Rattle.std.proofs.Common.{◌≡◌, true, false, sym, subst, inr, Contains}
use Rattle.binder_cache.specs.Pass.{known_of}
use Rattle.call_site.proofs.select.named_passing.Goals as goal

pub returns-then-passes-clause-hit : goal.returns-then-passes-clause-hit
returns-then-passes-clause-hit g c = let P = g.P.Probe.accepts c.args.probe.now in let a = c.in_ok-rule.ensures.some in let here : Contains (known_of c.args.cache_pass.now) a.1 = (a.0, a.2, a.3) in
    (a.0, a.1, a.2, a.3, (a.4.0, a.4.1, subst P (c.show.ensures a.1 here a.4.1) (c.passes.ensures.0 c.if-passes.true)))

pub returns-else-passes-clause-over : goal.returns-else-passes-clause-over
returns-else-passes-clause-over g c = let P = g.P.Probe.accepts c.args.probe.now in let a = c.in_ok-rule.ensures.some in let here : Contains (known_of c.args.cache_pass.now) a.1 = (a.0, a.2, a.3) in
    inr (a.0, a.1, a.2, a.3, (a.4.0, λ p. let t : c.passes.result ≡ true = c.passes.ensures.1 (subst P (sym (c.show.ensures a.1 here a.4.1)) p) in let f : c.passes.result ≡ false = c.if-passes.false in absurd (cc)))
