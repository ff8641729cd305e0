use Rattle.std.proofs.Common.{ℕ, ◌≡◌, ap, ◌∙◌, subst, All}
use Rattle.call_site.specs.declared.memo.Memo.{Memo}
use Rattle.call_site.specs.Places.{target_in, ring_in}
use Rattle.binder_cache.specs.Pass.{known_of}
use Rattle.call_site.specs.Chosen.{Hits, PassedOver, FirstHit}
use Rattle.call_site.proofs.Tries.{target_is}
use Rattle.call_site.proofs.sites.Sites.select.Goals as goal

pub returns-in-Some-clause-tries : goal.returns-in-Some-clause-tries
returns-in-Some-clause-tries g c one = let P = g.P.Probe.accepts c.args.probe.now in let known = known_of c.args.cache_pass.now in
    let target : c.load-target.result ≡ target_in c.args.pass.now.seat.me.0.words c.args.site = target_is c.args.pass.now.seat.me.0.words c.args.site c.target_at.result c.load-target.result c.target_at.ensures (c.load-target.ensures.alone one) in
    subst (λ (w : ℕ). Hits P known w c.in-Some.rule) target c.in-Some.ensures.hit

pub returns-in-Some-in_ring-clause-tries : goal.returns-in-Some-in_ring-clause-tries
returns-in-Some-in_ring-clause-tries g c one = let P = g.P.Probe.accepts c.args.probe.now in let known = known_of c.args.cache_pass.now in
    let target : c.load-target.result ≡ target_in c.args.pass.now.seat.me.0.words c.args.site = target_is c.args.pass.now.seat.me.0.words c.args.site c.target_at.result c.load-target.result c.target_at.ensures (c.load-target.ensures.alone one) in
    (subst (PassedOver P known) target c.in_default.ensures.over, subst (λ (m : Memo). FirstHit P known (ring_in m.words c.args.site) c.in-Some-in_ring.rule) c.load-target.ensures.same.1 (c.in-Some-in_ring.ensures.hit (ap (λ (m : Memo). m.made) c.load-target.ensures.same.1 ∙ one)))

pub returns-in-Some-find-clause-tries : goal.returns-in-Some-find-clause-tries
returns-in-Some-find-clause-tries g c one = let P = g.P.Probe.accepts c.args.probe.now in let known = known_of c.args.cache_pass.now in
    let target : c.load-target.result ≡ target_in c.args.pass.now.seat.me.0.words c.args.site = target_is c.args.pass.now.seat.me.0.words c.args.site c.target_at.result c.load-target.result c.target_at.ensures (c.load-target.ensures.alone one) in
    (subst (PassedOver P known) target c.in_default.ensures.over, subst (λ (m : Memo). All (PassedOver P known) (ring_in m.words c.args.site)) c.load-target.ensures.same.1 (c.in_default-in_ring.ensures.over (ap (λ (m : Memo). m.made) c.load-target.ensures.same.1 ∙ one)))

pub returns-in-None-clause-tries : goal.returns-in-None-clause-tries
returns-in-None-clause-tries g c one = let P = g.P.Probe.accepts c.args.probe.now in let known = known_of c.args.cache_pass.now in
    let target : c.load-target.result ≡ target_in c.args.pass.now.seat.me.0.words c.args.site = target_is c.args.pass.now.seat.me.0.words c.args.site c.target_at.result c.load-target.result c.target_at.ensures (c.load-target.ensures.alone one) in
    (subst (PassedOver P known) target c.in_default.ensures.over, subst (λ (m : Memo). All (PassedOver P known) (ring_in m.words c.args.site)) c.load-target.ensures.same.1 (c.in_default-in_ring.ensures.over (ap (λ (m : Memo). m.made) c.load-target.ensures.same.1 ∙ one)))
