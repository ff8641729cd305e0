use Rattle.std.proofs.Common.{◌≡◌, ℕ, sym, subst, arith, ◌∙◌}
use mathlib.Core.Logic.{dite}
use native.Mathlib.Decide.{ℕ_discrete}
use Rattle.binder_cache.specs.Pass.{known_of}
use Rattle.call_site.specs.Passes.{words_of}
use Rattle.call_site.specs.Places.{entered_in}
use Rattle.call_site.specs.Chosen.{Hits, PassedOver}
use Rattle.call_site.proofs.Tries.{all_each, hit_at, found_is}
use Rattle.call_site.proofs.sites.Sites.in_ring.Goals as goal

pub returns-in-Some-clause-hit : goal.returns-in-Some-clause-hit
returns-in-Some-clause-hit g c one = let P = g.P.Probe.accepts c.args.probe.now in let known = known_of c.args.cache_pass.now in let words = words_of c.args.pass.now in let site : ℕ = c.args.site in let age : ℕ = c.loop-age.age in
    let word : c.load-word.result ≡ entered_in words site age = found_is c.args.pass.now.seat.me.0 c.loop-age.pass.seat.me.0 c.loop-age.invariant.same.1 one site c.load-entries.result c.load-word.result age c.count_at.result c.place_of.result c.ring_at.result c.count_at.ensures c.place_of.ensures.place c.ring_at.ensures c.load-entries.ensures.alone c.load-word.ensures.alone in
    hit_at P known (entered_in words site) 10 age c.in-Some.rule c.loop-age-test.true (c.loop-age.invariant.over one) (subst (λ (w : ℕ). Hits P known w c.in-Some.rule) word c.in-Some.ensures.hit)

pub loop-age-preserved : goal.loop-age-preserved
loop-age-preserved g c = let P = g.P.Probe.accepts c.args.probe.now in let known = known_of c.args.cache_pass.now in let words = words_of c.args.pass.now in let site : ℕ = c.args.site in let last : ℕ = c.loop-age.age in record {
  same = (c.load-word.ensures.same.0 ∙ c.loop-age.invariant.same.0, c.load-word.ensures.same.1 ∙ c.loop-age.invariant.same.1);
  over = λ one age l. let word : c.load-word.result ≡ entered_in words site last = found_is c.args.pass.now.seat.me.0 c.loop-age.pass.seat.me.0 c.loop-age.invariant.same.1 one site c.load-entries.result c.load-word.result last c.count_at.result c.place_of.result c.ring_at.result c.count_at.ensures c.place_of.ensures.place c.ring_at.ensures c.load-entries.ensures.alone c.load-word.ensures.alone in
      dite (ℕ_discrete age last)
      (λ e. subst (λ (w : ℕ). PassedOver P known (entered_in words site w)) (sym e) (subst (PassedOver P known) word c.in_default.ensures.over))
      (λ n. c.loop-age.invariant.over one age (omega arith));
}

pub returns-clause-over : goal.returns-clause-over
returns-clause-over g c one = let P = g.P.Probe.accepts c.args.probe.now in let known = known_of c.args.cache_pass.now in let words = words_of c.args.pass.now in
    all_each (PassedOver P known) (entered_in words c.args.site) 10 (λ age l. c.loop-age.invariant.over one age (omega arith))
