use Rattle.std.proofs.Common.{refl, arith}
use Rattle.binder_cache.proofs.Learning.{learns_more}
use Rattle.binder_cache.proofs.cache.Cache.learn.Goals as goal

pub loop-pass-smaller : goal.loop-pass-smaller
loop-pass-smaller g c = let on = c.if-learn_next.ensures.on refl in let bounded = c.learn_next.ensures.bounded in omega arith

pub loop-pass-preserved : goal.loop-pass-preserved
loop-pass-preserved g c = let inv = c.loop-pass.invariant in let same = c.learn_next.ensures.same in (
  c.learn_next.ensures.pass,
  learns_more (g.P.Adopt.admits c.args.adopt.now) (g.P.Adopt.admits c.loop-pass.adopt) (λ rule note. (inv.2 rule note).0) c.args.pass.now c.loop-pass.pass c.learn_next.new.pass inv.1 c.learn_next.ensures.learns,
  λ rule note. ((λ h. (inv.2 rule note).0 ((same rule note).0 h)), (λ h. (same rule note).1 ((inv.2 rule note).1 h))),
)

pub returns-else-learn_next-clause-learns : goal.returns-else-learn_next-clause-learns
returns-else-learn_next-clause-learns g c = let inv = c.loop-pass.invariant in
    learns_more (g.P.Adopt.admits c.args.adopt.now) (g.P.Adopt.admits c.loop-pass.adopt) (λ rule note. (inv.2 rule note).0) c.args.pass.now c.loop-pass.pass c.learn_next.new.pass inv.1 c.learn_next.ensures.learns
