use Rattle.std.proofs.Common.{◌<◌, ℕ, List, ◌∷◌, cond, take, length, set, rules, arith, sym, ap, ◌∙◌, subst, Bool}
use Rattle.call_site.specs.declared.memo.Memo.{Memo}
use Rattle.call_site.specs.Places.{target_at, count_at, target_in, ring_in}
use Rattle.call_site.specs.Passes.{words_of, made_of}
use Rattle.call_site.specs.Settled.{Entered}
use Rattle.call_site.specs.Rule.{with_call}
use Rattle.call_site.proofs.Keeps.{exchanges}
use Rattle.call_site.proofs.Words.{settled_target, settled_ring, settled_others, exchanged_target, exchanged_ring, exchanged_other}
use Rattle.call_site.proofs.sites.Sites.settle.Goals as goal

pub swap-requires : goal.swap-requires
swap-requires c = let t = c.args.self.now.table.shared in let seat = c.args.pass.now.seat in
    (search rules, omega (arith, c.args.self.now.sized), exchanges t.key.words t.table_id.slots seat.id _ _ seat.me)

pub returns-then-enters-clause-settles : goal.returns-then-enters-clause-settles
returns-then-enters-clause-settles c one = let old : List ℕ = words_of c.args.pass.now in let site : ℕ = c.args.site in let word : ℕ = c.args.word in let new : List ℕ = words_of c.enter.new.pass in
    let near : count_at site < length old = omega (arith, c.args.self.now.sized, c.requires.own.1) in
    let e = subst (λ (m : Memo). Entered m.made site word m.words new) (ap (λ z. z.0) c.swap.ensures.2 ∙ ap (λ i. with_call c.args.pass.now.seat.me.0 i word) c.target_at.ensures) c.enter.ensures.entered in
    let made : ℕ = made_of c.args.pass.now in record {
      target_is = settled_target old new site word made near e;
      ring_is = settled_ring old new site word made near e one ∙ ap (λ (b : Bool). cond b (word ∷ take 9 (ring_in old site)) (ring_in old site)) (sym c.if-enters.true ∙ c.enters.ensures);
      others = λ other _ ne. settled_others old new site word made near e other ne;
    }

pub returns-else-enters-clause-settles : goal.returns-else-enters-clause-settles
returns-else-enters-clause-settles c one = let old : List ℕ = words_of c.args.pass.now in let site : ℕ = c.args.site in let word : ℕ = c.args.word in
    let near : target_at site < length old = omega (arith, c.args.self.now.sized, c.requires.own.1) in let is = ap (λ z. z.0.words) c.swap.ensures.2 ∙ ap (λ i. set old i word) c.target_at.ensures in record {
      target_is = ap (λ ws. target_in ws site) is ∙ exchanged_target old site word near;
      ring_is = ap (λ ws. ring_in ws site) is ∙ exchanged_ring old site word near site ∙ ap (λ (b : Bool). cond b (word ∷ take 9 (ring_in old site)) (ring_in old site)) (sym c.if-enters.false ∙ c.enters.ensures);
      others = λ other _ ne. (ap (λ ws. target_in ws other) is ∙ exchanged_other old site word near other ne, ap (λ ws. ring_in ws other) is ∙ exchanged_ring old site word near other);
    }
