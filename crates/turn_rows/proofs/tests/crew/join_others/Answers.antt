use Rattle.std.proofs.Common.{arith, ◌≡◌, ◌<◌, ◌+◌, ℕ, suc, List, [], ◌∷◌, ◌++◌, Bool, cond, length, get_or, sym, refl, ap, ◌∙◌, subst, eq-eqb}
use mathlib.Core.Logic.{dite}
use native.Mathlib.Decide.{ℕ_discrete}
use lib.ListN.{get_elem?}
use mathlib.Core.Option.{some}
use Rattle.std.proofs.Math.ListN.{get_or-append}
use Rattle.std.proofs.Math.Seq.{get_or-append_seam}
use Rattle.atomic_table.proofs.Lists.{at_longer}
use Rattle.turn_rows.specs.declared.view.Log.{Log}
use Rattle.turn_rows.specs.Passes.{IsAlone, HasLog, HasAll, passes_made, log_numbered, log_of, kept_of}
use Rattle.turn_rows.proofs.tests.crew.join_others.Goals as goal

has_more : {S : Type 0} (q : ℕ) (cs ds : List (Log S)) → HasLog q cs → HasLog q (cs ++ ds)
has_more q cs ds h = (h.0, h.1, at_longer cs ds h.0 h.1 h.2, h.3)

has_new : {S : Type 0} (cs ds : List (Log S)) (c : Log S) → HasLog c.number (cs ++ c ∷ ds)
has_new cs ds c = (length cs, c, here cs ds c, refl)
  where
    here : {S : Type 0} (cs ds : List (Log S)) (c : Log S) → get_elem? (cs ++ c ∷ ds) (length cs) ≡ some c
    here [] ds c = refl
    here (d ∷ cs) ds c = here cs ds c

-- a pass with the number 0 that keeps the logs of all others
has_all : {S : Type 0} (c : Log S) (kept : List (Log S)) → c.number ≡ 0 → 0 < c.made → ((q : ℕ) → 0 < q → q < c.made → HasLog q kept) → HasAll (c ∷ kept)
has_all c kept zero_is pos each = let made_is : passes_made (c ∷ kept) ≡ c.made = ap (λ (b : Bool). (cond b c (log_numbered 0 kept)).made) (eq-eqb c.number 0 zero_is) in (
  subst (λ (n : ℕ). 0 < n) (sym made_is) pos,
  λ p l. dite (ℕ_discrete p 0) (λ e. (0, c, refl, zero_is ∙ sym e)) (λ n. let h = each p (omega arith) (subst (λ (n : ℕ). p < n) made_is l) in (suc h.0, h.1, h.2, h.3)),
)

pub loop-other-preserved : goal.loop-other-preserved
loop-other-preserved c = let inv = c.loop-other.invariant in let olds = c.loop-other.others.items in let news = c.pop.new.self.items in let other = c.in-Some.other in let is = c.in-Some.ensures.items in let cases = c.in-Some.ensures.cases in
    let made : (log_of c.join.new.pass).made ≡ (log_of c.loop-other.first).made = ap (λ z. z.made) c.join.ensures.log in let down : length news + 1 ≡ length olds = omega arith in (
      c.join.ensures.own,
      c.join.ensures.log ∙ inv.1,
      (let l = inv.2 in omega arith),
      λ k d l. subst (λ z. IsAlone c.args.rows.now (k + 1) z) (ap (λ z. get_or z k d) is ∙ get_or-append news (other ∷ []) d k l) (inv.3 k d (omega arith)),
      λ q lo hi. subst (HasLog q) (sym c.join.ensures.kept) (dite (ℕ_discrete q (length olds))
          (λ e. let last = inv.3 (length news) other (omega arith) in let number = ap (λ z. (log_of z).number) (sym (ap (λ z. get_or z (length news) other) is ∙ get_or-append_seam news other [] other)) ∙ last.1 in
          subst (λ n. HasLog n (kept_of c.loop-other.first ++ log_of other ∷ kept_of other)) (number ∙ (omega arith)) (has_new (kept_of c.loop-other.first) (kept_of other) (log_of other)))
          (λ n. has_more q (kept_of c.loop-other.first) (log_of other ∷ kept_of other) (inv.4 q (omega arith) (omega arith)))),
    )

pub returns : goal.returns
returns c = let inv = c.loop-other.invariant in let none = c.in_default.ensures.cases in let log = inv.1 in
    (inv.0, has_all (log_of c.loop-other.first) (kept_of c.loop-other.first) (ap (λ z. z.number) log ∙ c.requires.first.0.1) (let l = inv.2 in omega arith) (λ q lo hi. inv.4 q (omega arith) hi))
