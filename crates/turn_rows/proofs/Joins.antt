-- A pass that is joined keeps the rule.
use Rattle.std.proofs.Common.{◌≡◌, ℕ, zero, suc, ◌<◌, ◌≢◌, ⊎_elim, true, false, true≢false, List, ◌∷◌, set, sym, refl, ap, ◌∙◌, subst, length-set, le_refl}
use mathlib.Core.Logic.{dite}
use mathlib.Core.Option.{some, some-injective}
use native.Mathlib.Decide.{ℕ_discrete}
use lib.ListN.{get_elem?}
use Rattle.atomic_table.specs.Table.{State, Joins}
use Rattle.atomic_table.proofs.Lists.{at_set, set_else}
use Rattle.turn_rows.specs.declared.view.View.{View}
use Rattle.turn_rows.specs.declared.view.Log.{Log}
use Rattle.turn_rows.specs.declared.view.Stage.TheVariants.{Idle}
use Rattle.turn_rows.specs.Lists.{put}
use Rattle.turn_rows.specs.Rule.{Meaning, HasTicket, IsLive, RowsHold}
use Rattle.turn_rows.specs.Plays.{joined, spent}
use Rattle.turn_rows.proofs.Sums.{put_here, put_else}
use Rattle.turn_rows.proofs.Lists.{same_at, at_either}
use Rattle.turn_rows.proofs.Keeps.{About, StagesStay, turns_after, row_stays, my_log}
use Rattle.turn_rows.proofs.Draws.{stage_stays}

module _ {S E T : Type 0} (m : Meaning S E T) (shared : ℕ) (start : List S) (t : T) where
  abbrev V : Type 0
  V = View S

  abbrev St : Type 0
  St = State S V

  abbrev Rule : St → Type 0
  Rule = RowsHold m shared start t

  -- the pass id takes in another, which waits for no turn
  module _ (s : St) (r : Rule s) (id other : ℕ) (v w : V) (at : get_elem? s.views id ≡ some v) (there : get_elem? s.views other ≡ some w) (apart : other ≢ id) (live : v.live ≡ true) (live' : w.live ≡ true) (idle : w.stage ≡ Idle) where
    -- who keeps the log of a pass afterwards
    abbrev keeper : ℕ → ℕ
    keeper p = put (λ q. q) other id (r.keeper p)

    abbrev both : V
    both = joined v w

    me : IsLive shared start r.made r.logs r.keeper id v
    me = (r.each_view id v at).0 live

    them : IsLive shared start r.made r.logs r.keeper other w
    them = (r.each_view other w there).0 live'

    kept_on : (p j : ℕ) → j ≢ other → r.keeper p ≡ j → keeper p ≡ j
    kept_on p j ne e = ap (put (λ q. q) other id) e ∙ put_else (λ q. q) other id j ne

    handed : (p : ℕ) → r.keeper p ≡ other → keeper p ≡ id
    handed p e = ap (put (λ q. q) other id) e ∙ put_here (λ q. q) other id

    not_other : id ≢ other
    not_other e = apart (sym e)

    abbrev Kept : Log S → Type 0
    Kept c = (c ≡ r.logs c.number) × (keeper c.number ≡ id) × (c.number < r.made) × (c.number ≢ id)

    theirs : Kept w.own
    theirs = let log = my_log m shared start t s r other w there live' in let n = log.1.numbered in
        (log.2 ∙ ap r.logs (sym n), handed w.own.number (ap r.keeper n ∙ them.itself), subst (λ (z : ℕ). z < r.made) (sym n) log.0, λ e. apart (sym n ∙ e))

    they_kept : (i : ℕ) (c : Log S) → get_elem? w.kept i ≡ some c → Kept c
    they_kept i c e = let q = them.keeps i c e in (q.0, handed c.number q.1, q.2, λ is. apart (sym q.1 ∙ (ap r.keeper is ∙ me.itself)))

    taken : (i : ℕ) (c : Log S) → get_elem? (w.own ∷ w.kept) i ≡ some c → Kept c
    taken zero c e = subst Kept (some-injective w.own c e) theirs
    taken (suc i) c e = they_kept i c e

    both_live : IsLive shared start r.made r.logs keeper id both
    both_live = record {
      own = me.own;
      itself = kept_on id id not_other me.itself;
      of_shared = me.of_shared;
      of_start = me.of_start;
      keeps = λ i c e. ⊎_elim (λ (h : (j : ℕ) × (get_elem? v.kept j ≡ some c)). let q = me.keeps h.0 c h.1 in (q.0, kept_on c.number id not_other q.1, q.2, q.3))
          (λ (h : (j : ℕ) × (get_elem? (w.own ∷ w.kept) j ≡ some c)). taken h.0 c h.1) (at_either v.kept (w.own ∷ w.kept) c i e);
    }

    abbrev views : List V
    views = set (set s.views id both) other spent

    stays : (b : ℕ) → StagesStay b s.views views
    stays b i d e about = dite (ℕ_discrete i other)
        (λ q. absurd (subst (About b) (ap (λ (z : V). z.stage) (same_at s.views other d w (subst (λ (z : ℕ). get_elem? s.views z ≡ some d) q e) there) ∙ idle) about))
        (λ n. let o = stage_stays s.views id v both b at refl i d e about in (o.0, set_else (set s.views id both) other i spent n ∙ o.1, o.2))

    abbrev ViewOk : ℕ → V → Type 0
    ViewOk j d = (d.live ≡ true → IsLive shared start r.made r.logs keeper j d) × (d.live ≡ false → d.stage ≡ Idle)

    view_ok : (j : ℕ) (d : V) → j ≢ other → get_elem? s.views j ≡ some d → ViewOk j d
    view_ok j d ne e = let old = r.each_view j d e in (
      (λ yes. let o = old.0 yes in record {
        own = o.own;
        itself = kept_on j j ne o.itself;
        of_shared = o.of_shared;
        of_start = o.of_start;
        keeps = λ i c g. let q = o.keeps i c g in (q.0, kept_on c.number j ne q.1, q.2, q.3);
      }),
      old.1,
    )

    views_ok : (j : ℕ) (d : V) → get_elem? views j ≡ some d → ViewOk j d
    views_ok j d e = ⊎_elim (λ (h : (j ≡ other) × (spent ≡ d)). subst (ViewOk j) h.1 ((λ yes. absurd (true≢false (sym yes))), λ _. refl))
        (λ (h : (j ≢ other) × (get_elem? (set s.views id both) j ≡ some d)). ⊎_elim
        (λ (q : (j ≡ id) × (both ≡ d)). subst (λ (z : ℕ × V). ViewOk z.0 z.1) (λ i. (sym q.0 i, q.1 i)) ((λ _. both_live), λ no. absurd (true≢false (sym live ∙ no))))
        (λ (q : (j ≢ id) × (get_elem? s.views j ≡ some d)). view_ok j d h.0 q.1) (at_set s.views id j both d h.1))
        (at_set (set s.views id both) other j spent d e)

    abbrev Tickets : ℕ → ℕ → ℕ → Type 0
    Tickets = HasTicket start r.rows s.words

    join_keeps : Rule record { words = s.words; homes = s.homes; views = views }
    join_keeps = record {
      made = r.made;
      logs = r.logs;
      keeper = keeper;
      rows = r.rows;
      wide = r.wide;
      slots = r.slots;
      counted = length-set (set s.views id both) other spent ∙ (length-set s.views id both ∙ r.counted);
      few = r.few;
      some_pass = r.some_pass;
      few_rows = r.few_rows;
      small = r.small;
      fresh = r.fresh;
      each_row = λ b l. row_stays m t s.words s.words s.homes s.homes s.views views r.made r.logs r.logs (r.rows b) b refl refl (le_refl _) refl (stays b) (λ _. (refl, refl)) (r.each_row b l);
      each_stage = turns_after (set s.views id both) other spent Tickets Tickets (turns_after s.views id both Tickets Tickets r.each_stage (λ _ _ _ _ h. h) (r.each_stage id v at)) (λ _ _ _ _ h. h) tt;
      each_view = views_ok;
      each_log = r.each_log;
      draws = r.draws;
    }

  pub joins : (id : ℕ) (v : V) (other : ℕ) (w : V) → v.live ≡ true → w.live ≡ true → w.stage ≡ Idle → Joins Rule id v other w (joined v w) spent
  joins id v other w live live' idle s r at apart there = join_keeps s r id other v w at (sym (set_else s.views id other (joined v w) apart) ∙ there) apart live live' idle
