-- A pass that is made keeps the rule.
use Rattle.std.proofs.Common.{◌≡◌, ℕ, suc, ◌*◌, ◌<◌, ◌≤◌, ◌≢◌, ⊎_elim, true, false, true≢false, List, [], ◌∷◌, ◌++◌, length, All, get_or, set, sym, refl, ap, ◌∙◌, subst, arith, length-append, length-set}
use mathlib.Core.Option.{some, some-ne-none}
use lib.ListN.{get_elem?}
use Rattle.atomic_table.specs.Table.{State, Splits}
use Rattle.atomic_table.proofs.Lists.{at_set, at_longer}
use Rattle.turn_rows.specs.declared.view.View.{View}
use Rattle.turn_rows.specs.declared.view.Log.{Log}
use Rattle.turn_rows.specs.declared.view.Stage.TheVariants.{Idle}
use Rattle.turn_rows.specs.Lists.{put, sum_below, StartsWith, made_by, times, Rises}
use Rattle.turn_rows.specs.Rule.{Meaning, log, serving, InTurn, HasTicket, IsLog, IsLive, DrawsHold, HasTurn, Sees, RowHolds, RowsHold}
use Rattle.turn_rows.specs.Plays.{splitter, newcomer, with_pass}
use Rattle.turn_rows.proofs.Sums.{at_put, put_here, put_else, sum_after, sum_behind}
use Rattle.turn_rows.proofs.Lists.{at_inside, inside_at, at_behind}
use Rattle.turn_rows.proofs.Keeps.{About, StagesStay, turns_after, about_turn, my_log}
use Rattle.turn_rows.proofs.Draws.{stage_stays}

module _ {S E T : Type 0} (m : Meaning S E T) (shared : ℕ) (start : List S) (t : T) where
  abbrev V : Type 0
  V = View S

  abbrev St : Type 0
  St = State S V

  abbrev Rule : St → Type 0
  Rule = RowsHold m shared start t

  -- the first pass makes another
  module _ (s : St) (r : Rule s) (id : ℕ) (v : V) (at : get_elem? s.views id ≡ some v) (live : v.live ≡ true) (first : v.own.number ≡ 0) (few : v.own.made < 8) where
    abbrev made : ℕ
    made = r.made

    abbrev old : Log S
    old = with_pass v.own

    abbrev new : Log S
    new = log v.own.made 0 0 v.start []

    abbrev logs : ℕ → Log S
    logs = put (put r.logs id old) made new

    abbrev views : List V
    views = set s.views id (splitter v) ++ newcomer v ∷ []

    mine : (id < made) × IsLog (length start) made id v.own × (v.own ≡ r.logs id)
    mine = my_log m shared start t s r id v at live

    at_first : id ≡ 0
    at_first = sym mine.1.numbered ∙ first

    made_is : v.own.made ≡ made
    made_is = mine.1.first at_first

    me : IsLive shared start made r.logs r.keeper id v
    me = (r.each_view id v at).0 live

    old_is : logs id ≡ old
    old_is = put_else (put r.logs id old) made new id (let l = mine.0 in λ e. omega arith) ∙ put_here r.logs id old

    rest_is : (p : ℕ) → p < made → p ≢ id → logs p ≡ r.logs p
    rest_is p l ne = put_else (put r.logs id old) made new p (λ e. omega arith) ∙ put_else r.logs id old p ne

    -- what the new pass has none of, and the first as much as before
    sums : (h : Log S → ℕ) → h old ≡ h v.own → h new ≡ 0 → sum_below (suc made) (λ p. h (logs p)) ≡ sum_below made (λ p. h (r.logs p))
    sums h same empty = let b = sum_behind h made (put r.logs id old) new in let a = sum_after h made id r.logs old mine.0 in let o : h (r.logs id) ≡ h v.own = ap h (sym mine.2) in omega arith

    -- a fact of each log that the first pass's old log gives, and a new pass has
    each : (F : ℕ → Log S → Type 0) → (F id v.own → F id old) → F made new → ((p : ℕ) → p < made → F p (r.logs p)) → (p : ℕ) → p < suc made → F p (logs p)
    each F more fresh was p l = at_put (put r.logs id old) made new F p fresh (λ ne. let l' : p < made = omega arith in
        at_put r.logs id old F p (more (subst (F id) (sym mine.2) (was id mine.0))) (λ _. was p l'))

    stays : (b : ℕ) → StagesStay b s.views views
    stays b i d e about = let o = stage_stays s.views id v (splitter v) b at refl i d e about in (o.0, at_longer (set s.views id (splitter v)) (newcomer v ∷ []) i o.0 o.1, o.2)

    row_kept : (b : ℕ) → b < length start → RowHolds m t s.words s.homes views (suc made) logs (r.rows b) b
    row_kept b l = let ok = r.each_row b l in let x : S = (r.rows b).state in record {
      behind = ok.behind;
      bound = let e = sums (λ z. z.calls) refl refl in let o = ok.bound in omega arith;
      waits = λ k lo hi. let o = ok.waits k lo hi in let d = stays b ((r.rows b).waiter k) o.0 o.1 (subst (About b) (sym o.2) refl) in (d.0, d.1, d.2 ∙ o.2);
      served = λ g. let o = ok.served g in let d = stays b ((r.rows b).waiter (serving s.words b)) o.0 o.1 (about_turn m s.homes b (serving s.words b) x o.0.stage o.2) in
          (d.0, d.1, subst (HasTurn m s.homes b (serving s.words b) x) (sym d.2) o.2);
      rests = ok.rests;
      tagged = ok.tagged;
      seen = each (λ _ c. Sees m c b x) (λ h. h) (let y = inside_at start b l in let none = (r.fresh b y.0 y.1).0 in (
        y.0,
        ap (λ (z : List S). get_elem? z b) me.of_start ∙ y.1,
        subst (StartsWith (m.entries x)) (sym none) (m.entries x, refl),
        ok.no_other v.own.made (let e = made_is in let g : made ≤ v.own.made = omega arith in g) ∙ ap (made_by m.by v.own.made) (sym none),
      )) ok.seen;
      alone = λ e. absurd (let p = r.some_pass in omega arith);
      no_other = λ p g. ok.no_other p (let g' : made ≤ p = omega arith in g');
    }

    live_after : (j : ℕ) (d : V) → get_elem? s.views j ≡ some d → j ≢ id → IsLive shared start made r.logs r.keeper j d → IsLive shared start (suc made) logs (put r.keeper made made) j d
    live_after j d e ne o = let inside : j < made = subst (λ (n : ℕ). j < n) r.counted (at_inside s.views j d e) in record {
      own = o.own ∙ sym (rest_is j inside ne);
      itself = put_else r.keeper made made j (λ g. omega arith) ∙ o.itself;
      of_shared = o.of_shared;
      of_start = o.of_start;
      keeps = λ i k g. let q = o.keeps i k g in let l = q.2 in (q.0 ∙ sym (rest_is k.number l (λ is. ne (sym q.1 ∙ (ap r.keeper is ∙ me.itself)))), put_else r.keeper made made k.number (λ g. omega arith) ∙ q.1, omega arith, q.3);
    }

    first_after : IsLive shared start (suc made) logs (put r.keeper made made) id (splitter v)
    first_after = let inside = mine.0 in record {
      own = sym old_is;
      itself = put_else r.keeper made made id (λ g. omega arith) ∙ me.itself;
      of_shared = me.of_shared;
      of_start = me.of_start;
      keeps = λ i k g. let q = me.keeps i k g in let l = q.2 in (q.0 ∙ sym (rest_is k.number l q.3), put_else r.keeper made made k.number (λ g. omega arith) ∙ q.1, omega arith, q.3);
    }

    other_is : IsLive shared start (suc made) logs (put r.keeper made made) made (newcomer v)
    other_is = record {
      own = sym (put_here (put r.logs id old) made new);
      itself = put_here r.keeper made made;
      of_shared = me.of_shared;
      of_start = me.of_start;
      keeps = λ i k g. absurd (some-ne-none k (sym g));
    }

    abbrev ViewOk : ℕ → V → Type 0
    ViewOk j d = (d.live ≡ true → IsLive shared start (suc made) logs (put r.keeper made made) j d) × (d.live ≡ false → d.stage ≡ Idle)

    views_ok : (j : ℕ) (d : V) → get_elem? views j ≡ some d → ViewOk j d
    views_ok j d e = ⊎_elim
        (λ (h : get_elem? (set s.views id (splitter v)) j ≡ some d). ⊎_elim
        (λ (q : (j ≡ id) × (splitter v ≡ d)). subst (λ (z : ℕ × V). ViewOk z.0 z.1) (λ i. (sym q.0 i, q.1 i)) ((λ _. first_after), λ no. absurd (true≢false (sym live ∙ no))))
        (λ (q : (j ≢ id) × (get_elem? s.views j ≡ some d)). let o = r.each_view j d q.1 in ((λ yes. live_after j d q.1 q.0 (o.0 yes)), o.1)) (at_set s.views id j (splitter v) d h))
        (λ (h : (j ≡ length (set s.views id (splitter v))) × (newcomer v ≡ d)). subst (λ (z : ℕ × V). ViewOk z.0 z.1) (λ i. (sym (h.0 ∙ (length-set s.views id (splitter v) ∙ r.counted)) i, h.1 i)) ((λ _. other_is), λ _. refl))
        (at_behind (set s.views id (splitter v)) (newcomer v) d j e)

    abbrev Tickets : ℕ → ℕ → ℕ → Type 0
    Tickets = HasTicket start r.rows s.words

    stages_ok : (j : ℕ) (d : V) → get_elem? views j ≡ some d → InTurn (Tickets j) d.stage
    stages_ok j d e = ⊎_elim (turns_after s.views id (splitter v) Tickets Tickets r.each_stage (λ _ _ _ _ h. h) (r.each_stage id v at) j d)
        (λ (h : (j ≡ length (set s.views id (splitter v))) × (newcomer v ≡ d)). subst (λ (z : V). InTurn (Tickets j) z.stage) h.1 tt) (at_behind (set s.views id (splitter v)) (newcomer v) d j e)

    logs_ok : (p : ℕ) → p < suc made → IsLog (length start) (suc made) p (logs p)
    logs_ok p l = at_put (put r.logs id old) made new (IsLog (length start) (suc made)) p
        record { numbered = made_is; first = λ e. absurd (let q = r.some_pass in omega arith); later = λ _. refl; few = omega arith; long = ap length me.of_start }
        (λ ne. let l' : p < made = omega arith in at_put r.logs id old (IsLog (length start) (suc made)) p
        record { numbered = mine.1.numbered; first = λ _. let e = made_is in omega arith; later = λ g. absurd (let z = at_first in omega arith); few = mine.1.few; long = mine.1.long }
        (λ apart. let o = r.each_log p l' in record { numbered = o.numbered; first = λ e. absurd (apart (e ∙ sym at_first)); later = o.later; few = o.few; long = o.long }))

    draws_ok : DrawsHold shared (get_or s.words (length start * 8) 0) (suc made) logs
    draws_ok = let d = r.draws in record {
      bound = let e = sums (λ z. z.calls) refl refl in let b = d.bound in omega arith;
      drawn = record {
        least = d.drawn.least;
        once = λ x l u. sums (λ z. times x z.draws) refl refl ∙ d.drawn.once x l u;
        no_other = λ x out. sums (λ z. times x z.draws) refl refl ∙ d.drawn.no_other x out;
        rise = each (λ _ c. Rises c.draws) (λ h. h) tt d.drawn.rise;
      };
      below = each (λ _ c. All (λ x. x < get_or s.words (length start * 8) 0) c.draws) (λ h. h) (λ k _ l. absurd (omega arith)) d.below;
      alone = λ e. absurd (let p = r.some_pass in omega arith);
    }

    split_keeps : Rule record { words = s.words; homes = s.homes; views = views }
    split_keeps = record {
      made = suc made;
      logs = logs;
      keeper = put r.keeper made made;
      rows = r.rows;
      wide = r.wide;
      slots = r.slots;
      counted = length-append (set s.views id (splitter v)) (newcomer v ∷ []) ∙ (let e = length-set s.views id (splitter v) in let c = r.counted in omega arith);
      few = let e = made_is in omega arith;
      some_pass = omega arith;
      few_rows = r.few_rows;
      small = r.small;
      fresh = r.fresh;
      each_row = row_kept;
      each_stage = stages_ok;
      each_view = views_ok;
      each_log = logs_ok;
      draws = draws_ok;
    }

  pub splits : (id : ℕ) (v : V) → v.live ≡ true → v.own.number ≡ 0 → v.own.made < 8 → Splits Rule id v (splitter v) (newcomer v)
  splits id v live first few s r at = split_keeps s r id v at live first few
