-- A draw keeps the rule.
use Rattle.std.proofs.Common.{◌≡◌, ℕ, ◌+◌, ◌*◌, ◌^◌, ◌%◌, ◌<◌, ◌≤◌, ◌≢◌, ⊎_elim, inl, inr, true, List, [], ◌∷◌, ◌++◌, length, All, get_or, set, sym, refl, ap, ◌∙◌, subst, arith, length-append, length-set, get_or-set_same, get_or-set_other, mod-eq_of_lt, le_refl}
use mathlib.Core.Logic.{dite}
use mathlib.Core.Option.{some, none}
use native.Mathlib.Decide.{ℕ_discrete}
use lib.ListN.{get_elem?}
use Rattle.atomic_table.specs.Table.{State, Me, step, keeps, Allows}
use Rattle.atomic_table.proofs.Lists.{set_here, set_else}
use Rattle.turn_rows.specs.declared.view.View.{View}
use Rattle.turn_rows.specs.declared.view.Log.{Log}
use Rattle.turn_rows.specs.Lists.{put, sum_below, times, Rises}
use Rattle.turn_rows.specs.Rule.{Meaning, HasTicket, DrawsHold, RowsHold}
use Rattle.turn_rows.specs.Plays.{moved, with_draw, drawn}
use Rattle.turn_rows.proofs.Sums.{at_put, sum_after}
use Rattle.turn_rows.proofs.Lists.{same_at, at_inside, times_here, times_else, rises_more, below_more}
use Rattle.turn_rows.proofs.Keeps.{Follows, StagesStay, in_turn, turns_after, row_stays, views_after, my_log, logs_after, calls_grow, logs_stay}
use Rattle.turn_rows.proofs.Steps.{few_calls, alone_is}

module _ {S : Type 0} where
  -- a view that stays in its stage
  pub stage_stays : (vs : List (View S)) (id : ℕ) (v w : View S) (b : ℕ) → get_elem? vs id ≡ some v → w.stage ≡ v.stage → StagesStay b vs (set vs id w)
  stage_stays vs id v w b at same i d e _ = dite (ℕ_discrete i id)
      (λ q. (w, ap (get_elem? (set vs id w)) q ∙ set_here vs id w (at_inside vs id v at), same ∙ ap (λ (z : View S). z.stage) (same_at vs id v d at (subst (λ (z : ℕ). get_elem? vs z ≡ some d) q e))))
      (λ n. (d, set_else vs id i w n ∙ e, refl))

module _ {S E T : Type 0} (m : Meaning S E T) (shared : ℕ) (start : List S) (t : T) where
  abbrev V : Type 0
  V = View S

  abbrev St : Type 0
  St = State S V

  abbrev Rule : St → Type 0
  Rule = RowsHold m shared start t

  -- the numbers drawn, after x was drawn by the pass id
  draws_after : (s : St) (r : Rule s) (id : ℕ) (v : V) (x : ℕ) → get_elem? s.views id ≡ some v → v.live ≡ true → v.own.calls < 2 ^ 60 → get_or s.words (length start * 8) 0 ≡ x
      → sum_below r.made (λ p. (put r.logs id (with_draw v.own x) p).calls) ≡ sum_below r.made (λ p. (r.logs p).calls) + 1 → DrawsHold shared (x + 1) r.made (put r.logs id (with_draw v.own x))
  draws_after s r id v x at live few is up = let c : Log S = with_draw v.own x in let cs : ℕ → Log S = r.logs in let cs' : ℕ → Log S = put cs id c in let mine = my_log m shared start t s r id v at live in let old = subst (λ (z : ℕ). DrawsHold shared z r.made cs) is r.draws in
      let sums : (y : ℕ) → sum_below r.made (λ p. times y (cs' p).draws) + times y v.own.draws ≡ sum_below r.made (λ p. times y (cs p).draws) + times y (v.own.draws ++ x ∷ []) =
      (λ y. let e = sum_after (λ (z : Log S). times y z.draws) r.made id cs c mine.0 in let o : times y (cs id).draws ≡ times y v.own.draws = ap (λ (z : Log S). times y z.draws) (sym mine.2) in omega arith) in
      let apart : (y : ℕ) → y ≢ x → sum_below r.made (λ p. times y (cs' p).draws) ≡ sum_below r.made (λ p. times y (cs p).draws) = (λ y n. let e = sums y in let o = times_else y x v.own.draws (λ q. n (sym q)) in omega arith) in
      let least = old.drawn.least in record {
        bound = let b = old.bound in omega arith;
        drawn = record {
          least = omega arith;
          once = λ y lo hi. dite (ℕ_discrete y x)
              (λ e. subst (λ (z : ℕ). sum_below r.made (λ p. times z (cs' p).draws) ≡ 1) (sym e) (let q = sums x in let o = times_here x v.own.draws in let n = old.drawn.no_other x (inr (le_refl x)) in omega arith))
              (λ n. apart y n ∙ old.drawn.once y lo (omega arith));
          no_other = λ y out. ⊎_elim (λ (l : y < shared). apart y (λ e. omega arith) ∙ old.drawn.no_other y (inl l)) (λ (l : x + 1 ≤ y). apart y (λ e. omega arith) ∙ old.drawn.no_other y (inr (let g : x ≤ y = omega arith in g))) out;
          rise = λ p l. at_put cs id c (λ q z. q < r.made → Rises z.draws) p (λ u. rises_more x x v.own.draws (le_refl x) (subst (λ (z : Log S). All (λ y. y < x) z.draws) (sym mine.2) (old.below id u)) (subst (λ (z : Log S). Rises z.draws) (sym mine.2) (old.drawn.rise id u)))
              (λ _. old.drawn.rise p) l;
        };
        below = λ p l. at_put cs id c (λ q z. q < r.made → All (λ y. y < x + 1) z.draws) p (λ u. below_more x v.own.draws (subst (λ (z : Log S). All (λ y. y < x) z.draws) (sym mine.2) (old.below id u)))
            (λ _ u k d h. let o = old.below p u k d h in omega arith) l;
        alone = λ one. at_put cs id c (λ q z. q ≡ 0 → x + 1 ≡ shared + length z.draws) 0
            (λ z. let a = old.alone one in let e : length (cs 0).draws ≡ length v.own.draws = ap (λ (y : Log S). length y.draws) (ap cs (sym z) ∙ sym mine.2) in let g = length-append v.own.draws (x ∷ []) in omega arith)
            (λ ne. absurd (let l = mine.0 in ne (omega arith))) refl;
      }

  draws : (slots id : ℕ) (me : Me S V) → me.0.live ≡ true → me.0.own.calls < 2 ^ 60 → Allows Rule slots id me (length start * 8) (λ w. (w + 1) % 2 ^ 64) (drawn (step slots (length start * 8) 1 0 none) me)
  draws slots id me live few s r _ at _ = let v : V = me.0 in let n : ℕ = length start in let x : ℕ = get_or s.words (n * 8) 0 in let c : Log S = with_draw v.own x in let cs : ℕ → Log S = put r.logs id c in let w : V = moved v v.stage c in
      let mine = my_log m shared start t s r id v at live in let f : Follows v.own c = record { number = refl; made = refl; more = omega arith; few = omega arith; long = refl } in
      let sums = sum_after (λ (z : Log S). z.calls) r.made id r.logs c mine.0 in let own : (r.logs id).calls ≡ v.own.calls = ap (λ (z : Log S). z.calls) (sym mine.2) in
      let up : sum_below r.made (λ p. (cs p).calls) ≡ sum_below r.made (λ p. (r.logs p).calls) + 1 = omega arith in let most = few_calls m shared start t r.made cs r.few (logs_after m shared start t s r id v c at live f) in
      let bound = r.draws.bound in let few_rows = r.few_rows in let small = r.small in let wide = r.wide in let exact : (x + 1) % 2 ^ 64 ≡ x + 1 = mod-eq_of_lt (omega arith) in let ws : List ℕ = set s.words (n * 8) (x + 1) in
      let else_is : (i : ℕ) → i < n * 8 → get_or ws i 0 ≡ get_or s.words i 0 = (λ i l. get_or-set_other s.words (n * 8) i (x + 1) 0 (λ e. omega arith)) in
      let new : get_or ws (n * 8) 0 ≡ x + 1 = get_or-set_same s.words (n * 8) (x + 1) 0 (omega arith) in
      let tickets : (j b k : ℕ) → HasTicket start r.rows s.words j b k → HasTicket start r.rows ws j b k = (λ j b k h. let l = h.0 in let lo = h.2 in let hi = h.3 in let x = else_is (b * 8) (omega arith) in let y = else_is (b * 8 + 1) (omega arith) in (l, h.1, omega arith, omega arith)) in (
        w,
        keeps,
        tt,
        subst (λ (z : ℕ). Rule record { words = set s.words (n * 8) z; homes = s.homes; views = set s.views id w }) (sym exact) record {
          made = r.made;
          logs = cs;
          keeper = r.keeper;
          rows = r.rows;
          wide = length-set s.words (n * 8) (x + 1) ∙ wide;
          slots = r.slots;
          counted = length-set s.views id w ∙ r.counted;
          few = r.few;
          some_pass = r.some_pass;
          few_rows = few_rows;
          small = small;
          fresh = r.fresh;
          each_row = λ b l. row_stays m t s.words ws s.homes s.homes s.views (set s.views id w) r.made r.logs cs (r.rows b) b (else_is (b * 8) (omega arith)) (else_is (b * 8 + 1) (omega arith)) (calls_grow m shared start t s r id v c at live f) refl
              (stage_stays s.views id v w b at refl) (logs_stay m shared start t s r id v c b at live f refl) (r.each_row b l);
          each_stage = turns_after s.views id w (HasTicket start r.rows s.words) (HasTicket start r.rows ws) r.each_stage (λ j b k _. tickets j b k) (in_turn (HasTicket start r.rows s.words id) (HasTicket start r.rows ws id) (tickets id) v.stage (r.each_stage id v at));
          each_view = views_after m shared start t s r id v v.stage c at live;
          each_log = logs_after m shared start t s r id v c at live f;
          draws = subst (λ (z : ℕ). DrawsHold shared z r.made cs) (sym new) (draws_after s r id v x at live few refl up);
        },
        (
          refl,
          λ one. let u = alone_is m shared start t s r id v at live one in let a = r.draws.alone u.1 in let e : length (r.logs 0).draws ≡ length v.own.draws = ap (λ (y : Log S). length y.draws) (ap r.logs (sym u.0) ∙ sym mine.2) in
              let sh = ((r.each_view id v at).0 live).of_shared in omega arith,
        ),
      )

  pub draws_at : (count : ℕ) → count ≡ length start → (slots id : ℕ) (me : Me S V) → me.0.live ≡ true → me.0.own.calls < 2 ^ 60 → Allows Rule slots id me (count * 8) (λ w. (w + 1) % 2 ^ 64) (drawn (step slots (count * 8) 1 0 none) me)
  draws_at count e slots id me live few = subst (λ (n : ℕ). Allows Rule slots id me (n * 8) (λ w. (w + 1) % 2 ^ 64) (drawn (step slots (n * 8) 1 0 none) me)) (sym e) (draws slots id me live few)
