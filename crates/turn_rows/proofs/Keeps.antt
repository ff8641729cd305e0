-- What of the rule stays when one pass moves.
use Rattle.std.proofs.Common.{◌≡◌, ℕ, ◌+◌, ◌*◌, ◌^◌, ◌<◌, ◌≤◌, ◌≢◌, ⊎_elim, true, false, true≢false, List, length, get_or, set, All, sym, refl, ap, ◌∙◌, subst, arith, length-set}
use mathlib.Core.Logic.{dite}
use mathlib.Core.Option.{some, none}
use mathlib.Core.Option as maybe
use native.Mathlib.Decide.{ℕ_discrete}
use lib.ListN.{get_elem?}
use lib.Seq.{set-get_or}
use Rattle.atomic_table.specs.Table.{State, keeps, stepped}
use Rattle.atomic_table.proofs.Lists.{at_set, set_else, set_again}
use Rattle.turn_rows.specs.declared.view.View.{View}
use Rattle.turn_rows.specs.declared.view.Log.{Log}
use Rattle.turn_rows.specs.declared.view.Stage.{Stage}
use Rattle.turn_rows.specs.declared.view.Stage.TheVariants.{Idle, Waiting, Served, Holding, Leaving}
use Rattle.turn_rows.specs.Lists.{put, sum_below, made_by, times, Rises}
use Rattle.turn_rows.specs.Rule.{Meaning, Row, serving, next_ticket, InTurn, HasTicket, IsLog, IsLive, DrawsHold, HasTurn, Sees, RowHolds, RowsHold}
use Rattle.turn_rows.specs.Plays.{moved}
use Rattle.turn_rows.proofs.Sums.{at_put, put_here, put_else, sum_same, sum_after}
use Rattle.turn_rows.proofs.Lists.{same_at, at_inside}

module _ {S : Type 0} where
  -- the stage is in a turn of the row r
  abbrev pub About : ℕ → Stage S → Type 0
  About r Idle = ⊥
  About r (Waiting a k) = a ≡ r
  About r (Served a k) = a ≡ r
  About r (Holding a k x) = a ≡ r
  About r (Leaving a k) = a ≡ r

  -- the views in a turn of the row r are as they were
  abbrev pub StagesStay : ℕ → List (View S) → List (View S) → Type 0
  StagesStay r vs vs' = (i : ℕ) (d : View S) → get_elem? vs i ≡ some d → About r d.stage → (d' : View S) × (get_elem? vs' i ≡ some d') × (d'.stage ≡ d.stage)

  pub in_turn : (P Q : ℕ → ℕ → Type 0) → ((b k : ℕ) → P b k → Q b k) → (st : Stage S) → InTurn P st → InTurn Q st
  in_turn P Q f Idle h = tt
  in_turn P Q f (Waiting b k) h = f b k h
  in_turn P Q f (Served b k) h = f b k h
  in_turn P Q f (Holding b k x) h = f b k h
  in_turn P Q f (Leaving b k) h = f b k h

  -- each view's row and ticket, after the view at id became w
  pub turns_after : (vs : List (View S)) (id : ℕ) (w : View S) (P Q : ℕ → ℕ → ℕ → Type 0) → ((j : ℕ) (d : View S) → get_elem? vs j ≡ some d → InTurn (P j) d.stage)
      → ((j b k : ℕ) → j ≢ id → P j b k → Q j b k) → InTurn (Q id) w.stage → (j : ℕ) (d : View S) → get_elem? (set vs id w) j ≡ some d → InTurn (Q j) d.stage
  turns_after vs id w P Q each others mine j d e = ⊎_elim (λ (h : (j ≡ id) × (w ≡ d)). subst (λ (z : ℕ × View S). InTurn (Q z.0) z.1.stage) (λ i. (sym h.0 i, h.1 i)) mine)
      (λ (h : (j ≢ id) × (get_elem? vs j ≡ some d)). in_turn (P j) (Q j) (λ b k p. others j b k h.0 p) d.stage (each j d h.1)) (at_set vs id j w d e)

  -- a log as it may follow another: the same pass, with more calls
  pub record Follows (c d : Log S) : Type 0 where
    pub number : d.number ≡ c.number
    pub made : d.made ≡ c.made
    pub more : c.calls ≤ d.calls
    pub few : d.calls ≤ 2 ^ 60
    pub long : length d.rows ≡ length c.rows

module _ {S E T : Type 0} (m : Meaning S E T) where
  pub about_turn : (hs : List (maybe.Option S)) (r now : ℕ) (x : S) (st : Stage S) → HasTurn m hs r now x st → About r st
  about_turn hs r now x Idle h = absurd h
  about_turn hs r now x (Waiting a k) h = h.0
  about_turn hs r now x (Served a k) h = h.0
  about_turn hs r now x (Holding a k y) h = h.0
  about_turn hs r now x (Leaving a k) h = h.0

  turn_stays : (hs hs' : List (maybe.Option S)) (r now : ℕ) (x : S) → get_elem? hs' r ≡ get_elem? hs r → (st : Stage S) → HasTurn m hs r now x st → HasTurn m hs' r now x st
  turn_stays hs hs' r now x e Idle h = absurd h
  turn_stays hs hs' r now x e (Waiting a k) h = (h.0, h.1, (e ∙ h.2.0, h.2.1))
  turn_stays hs hs' r now x e (Served a k) h = (h.0, h.1, (e ∙ h.2.0, h.2.1))
  turn_stays hs hs' r now x e (Holding a k y) h = (h.0, h.1, h.2, e ∙ h.3, h.4)
  turn_stays hs hs' r now x e (Leaving a k) h = (h.0, h.1, (e ∙ h.2.0, h.2.1))

  pub sees_stays : (c c' : Log S) (r : ℕ) (x : S) → c'.number ≡ c.number → get_elem? c'.rows r ≡ get_elem? c.rows r → Sees m c r x → Sees m c' r x
  sees_stays c c' r x n e h = (h.0, e ∙ h.1, h.2, subst (λ (z : ℕ). made_by m.by z (m.entries x) ≡ made_by m.by z (m.entries h.0)) (sym n) h.3)

  -- a row that a step does not touch
  pub row_stays : (t : T) (ws ws' : List ℕ) (hs hs' : List (maybe.Option S)) (vs vs' : List (View S)) (made : ℕ) (cs cs' : ℕ → Log S) (row : Row S) (r : ℕ)
      → serving ws' r ≡ serving ws r → next_ticket ws' r ≡ next_ticket ws r → sum_below made (λ p. (cs p).calls) ≤ sum_below made (λ p. (cs' p).calls) → get_elem? hs' r ≡ get_elem? hs r → StagesStay r vs vs'
      → ((p : ℕ) → ((cs' p).number ≡ (cs p).number) × (get_elem? (cs' p).rows r ≡ get_elem? (cs p).rows r)) → RowHolds m t ws hs vs made cs row r → RowHolds m t ws' hs' vs' made cs' row r
  row_stays t ws ws' hs hs' vs vs' made cs cs' row r a b more h stay same ok = let now : ℕ = serving ws r in let now' : ℕ = serving ws' r in let x : S = row.state in record {
    behind = let k = ok.behind in omega arith;
    bound = let k = ok.bound in omega arith;
    waits = λ k l u. let o = ok.waits k (omega arith) (omega arith) in let d = stay (row.waiter k) o.0 o.1 (subst (About r) (sym o.2) refl) in (d.0, d.1, d.2 ∙ o.2);
    served = λ l. let o = ok.served (omega arith) in let d = stay (row.waiter now) o.0 o.1 (about_turn hs r now x o.0.stage o.2) in
        subst (λ (z : ℕ). (v : View S) × (get_elem? vs' (row.waiter z) ≡ some v) × HasTurn m hs' r z x v.stage) (sym a)
        (d.0, d.1, subst (HasTurn m hs' r now x) (sym d.2) (turn_stays hs hs' r now x h o.0.stage o.2));
    rests = λ e. let o = ok.rests (sym a ∙ (e ∙ b)) in (h ∙ o.0, o.1 ∙ sym a);
    tagged = ok.tagged;
    seen = λ p l. sees_stays (cs p) (cs' p) r x (same p).0 (same p).1 (ok.seen p l);
    alone = λ e. (same 0).1 ∙ ok.alone e;
    no_other = ok.no_other;
  }

  module _ (shared : ℕ) (start : List S) (t : T) where
    abbrev St : Type 0
    St = State S (View S)

    abbrev Rule : St → Type 0
    Rule = RowsHold m shared start t

    -- the views after the view of the live pass id became one with the log c
    pub views_after : (s : St) (r : Rule s) (id : ℕ) (v : View S) (st : Stage S) (c : Log S) → get_elem? s.views id ≡ some v → v.live ≡ true
        → (j : ℕ) (d : View S) → get_elem? (set s.views id (moved v st c)) j ≡ some d → (d.live ≡ true → IsLive shared start r.made (put r.logs id c) r.keeper j d) × (d.live ≡ false → d.stage ≡ Idle)
    views_after s r id v st c at live j d e = let cs : ℕ → Log S = r.logs in let me = (r.each_view id v at).0 live in ⊎_elim
        (λ (h : (j ≡ id) × (moved v st c ≡ d)). subst (λ (z : ℕ × View S). (z.1.live ≡ true → IsLive shared start r.made (put cs id c) r.keeper z.0 z.1) × (z.1.live ≡ false → z.1.stage ≡ Idle)) (λ i. (sym h.0 i, h.1 i)) (
          (λ _. record {
            own = sym (put_here cs id c);
            itself = me.itself;
            of_shared = me.of_shared;
            of_start = me.of_start;
            keeps = λ i k g. let o = me.keeps i k g in (o.0 ∙ sym (put_else cs id c k.number o.3), o.1, o.2, o.3);
          }),
          λ no. absurd (true≢false (sym live ∙ no)),
        ))
        (λ (h : (j ≢ id) × (get_elem? s.views j ≡ some d)). let old = r.each_view j d h.1 in (
          (λ yes. let o = old.0 yes in record {
            own = o.own ∙ sym (put_else cs id c j h.0);
            itself = o.itself;
            of_shared = o.of_shared;
            of_start = o.of_start;
            keeps = λ i k g. let q = o.keeps i k g in (q.0 ∙ sym (put_else cs id c k.number (λ is. h.0 (sym q.1 ∙ (ap r.keeper is ∙ me.itself)))), q.1, q.2, q.3);
          }),
          old.1,
        ))
        (at_set s.views id j (moved v st c) d e)

    -- the log of a live pass is that of its place, and a pass
    pub my_log : (s : St) (r : Rule s) (id : ℕ) (v : View S) → get_elem? s.views id ≡ some v → v.live ≡ true → (id < r.made) × IsLog (length start) r.made id v.own × (v.own ≡ r.logs id)
    my_log s r id v at live = let own = ((r.each_view id v at).0 live).own in let inside : id < r.made = subst (λ (n : ℕ). id < n) r.counted (at_inside s.views id v at) in
        (inside, subst (IsLog (length start) r.made id) (sym own) (r.each_log id inside), own)

    pub logs_after : (s : St) (r : Rule s) (id : ℕ) (v : View S) (c : Log S) → get_elem? s.views id ≡ some v → v.live ≡ true → Follows v.own c → (p : ℕ) → p < r.made → IsLog (length start) r.made p (put r.logs id c p)
    logs_after s r id v c at live f p l = let me = my_log s r id v at live in let ok = me.1 in at_put r.logs id c (IsLog (length start) r.made) p record {
      numbered = f.number ∙ ok.numbered;
      first = λ e. f.made ∙ ok.first e;
      later = λ l. f.made ∙ ok.later l;
      few = f.few;
      long = f.long ∙ ok.long;
    } (λ _. r.each_log p l)

    -- the logs hold as many calls as before, or more
    pub calls_grow : (s : St) (r : Rule s) (id : ℕ) (v : View S) (c : Log S) → get_elem? s.views id ≡ some v → v.live ≡ true → Follows v.own c → sum_below r.made (λ p. (r.logs p).calls) ≤ sum_below r.made (λ p. (put r.logs id c p).calls)
    calls_grow s r id v c at live f = let me = my_log s r id v at live in let own : (r.logs id).calls ≡ v.own.calls = ap (λ (z : Log S). z.calls) (sym me.2) in let e = sum_after (λ (z : Log S). z.calls) r.made id r.logs c me.0 in
        let k = f.more in omega arith

    -- the views about a row are as before, where the pass that moves was in no turn of that row
    pub views_stay : (vs : List (View S)) (id : ℕ) (v w : View S) (b : ℕ) → get_elem? vs id ≡ some v → (About b v.stage → ⊥) → StagesStay b vs (set vs id w)
    views_stay vs id v w b at not i d e about = dite (ℕ_discrete i id)
        (λ q. absurd (not (subst (λ (z : View S). About b z.stage) (same_at vs id d v (subst (λ (z : ℕ). get_elem? vs z ≡ some d) q e) at) about)))
        (λ n. (d, set_else vs id i w n ∙ e, refl))

    -- what the pass id knows of a row stays
    pub logs_stay : (s : St) (r : Rule s) (id : ℕ) (v : View S) (c : Log S) (b : ℕ) → get_elem? s.views id ≡ some v → v.live ≡ true → Follows v.own c → get_elem? c.rows b ≡ get_elem? v.own.rows b
        → (p : ℕ) → ((put r.logs id c p).number ≡ (r.logs p).number) × (get_elem? (put r.logs id c p).rows b ≡ get_elem? (r.logs p).rows b)
    logs_stay s r id v c b at live f e p = let own = (my_log s r id v at live).2 in at_put r.logs id c (λ q z. (z.number ≡ (r.logs q).number) × (get_elem? z.rows b ≡ get_elem? (r.logs q).rows b)) p
        (f.number ∙ ap (λ (z : Log S). z.number) own, e ∙ ap (λ (z : Log S). get_elem? z.rows b) own) (λ _. (refl, refl))

    -- a step of the pass id in a turn of the row a: it owes that row
    pub turned : (s : St) (r : Rule s) (id : ℕ) (v : View S) (a : ℕ) (ws : List ℕ) (hs : List (maybe.Option S)) (st : Stage S) (c : Log S) (row : Row S) → get_elem? s.views id ≡ some v → v.live ≡ true → a < length start
        → length ws ≡ length s.words → length hs ≡ length s.homes → ((i : ℕ) → i ≢ a * 8 → i ≢ a * 8 + 1 → get_or ws i 0 ≡ get_or s.words i 0) → ((b : ℕ) → b ≢ a → get_elem? hs b ≡ get_elem? s.homes b)
        → ((b : ℕ) → About b v.stage → b ≡ a) → Follows v.own c → c.draws ≡ v.own.draws → ((b : ℕ) → b ≢ a → get_elem? c.rows b ≡ get_elem? v.own.rows b)
        → InTurn (HasTicket start (put r.rows a row) ws id) st → ((j k : ℕ) → j ≢ id → HasTicket start r.rows s.words j a k → (row.waiter k ≡ j) × (serving ws a ≤ k) × (k < next_ticket ws a))
        → RowHolds m t ws hs (set s.views id (moved v st c)) r.made (put r.logs id c) row a → Rule record { words = ws; homes = hs; views = set s.views id (moved v st c) }
    turned s r id v a ws hs st c row at live near long slots words homes about f draws rows mine others holds =
        let n : ℕ = length start in let w : View S = moved v st c in let cs : ℕ → Log S = r.logs in let cs' : ℕ → Log S = put cs id c in let rows' : ℕ → Row S = put r.rows a row in let more = calls_grow s r id v c at live f in
        let word_at : (b : ℕ) → b ≢ a → (serving ws b ≡ serving s.words b) × (next_ticket ws b ≡ next_ticket s.words b) = (λ b ne. (words (b * 8) (λ e. ne (omega arith)) (λ e. omega arith), words (b * 8 + 1) (λ e. omega arith) (λ e. ne (omega arith)))) in
        let draw_is : get_or ws (n * 8) 0 ≡ get_or s.words (n * 8) 0 = words (n * 8) (λ e. omega arith) (λ e. omega arith) in
        let draws_of : (p : ℕ) → (cs' p).draws ≡ (cs p).draws = (λ p. at_put cs id c (λ q z. z.draws ≡ (cs q).draws) p (draws ∙ ap (λ (z : Log S). z.draws) (my_log s r id v at live).2) (λ _. refl)) in
        record {
          made = r.made;
          logs = cs';
          keeper = r.keeper;
          rows = rows';
          wide = long ∙ r.wide;
          slots = slots ∙ r.slots;
          counted = length-set s.views id w ∙ r.counted;
          few = r.few;
          some_pass = r.some_pass;
          few_rows = r.few_rows;
          small = r.small;
          fresh = r.fresh;
          each_row = λ b l. at_put r.rows a row (λ b z. RowHolds m t ws hs (set s.views id w) r.made cs' z b) b holds
              (λ ne. row_stays t s.words ws s.homes hs s.views (set s.views id w) r.made cs cs' (r.rows b) b (word_at b ne).0 (word_at b ne).1 more (homes b ne)
              (views_stay s.views id v w b at (λ k. ne (about b k))) (logs_stay s r id v c b at live f (rows b ne)) (r.each_row b l));
          each_stage = turns_after s.views id w (HasTicket start r.rows s.words) (HasTicket start rows' ws) r.each_stage (λ j b k ne h. dite (ℕ_discrete b a)
              (λ e. let o = others j k ne (subst (λ (z : ℕ). HasTicket start r.rows s.words j z k) e h) in
              (h.0, ap (λ (z : Row S). z.waiter k) (ap rows' e ∙ put_here r.rows a row) ∙ o.0, subst (λ (z : ℕ). serving ws z ≤ k) (sym e) o.1, subst (λ (z : ℕ). k < next_ticket ws z) (sym e) o.2))
              (λ not. let x = (word_at b not).0 in let y = (word_at b not).1 in let lo = h.2 in let hi = h.3 in
              (h.0, ap (λ (z : Row S). z.waiter k) (put_else r.rows a row b not) ∙ h.1, omega arith, omega arith))) mine;
          each_view = views_after s r id v st c at live;
          each_log = logs_after s r id v c at live f;
          draws = subst (λ (z : ℕ). DrawsHold shared z r.made cs') (sym draw_is) record {
            bound = let b = r.draws.bound in omega arith;
            drawn = record {
              least = r.draws.drawn.least;
              once = λ x l u. sum_same r.made (λ p. times x (cs' p).draws) (λ p. times x (cs p).draws) (λ p _. ap (times x) (draws_of p)) ∙ r.draws.drawn.once x l u;
              no_other = λ x l. sum_same r.made (λ p. times x (cs' p).draws) (λ p. times x (cs p).draws) (λ p _. ap (times x) (draws_of p)) ∙ r.draws.drawn.no_other x l;
              rise = λ p l. subst Rises (sym (draws_of p)) (r.draws.drawn.rise p l);
            };
            below = λ p l. subst (All (λ x. x < get_or s.words (n * 8) 0)) (sym (draws_of p)) (r.draws.below p l);
            alone = λ e. r.draws.alone e ∙ ap (λ (z : List ℕ). shared + length z) (sym (draws_of 0));
          };
        }

    -- a step that changes no word and nothing else
    pub untouched : (s : St) → Rule s → (i id : ℕ) (v : View S) (cs : List (ℕ × S)) → get_elem? s.views id ≡ some v → Rule (stepped s i (get_or s.words i 0) id cs v keeps)
    untouched s r i id v cs at = subst (λ (z : List ℕ × List (View S)). Rule record { words = z.0; homes = s.homes; views = z.1 }) (λ k. (sym (set-get_or s.words i 0) k, sym (set_again s.views id v at) k)) r
