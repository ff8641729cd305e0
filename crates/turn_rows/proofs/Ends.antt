-- The rule at the start, what a new pass knows, and what the rule says at the end.
use Rattle.std.proofs.Common.{◌≡◌, ℕ, zero, suc, ◌+◌, ◌*◌, ◌<◌, ◌≤◌, Bool, true, false, cond, List, [], ◌∷◌, map, length, get_or, sym, refl, ap, ◌∙◌, subst, arith, eq-eqb, ne_eqb, le_refl}
use mathlib.Core.Logic.{dite}
use mathlib.Core.Option.{Option, some, none, some-injective, some-ne-none}
use native.Mathlib.Decide.{ℕ_discrete}
use lib.ListN.{get_elem?}
use Rattle.atomic_table.specs.Table.{State, opening, Final, Seen}
use Rattle.std.proofs.lemmas.List.{length-map}
use Rattle.atomic_table.proofs.Lists.{at_map}
use Rattle.turn_rows.specs.declared.view.View.{View}
use Rattle.turn_rows.specs.declared.view.Log.{Log}
use Rattle.turn_rows.specs.declared.view.Stage.TheVariants.{Idle}
use Rattle.turn_rows.specs.Lists.{StartsWith, made_by, sum_below, times, Rises, DrawnOnce}
use Rattle.turn_rows.specs.Rule.{Meaning, Row, log, serving, next_ticket, InTurn, HasTicket, Sees, RowHolds, IsLive, DrawsHold, RowsHold}
use Rattle.turn_rows.specs.Plays.{first_view}
use Rattle.turn_rows.specs.Passes.{log_numbered, HasLog, HasAll, passes_made, entries_at, mark_at, AllNew, HaveOneTag, IsNew, IsFresh, IsLast, AllLast, AllDrawn}
use Rattle.turn_rows.proofs.Sums.{sum_same}
use Rattle.turn_rows.proofs.Lists.{same_at, at_inside, begins_itself, all_at, at_or}
use Rattle.turn_rows.proofs.Keeps.{About, about_turn, my_log}

not_false : (b : Bool) → (b ≡ false → ⊥) → b ≡ true
not_false true n = refl
not_false false n = absurd (n refl)

module _ {S E T : Type 0} (m : Meaning S E T) where
  none_seen : (o : Option S) → ((y : S) → o ≡ some y → m.entries y ≡ []) → entries_at m.entries o ≡ []
  none_seen none f = refl
  none_seen (some y) f = f y refl

  none_marked : (o : Option S) → ((y : S) → o ≡ some y → m.mark y ≡ 0) → mark_at m.mark o ≡ 0
  none_marked none f = refl
  none_marked (some y) f = f y refl

  -- a pass that begins with states at the start
  pub begins_fresh : (start : List S) (number made : ℕ) → ((i : ℕ) (y : S) → get_elem? start i ≡ some y → (m.entries y ≡ []) × (m.mark y ≡ 0)) → IsFresh m (log number made 0 start [])
  begins_fresh start number made new = record {
    seen_none = λ r. none_seen (get_elem? start r) (λ y e. (new r y e).0);
    no_mark = λ r. none_marked (get_elem? start r) (λ y e. (new r y e).1);
    no_draws = refl;
    no_calls = refl;
  }

  module _ (shared : ℕ) (start : List S) (t : T) where
    abbrev V : Type 0
    V = View S

    abbrev Rule : State S V → Type 0
    Rule = RowsHold m shared start t

    -- the rows at the start
    module _ (words : List ℕ) (one : S) (head : get_elem? start 0 ≡ some one) (small : length start ≤ 4096) (few : shared ≤ length start) (wide : length words ≡ length start * 8 + 1) (zeros : (i : ℕ) → i < length start * 8 → get_or words i 0 ≡ 0)
        (last : get_or words (length start * 8) 0 ≡ shared) (new : AllNew m start) (tags : (i : ℕ) (y : S) → get_elem? start i ≡ some y → m.tag y ≡ t) where
      abbrev begin : Log S
      begin = log 0 1 0 start []

      abbrev rows : ℕ → Row S
      rows r = record { waiter = λ _. 0; state = get_or start r one }

      row_opens : (r : ℕ) → r < length start → RowHolds m t words (map some start) (first_view shared start ∷ []) 1 (λ _. begin) (rows r) r
      row_opens r l = let x : S = get_or start r one in let at = at_or start r one l in let a = zeros (r * 8) (omega arith) in let b = zeros (r * 8 + 1) (omega arith) in let is = all_at (IsNew m) start r x new at in record {
        behind = omega arith;
        bound = omega arith;
        waits = λ k lo hi. absurd (omega arith);
        served = λ h. absurd (omega arith);
        rests = λ _. (at_map some start r x at, is.1 ∙ sym a);
        tagged = tags r x at;
        seen = λ p _. (x, at, begins_itself (m.entries x), refl);
        alone = λ _. at;
        no_other = λ p _. ap (made_by m.by p) is.0;
      }

      view_is : (j : ℕ) (v : V) → get_elem? (first_view shared start ∷ []) j ≡ some v → (j ≡ 0) × (first_view shared start ≡ v)
      view_is zero v e = (refl, some-injective (first_view shared start) v e)
      view_is (suc j) v e = absurd (some-ne-none v (sym e))

      pub opens : Rule (opening words start (first_view shared start))
      opens = record {
        made = 1;
        logs = λ _. begin;
        keeper = λ p. p;
        rows = rows;
        wide = wide;
        slots = length-map start some;
        counted = refl;
        few = omega arith;
        some_pass = omega arith;
        few_rows = few;
        small = small;
        fresh = λ i y e. let o = all_at (IsNew m) start i y new e in (o.0, o.2);
        each_row = row_opens;
        each_stage = λ j v e. subst (λ (z : V). InTurn (HasTicket start rows words j) z.stage) (view_is j v e).1 tt;
        each_view = λ j v e. let o = view_is j v e in subst (λ (z : ℕ × V). (z.1.live ≡ true → IsLive shared start 1 (λ _. begin) (λ p. p) z.0 z.1) × (z.1.live ≡ false → z.1.stage ≡ Idle)) (λ i. (sym o.0 i, o.1 i))
            ((λ _. record { own = refl; itself = refl; of_shared = refl; of_start = refl; keeps = λ i c g. absurd (some-ne-none c (sym g)) }), λ _. refl);
        each_log = λ p l. record { numbered = let e : 0 ≡ p = omega arith in e; first = λ _. refl; later = λ g. absurd (omega arith); few = omega arith; long = refl };
        draws = subst (λ (z : ℕ). DrawsHold shared z 1 (λ _. begin)) (sym last) record {
          bound = omega arith;
          drawn = record { least = le_refl shared; once = λ x l u. absurd (omega arith); no_other = λ x _. refl; rise = λ _ _. tt };
          below = λ p _ k d l. absurd (omega arith);
          alone = λ _. omega arith;
        };
      }

    -- the rows at the end, with a pass that keeps all logs
    module _ (s : State S V) (r : Rule s) (id : ℕ) (v : V) (at : get_elem? s.views id ≡ some v) (live : v.live ≡ true) (idle : v.stage ≡ Idle) (all : HasAll (v.own ∷ v.kept)) where
      abbrev logs : List (Log S)
      logs = v.own ∷ v.kept

      me : IsLive shared start r.made r.logs r.keeper id v
      me = (r.each_view id v at).0 live

      each_log : (i : ℕ) (c : Log S) → get_elem? logs i ≡ some c → (c ≡ r.logs c.number) × (r.keeper c.number ≡ id) × (c.number < r.made)
      each_log zero c e = let mine = my_log m shared start t s r id v at live in let n = mine.1.numbered in
          subst (λ (c : Log S). (c ≡ r.logs c.number) × (r.keeper c.number ≡ id) × (c.number < r.made)) (some-injective v.own c e) (mine.2 ∙ ap r.logs (sym n), ap r.keeper n ∙ me.itself, subst (λ (z : ℕ). z < r.made) (sym n) mine.0)
      each_log (suc i) c e = let q = me.keeps i c e in (q.0, q.1, q.2)

      finds : (cs : List (Log S)) (p i : ℕ) (c : Log S) → ((j : ℕ) (d : Log S) → get_elem? cs j ≡ some d → d ≡ r.logs d.number) → get_elem? cs i ≡ some c → c.number ≡ p → log_numbered p cs ≡ r.logs p
      finds [] p i c each e n = absurd (some-ne-none c (sym e))
      finds (d ∷ ds) p zero c each e n = let is : d.number ≡ p = ap (λ (z : Log S). z.number) (some-injective d c e) ∙ n in ap (λ (b : Bool). cond b d (log_numbered p ds)) (eq-eqb d.number p is) ∙ (each 0 d refl ∙ ap r.logs is)
      finds (d ∷ ds) p (suc i) c each e n = dite (ℕ_discrete d.number p) (λ is. ap (λ (b : Bool). cond b d (log_numbered p ds)) (eq-eqb d.number p is) ∙ (each 0 d refl ∙ ap r.logs is))
          (λ not. ap (λ (b : Bool). cond b d (log_numbered p ds)) (ne_eqb d.number p not) ∙ finds ds p i c (λ j. each (suc j)) e n)

      has_first : (cs : List (Log S)) → 0 < passes_made cs → HasLog 0 cs
      has_first [] h = absurd (omega arith)
      has_first (d ∷ ds) h = dite (ℕ_discrete d.number 0) (λ is. (0, d, refl, is))
          (λ not. let o = has_first ds (subst (λ (b : Bool). 0 < (cond b d (log_numbered 0 ds)).made) (ne_eqb d.number 0 not) h) in (suc o.0, o.1, o.2, o.3))

      numbered : (p : ℕ) → HasLog p logs → log_numbered p logs ≡ r.logs p
      numbered p h = finds logs p h.0 h.1 (λ j d e. (each_log j d e).0) h.2 h.3

      made_is : passes_made logs ≡ r.made
      made_is = ap (λ (z : Log S). z.made) (numbered 0 (has_first logs all.0)) ∙ (r.each_log 0 r.some_pass).first refl

      has_each : (p : ℕ) → p < r.made → HasLog p logs
      has_each p l = all.1 p (subst (λ (z : ℕ). p < z) (sym made_is) l)

      keeps_each : (p : ℕ) → p < r.made → r.keeper p ≡ id
      keeps_each p l = let h = has_each p l in ap r.keeper (sym h.3) ∙ (each_log h.0 h.1 h.2).1

      -- no pass is in a turn
      rests : (a : ℕ) → a < length start → serving s.words a ≡ next_ticket s.words a
      rests a near = let now : ℕ = serving s.words a in let ok = r.each_row a near in let behind = ok.behind in dite (ℕ_discrete now (next_ticket s.words a)) (λ e. e) (λ n. let o = ok.served (omega arith) in let j : ℕ = (r.rows a).waiter now in let d : V = o.0 in
          let about = about_turn m s.homes a now (r.rows a).state d.stage o.2 in let view = r.each_view j d o.1 in let alive = not_false d.live (λ no. subst (About a) (view.1 no) about) in
          let inside : j < r.made = subst (λ (z : ℕ). j < z) r.counted (at_inside s.views j d o.1) in let here : j ≡ id = sym (view.0 alive).itself ∙ keeps_each j inside in
          absurd (subst (About a) (ap (λ (z : V). z.stage) (same_at s.views id d v (subst (λ (z : ℕ). get_elem? s.views z ≡ some d) here o.1) at) ∙ idle) about))

      last : (one : S) → t ≡ m.tag one → (a : ℕ) → a < length start → IsLast m one logs a (r.rows a).state
      last one tag a near = let ok = r.each_row a near in let x : S = (r.rows a).state in
          let sees : (i : ℕ) (c : Log S) → get_elem? logs i ≡ some c → Sees m c a x = (λ i c e. let q = each_log i c e in subst (λ (z : Log S). Sees m z a x) (sym q.0) (ok.seen c.number q.2)) in record {
            tagged = ok.tagged ∙ tag;
            seen = λ i c e. let h = sees i c e in subst (StartsWith (m.entries x)) (sym (ap (entries_at m.entries) h.1)) h.2;
            mine = λ i c e. let h = sees i c e in h.3 ∙ sym (ap (made_by m.by c.number) (ap (entries_at m.entries) h.1));
            no_other = λ p l. ok.no_other p (subst (λ (z : ℕ). z ≤ p) made_is l);
          }

      pub all_drawn : AllDrawn shared logs
      all_drawn = let d = r.draws.drawn in let same : (f : List ℕ → ℕ) → sum_below r.made (λ p. f (log_numbered p logs).draws) ≡ sum_below r.made (λ p. f (r.logs p).draws) =
          (λ f. sum_same r.made (λ p. f (log_numbered p logs).draws) (λ p. f (r.logs p).draws) (λ p l. ap (λ (z : Log S). f z.draws) (numbered p (has_each p l)))) in (
            get_or s.words (length start * 8) 0,
            subst (λ (n : ℕ). DrawnOnce shared (get_or s.words (length start * 8) 0) n (λ p. (log_numbered p logs).draws)) (sym made_is) record {
              least = d.least;
              once = λ x l u. same (times x) ∙ d.once x l u;
              no_other = λ x out. same (times x) ∙ d.no_other x out;
              rise = λ p l. subst (λ (z : Log S). Rises z.draws) (sym (numbered p (has_each p l))) (d.rise p l);
            },
          )

      pub all_last : (one : S) → t ≡ m.tag one → (xs : List S) → length s.homes ≡ length xs → ((k : ℕ) (y : S) → get_elem? s.homes k ≡ some (some y) → get_elem? xs k ≡ some y) → AllLast m one logs xs
      all_last one tag xs long lies a d l = let near : a < length start = subst (λ (n : ℕ). a < n) (sym long ∙ r.slots) l in let home = ((r.each_row a near).rests (rests a near)).0 in
          subst (IsLast m one logs a) (same_at xs a (r.rows a).state (get_or xs a d) (lies a (r.rows a).state home) (at_or xs a d l)) (last one tag a near)

    -- what a table's end says, with a pass that keeps all logs
    pub closes : (id : ℕ) (v : V) (one : S) (words : List ℕ) (xs : List S) → v.live ≡ true → v.stage ≡ Idle → HasAll (v.own ∷ v.kept) → t ≡ m.tag one → Final (Seen Rule id v) words xs → AllLast m one (v.own ∷ v.kept) xs × AllDrawn shared (v.own ∷ v.kept)
    closes id v one words xs live idle all tag end = let s = end.0 in let r = end.1.0 in (all_last s r id v end.1.1 live idle all one tag xs end.3 end.4, all_drawn s r id v end.1.1 live idle all)

  -- the same, of states and words that only equations tell
  pub starts : (shared shared' count : ℕ) (start states : List S) (words words' : List ℕ) (one : S) → start ≡ states → words ≡ words' → shared ≡ shared' → count ≡ length states → get_elem? states 0 ≡ some one → length states ≤ 4096 → shared' ≤ length states
      → length words' ≡ count * 8 + 1 → ((i : ℕ) → i < count * 8 → get_or words' i 0 ≡ 0) → get_or words' (count * 8) 0 ≡ shared' → AllNew m states
      → HaveOneTag m states → RowsHold m shared start (m.tag one) (opening words states (first_view shared start))
  starts shared shared' count start states words words' one start_is words_is shared_is count_is head small few wide zeros last new tags =
      subst (λ (z : List S × List ℕ × ℕ). RowsHold m z.2 z.0 (m.tag one) (opening z.1 states (first_view z.2 z.0))) (λ i. (sym start_is i, sym words_is i, sym shared_is i))
      (opens shared' states (m.tag one) words' one head small few (omega arith) (λ i l. zeros i (omega arith)) (ap (λ (n : ℕ). get_or words' (n * 8) 0) (sym count_is) ∙ last) new (λ i y e. all_at (λ (z : S). m.tag z ≡ m.tag (get_or states 0 one)) states i y (tags one) e ∙ ap m.tag (same_at states 0 (get_or states 0 one) one (at_or states 0 one (at_inside states 0 one head)) head)))
