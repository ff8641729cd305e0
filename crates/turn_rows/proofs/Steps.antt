-- The steps of a turn keep the rule.
use Rattle.std.proofs.Common.{◌≡◌, ℕ, ◌+◌, ◌*◌, ◌^◌, ◌%◌, ◌<◌, ◌≤◌, ◌≢◌, true, List, [], ◌∷◌, length, get_or, set, sym, refl, ap, ◌∙◌, subst, arith, length-set, get_or-set_same, get_or-set_other, mod-eq_of_lt, mul-le-mul_right, le_refl}
use mathlib.Core.Logic.{dite}
use mathlib.Core.Option.{some, none}
use mathlib.Core.Option as maybe
use native.Mathlib.Decide.{ℕ_discrete}
use lib.ListN.{get_elem?}
use lib.Seq.{set-get_or}
use Rattle.atomic_table.specs.Table.{State, Me, step, keeps, takes, gives, Allows}
use Rattle.atomic_table.proofs.Lists.{set_here, set_else}
use Rattle.turn_rows.specs.declared.view.View.{View}
use Rattle.turn_rows.specs.declared.view.Log.{Log}
use Rattle.turn_rows.specs.declared.view.Stage.{Stage}
use Rattle.turn_rows.specs.declared.view.Stage.TheVariants.{Idle, Waiting, Served, Holding, Leaving}
use Rattle.turn_rows.specs.Lists.{put, sum_below, made_by, Adds}
use Rattle.turn_rows.specs.Rule.{Meaning, Row, serving, next_ticket, InTurn, HasTicket, IsLog, HasTurn, Sees, AtHome, RowsHold}
use Rattle.turn_rows.specs.Plays.{moved, with_call, with_row, ticketed, looked, took, gave, advanced, fresh, Finds}
use Rattle.turn_rows.proofs.Sums.{at_put, put_here, put_else, sum_few, sum_after}
use Rattle.turn_rows.proofs.Lists.{same_at, at_inside, begins_itself, adds_front, adds_other}
use Rattle.turn_rows.proofs.Keeps.{About, Follows, in_turn, sees_stays, my_log, calls_grow, logs_after, logs_stay, turned, untouched}

-- the value of the slot taken last
abbrev first_value : {S : Type 0} → S → List (ℕ × S) → S
first_value d [] = d
first_value d (x ∷ xs) = x.1

module _ {S E T : Type 0} (m : Meaning S E T) (shared : ℕ) (start : List S) (t : T) where
  abbrev V : Type 0
  V = View S

  abbrev St : Type 0
  St = State S V

  abbrev Rule : St → Type 0
  Rule = RowsHold m shared start t

  -- no count of tickets reaches the end of its type
  pub few_calls : (made : ℕ) (cs : ℕ → Log S) → made ≤ 8 → ((p : ℕ) → p < made → IsLog (length start) made p (cs p)) → sum_below made (λ p. (cs p).calls) ≤ 2 ^ 63
  few_calls made cs few ok = let e = sum_few made (2 ^ 60) (λ p. (cs p).calls) (λ p l. (ok p l).few) in let f : made * 2 ^ 60 ≤ 8 * 2 ^ 60 = mul-le-mul_right (2 ^ 60) few in omega arith

  few_tickets : (s : St) (r : Rule s) (a : ℕ) → a < length start → next_ticket s.words a ≤ 2 ^ 63
  few_tickets s r a near = let b = (r.each_row a near).bound in let e = few_calls r.made r.logs r.few r.each_log in omega arith

  itself : (s : St) (r : Rule s) (id : ℕ) (v : V) → get_elem? s.views id ≡ some v → v.live ≡ true → Follows v.own v.own
  itself s r id v at live = record { number = refl; made = refl; more = le_refl v.own.calls; few = (my_log m shared start t s r id v at live).1.few; long = refl }

  -- a pass that made no other is the first, and the only one
  pub alone_is : (s : St) (r : Rule s) (id : ℕ) (v : V) → get_elem? s.views id ≡ some v → v.live ≡ true → v.own.made ≡ 1 → (id ≡ 0) × (r.made ≡ 1)
  alone_is s r id v at live one = let me = (my_log m shared start t s r id v at live).1 in dite (ℕ_discrete id 0) (λ z. (z, sym (me.first z) ∙ one)) (λ n. let e = me.later (omega arith) in absurd (omega arith))

  -- the pass whose ticket is served has the turn
  has_turn : (s : St) (r : Rule s) (id : ℕ) (v : V) (a k : ℕ) → get_elem? s.views id ≡ some v → HasTicket start r.rows s.words id a k → k ≡ serving s.words a → HasTurn m s.homes a (serving s.words a) (r.rows a).state v.stage
  has_turn s r id v a k at h e = let now : ℕ = serving s.words a in let row : Row S = r.rows a in let hi = h.3 in let o = (r.each_row a h.0).served (omega arith) in
      let there : get_elem? s.views id ≡ some o.0 = subst (λ (z : ℕ). get_elem? s.views z ≡ some o.0) (ap row.waiter (sym e) ∙ h.1) o.1 in
      subst (λ (z : V). HasTurn m s.homes a now row.state z.stage) (same_at s.views id o.0 v there at) o.2

  -- a pass with a ticket that does not wait any more is served
  is_served : (s : St) (r : Rule s) (id : ℕ) (v : V) (a k : ℕ) → get_elem? s.views id ≡ some v → HasTicket start r.rows s.words id a k → (v.stage ≡ Waiting a k → ⊥) → k ≡ serving s.words a
  is_served s r id v a k at h not = let now : ℕ = serving s.words a in dite (ℕ_discrete k now) (λ e. e) (λ n. let lo = h.2 in let o = (r.each_row a h.0).waits k (omega arith) h.3 in
      let there : get_elem? s.views id ≡ some o.0 = subst (λ (z : ℕ). get_elem? s.views z ≡ some o.0) h.1 o.1 in absurd (not (ap (λ (z : V). z.stage) (sym (same_at s.views id o.0 v there at)) ∙ o.2)))

  one_row : (hs : List (maybe.Option S)) (a now : ℕ) (x : S) (b : ℕ) (st : Stage S) → HasTurn m hs a now x st → About b st → b ≡ a
  one_row hs a now x b Idle h e = absurd h
  one_row hs a now x b (Waiting c k) h e = sym e ∙ h.0
  one_row hs a now x b (Served c k) h e = sym e ∙ h.0
  one_row hs a now x b (Holding c k y) h e = sym e ∙ h.0
  one_row hs a now x b (Leaving c k) h e = sym e ∙ h.0

  -- another pass than the one that is served waits behind it
  waits_behind : (s : St) (r : Rule s) (id : ℕ) (v w : V) (a j : ℕ) → a < length start → get_elem? s.views id ≡ some v → ((b k : ℕ) → v.stage ≡ Waiting b k → k ≢ j) → serving s.words a < j → j < next_ticket s.words a
      → (d : V) × (get_elem? (set s.views id w) ((r.rows a).waiter j) ≡ some d) × (d.stage ≡ Waiting a j)
  waits_behind s r id v w a j near at not lo hi = let o = (r.each_row a near).waits j lo hi in let i : ℕ = (r.rows a).waiter j in
      let apart : i ≢ id = (λ e. not a j (ap (λ (z : V). z.stage) (sym (same_at s.views id o.0 v (subst (λ (z : ℕ). get_elem? s.views z ≡ some o.0) e o.1) at)) ∙ o.2) refl) in
      (o.0, set_else s.views id i w apart ∙ o.1, o.2)

  same_words : (s : St) (i : ℕ) (hs : List (maybe.Option S)) (vs : List V) → Rule record { words = s.words; homes = hs; views = vs } → Rule record { words = set s.words i (get_or s.words i 0); homes = hs; views = vs }
  same_words s i hs vs = subst (λ (ws : List ℕ). Rule record { words = ws; homes = hs; views = vs }) (sym (set-get_or s.words i 0))

  -- a step of the pass that is served, which changes no word
  served_step : (s : St) (r : Rule s) (id : ℕ) (v : V) (a k : ℕ) (hs : List (maybe.Option S)) (st : Stage S) (c : Log S) (x : S) → get_elem? s.views id ≡ some v → v.live ≡ true → HasTicket start r.rows s.words id a k → k ≡ serving s.words a
      → length hs ≡ length s.homes → ((b : ℕ) → b ≢ a → get_elem? hs b ≡ get_elem? s.homes b) → Follows v.own c → c.draws ≡ v.own.draws → ((b : ℕ) → b ≢ a → get_elem? c.rows b ≡ get_elem? v.own.rows b)
      → InTurn (λ b j. (b ≡ a) × (j ≡ k)) st → HasTurn m hs a (serving s.words a) x st → m.tag x ≡ t → ((p : ℕ) → p < r.made → Sees m (put r.logs id c p) a x) → (r.made ≡ 1 → get_elem? (put r.logs id c 0).rows a ≡ some x)
      → ((p : ℕ) → r.made ≤ p → made_by m.by p (m.entries x) ≡ []) → Rule record { words = s.words; homes = hs; views = set s.views id (moved v st c) }
  served_step s r id v a k hs st c x at live h e long homes f draws rows mine turn tagged seen alone no_other =
      let now : ℕ = serving s.words a in let row : Row S = record { waiter = (r.rows a).waiter; state = x } in let ok = r.each_row a h.0 in let old = has_turn s r id v a k at h e in let hi = h.3 in
      let rows' : ℕ → Row S = put r.rows a row in let here : HasTicket start rows' s.words id a k = (h.0, ap (λ (z : Row S). z.waiter k) (put_here r.rows a row) ∙ h.1, h.2, h.3) in
      let more = calls_grow m shared start t s r id v c at live f in let w : V = moved v st c in
      turned m shared start t s r id v a s.words hs st c row at live h.0 refl long (λ _ _ _. refl) homes (λ b. one_row s.homes a now (r.rows a).state b v.stage old) f draws rows
      (in_turn (λ b j. (b ≡ a) × (j ≡ k)) (HasTicket start rows' s.words id) (λ b j q. subst (λ (z : ℕ × ℕ). HasTicket start rows' s.words id z.0 z.1) (λ i. (sym q.0 i, sym q.1 i)) here) st mine)
      (λ _ _ _ q. (q.1, q.2, q.3)) record {
        behind = ok.behind;
        bound = let b = ok.bound in omega arith;
        waits = λ j lo u. waits_behind s r id v w a j h.0 at (λ b i q. let z = subst (HasTurn m s.homes a now (r.rows a).state) q old in let is : i ≡ now = z.1 in λ (g : i ≡ j). omega arith) lo u;
        served = λ _. (w, subst (λ (z : ℕ). get_elem? (set s.views id w) z ≡ some w) (sym (ap (r.rows a).waiter (sym e) ∙ h.1)) (set_here s.views id w (at_inside s.views id v at)), turn);
        rests = λ q. absurd (omega arith);
        tagged = tagged;
        seen = seen;
        alone = alone;
        no_other = no_other;
      }

  -- the row as it was, where the log of the pass stays too
  still_seen : (s : St) (r : Rule s) (id : ℕ) (v : V) (a : ℕ) → a < length start → get_elem? s.views id ≡ some v → v.live ≡ true → (p : ℕ) → p < r.made → Sees m (put r.logs id v.own p) a (r.rows a).state
  still_seen s r id v a near at live p l = let ok = r.each_row a near in let me = my_log m shared start t s r id v at live in
      at_put r.logs id v.own (λ q c. q < r.made → Sees m c a (r.rows a).state) p (λ u. subst (λ (c : Log S). Sees m c a (r.rows a).state) (sym me.2) (ok.seen id u)) (λ _. ok.seen p) l

  still_alone : (s : St) (r : Rule s) (id : ℕ) (v : V) (a : ℕ) → a < length start → get_elem? s.views id ≡ some v → v.live ≡ true → r.made ≡ 1 → get_elem? (put r.logs id v.own 0).rows a ≡ some (r.rows a).state
  still_alone s r id v a near at live one = let ok = (r.each_row a near).alone one in let me = my_log m shared start t s r id v at live in
      at_put r.logs id v.own (λ q c. q ≡ 0 → get_elem? c.rows a ≡ some (r.rows a).state) 0 (λ z. ap (λ (c : Log S). get_elem? c.rows a) (me.2 ∙ ap r.logs z) ∙ ok) (λ _ _. ok) refl

  pub looks : (slots id : ℕ) (me : Me S V) (a k : ℕ) → me.0.live ≡ true → me.0.stage ≡ Waiting a k → Allows Rule slots id me (a * 8) (λ w. w) (looked (step slots (a * 8) 0 0 none) me)
  looks slots id me a k live is s r _ at _ = let now : ℕ = serving s.words a in let v : V = me.0 in let h = subst (InTurn (HasTicket start r.rows s.words id)) is (r.each_stage id v at) in let ok = r.each_row a h.0 in
      let one : (a' k' : ℕ) → v.stage ≡ Waiting a' k' → (a' ≡ a) × (k' ≡ k) = (λ a' k' q. let e : Waiting a' k' ≡ Waiting a k = sym q ∙ is in (cc, cc)) in
      dite (ℕ_discrete k now)
      (λ e. let turn = subst (HasTurn m s.homes a now (r.rows a).state) is (has_turn s r id v a k at h e) in let w : V = moved v (Served a k) v.own in (
        w,
        keeps,
        tt,
        same_words s (a * 8) s.homes (set s.views id w) (served_step s r id v a k s.homes (Served a k) v.own (r.rows a).state at live h e refl (λ _ _. refl) (itself s r id v at live) refl (λ _ _. refl) (refl, refl) (refl, turn.1, turn.2) ok.tagged
            (still_seen s r id v a h.0 at live) (still_alone s r id v a h.0 at live) ok.no_other),
        λ a' k' q. let o = one a' k' q in ((λ _ i. (moved v (Served (sym o.0 i) (sym o.1 i)) v.own, me.1)), (λ n. absurd (n (sym (o.1 ∙ e))))),
      ))
      (λ n. (v, keeps, tt, untouched m shared start t s r (a * 8) id v me.1 at, λ a' k' q. let o = one a' k' q in ((λ g. absurd (n (sym (g ∙ o.1)))), (λ _. refl))))

  pub takes_out : (slots id : ℕ) (me : Me S V) (a k : ℕ) → ((z : S) → get_elem? start 0 ≡ some z → t ≡ m.tag z) → me.0.live ≡ true → me.0.stage ≡ Served a k → Allows Rule slots id me (a * 8) (λ w. w) (took m (step slots (a * 8) 0 0 none) me)
  takes_out slots id me a k head live is s r _ at _ = let now : ℕ = serving s.words a in let v : V = me.0 in let x : S = (r.rows a).state in let h = subst (InTurn (HasTicket start r.rows s.words id)) is (r.each_stage id v at) in let ok = r.each_row a h.0 in
      let e = is_served s r id v a k at h (λ q. let z : Served a k ≡ Waiting a k = sym is ∙ q in cc) in let turn = subst (HasTurn m s.homes a now x) is (has_turn s r id v a k at h e) in let w : V = moved v (Holding a k x) v.own in
      let mine = my_log m shared start t s r id v at live in let inside : a < length s.homes = subst (λ (n : ℕ). a < n) (sym r.slots) h.0 in let hs : List (maybe.Option S) = set s.homes a none in (
        w,
        takes a x,
        turn.2.0,
        same_words s (a * 8) hs (set s.views id w) (served_step s r id v a k hs (Holding a k x) v.own x at live h e (length-set s.homes a none) (λ b ne. set_else s.homes a b none ne) (itself s r id v at live) refl (λ _ _. refl) (refl, refl)
            (refl, e, refl, set_here s.homes a none inside, turn.2.1) ok.tagged (still_seen s r id v a h.0 at live) (still_alone s r id v a h.0 at live) ok.no_other),
        λ a' k' q. let z : Served a' k' ≡ Served a k = sym q ∙ is in let a_is : a' ≡ a = cc in let k_is : k' ≡ k = cc in (
          x,
          (λ i. (moved v (Holding (sym a_is i) (sym k_is i) x) v.own, (sym a_is i, x) ∷ me.1)),
          subst (λ (b : ℕ). Finds m v b x) (sym a_is) record {
            tagged = λ z g. ok.tagged ∙ head z (ap (λ (l : List S). get_elem? l 0) (sym ((r.each_view id v at).0 live).of_start) ∙ g);
            sees = subst (λ (c : Log S). Sees m c a x) (sym mine.2) (ok.seen id mine.0);
            alone = λ one. let u = alone_is s r id v at live one in ap (λ (c : Log S). get_elem? c.rows a) (mine.2 ∙ ap r.logs u.0) ∙ ok.alone u.1;
            room = let f = few_tickets s r a h.0 in let hi = h.3 in let n = turn.2.1 in omega arith;
          },
        ),
      )

  gives_at : (slots id : ℕ) (v : V) (a k : ℕ) (x y : S) → v.live ≡ true → v.stage ≡ Holding a k x → m.tag y ≡ m.tag x → m.turns y ≡ m.turns x + 1 → Adds m.by v.own.number (m.entries x) (m.entries y)
      → Allows Rule slots id (v, (a, y) ∷ []) (a * 8) (λ w. w) (gave (step slots (a * 8) 0 0 none) (v, (a, y) ∷ []))
  gives_at slots id v a k x y live is tags turns adds s r _ at _ = let now : ℕ = serving s.words a in let x' : S = (r.rows a).state in let h = subst (InTurn (HasTicket start r.rows s.words id)) is (r.each_stage id v at) in let ok = r.each_row a h.0 in
      let e = is_served s r id v a k at h (λ q. let z : Holding a k x ≡ Waiting a k = sym is ∙ q in cc) in let turn = subst (HasTurn m s.homes a now x') is (has_turn s r id v a k at h e) in let c : Log S = with_row v.own a y in
      let w : V = moved v (Leaving a k) c in let mine = my_log m shared start t s r id v at live in let inside : a < length s.homes = subst (λ (n : ℕ). a < n) (sym r.slots) h.0 in let hs : List (maybe.Option S) = set s.homes a (some y) in
      let added : Adds m.by v.own.number (m.entries x') (m.entries y) = subst (λ (z : S). Adds m.by v.own.number (m.entries z) (m.entries y)) turn.2 adds in let number = mine.1.numbered in
      let there : get_elem? c.rows a ≡ some y = set_here v.own.rows a y (subst (λ (n : ℕ). a < n) (sym mine.1.long) h.0) in let lt = mine.0 in (
        w,
        gives,
        tt,
        same_words s (a * 8) hs (set s.views id w) (served_step s r id v a k hs (Leaving a k) c y at live h e (length-set s.homes a (some y)) (λ b ne. set_else s.homes a b (some y) ne)
            record { number = refl; made = refl; more = le_refl v.own.calls; few = mine.1.few; long = length-set v.own.rows a y } refl (λ b ne. set_else v.own.rows a b y ne) (refl, refl)
            (refl, e, (set_here s.homes a (some y) inside, turns ∙ ap (λ (n : ℕ). n + 1) (ap m.turns turn.2 ∙ turn.4))) (tags ∙ (ap m.tag turn.2 ∙ ok.tagged))
            (λ p l. at_put r.logs id c (λ q z. q < r.made → Sees m z a y) p (λ _. (y, there, begins_itself (m.entries y), refl))
            (λ ne u. let o = ok.seen p u in let n = (r.each_log p u).numbered in
            (o.0, o.1, adds_front m.by v.own.number (m.entries x') (m.entries y) (m.entries o.0) added o.2, adds_other m.by v.own.number (r.logs p).number (m.entries x') (m.entries y) added (λ g. ne (sym n ∙ (g ∙ number))) ∙ o.3)) l)
            (λ one. at_put r.logs id c (λ q z. q ≡ 0 → get_elem? z.rows a ≡ some y) 0 (λ _. there) (λ ne _. absurd (omega arith)) refl)
            (λ p l. adds_other m.by v.own.number p (m.entries x') (m.entries y) added (λ g. let g' : p ≡ id = g ∙ number in omega arith) ∙ ok.no_other p l)),
        λ a' k' x₁ y' q own. let z : Holding a' k' x₁ ≡ Holding a k x = sym q ∙ is in let a_is : a' ≡ a = cc in let k_is : k' ≡ k = cc in let y_is : y' ≡ y = ap (first_value y) (sym own) in
            (λ i. (moved v (Leaving (sym a_is i) (sym k_is i)) (with_row v.own (sym a_is i) (sym y_is i)), [])),
      )

  pub gives_back : (slots id : ℕ) (me : Me S V) (a k : ℕ) (x y : S) → me.0.live ≡ true → me.0.stage ≡ Holding a k x → me.1 ≡ (a, y) ∷ [] → m.tag y ≡ m.tag x → m.turns y ≡ m.turns x + 1
      → Adds m.by me.0.own.number (m.entries x) (m.entries y) → Allows Rule slots id me (a * 8) (λ w. w) (gave (step slots (a * 8) 0 0 none) me)
  gives_back slots id me a k x y live is own tags turns adds = subst (λ (cs : List (ℕ × S)). Allows Rule slots id (me.0, cs) (a * 8) (λ w. w) (gave (step slots (a * 8) 0 0 none) (me.0, cs))) (sym own)
      (gives_at slots id me.0 a k x y live is tags turns adds)

  pub recalls : (slots id i : ℕ) (me : Me S V) → me.0.live ≡ true → Allows Rule slots id me i (λ w. w) (fresh m (step slots i 0 0 none) me)
  recalls slots id i me live s r _ at _ = (
    me.0,
    keeps,
    tt,
    untouched m shared start t s r i id me.0 me.1 at,
    (refl, λ j y g. r.fresh j y (ap (λ (l : List S). get_elem? l j) (sym ((r.each_view id me.0 at).0 live).of_start) ∙ g)),
  )

  pub draws_ticket : (slots id : ℕ) (me : Me S V) (a : ℕ) → a < length start → me.0.live ≡ true → me.0.stage ≡ Idle → me.0.own.calls < 2 ^ 60
      → Allows Rule slots id me (a * 8 + 1) (λ w. (w + 1) % 2 ^ 64) (ticketed (step slots (a * 8 + 1) 1 0 none) me)
  draws_ticket slots id me a near live is few s r _ at _ = let v : V = me.0 in let now : ℕ = serving s.words a in let k : ℕ = next_ticket s.words a in let x : S = (r.rows a).state in let ok = r.each_row a near in let c : Log S = with_call v.own in
      let mine = my_log m shared start t s r id v at live in let w : V = moved v (Waiting a k) c in let row : Row S = record { waiter = put (r.rows a).waiter k id; state = x } in let cs : ℕ → Log S = put r.logs id c in let wide = r.wide in
      let f : Follows v.own c = record { number = refl; made = refl; more = omega arith; few = omega arith; long = refl } in
      let sums = sum_after (λ (z : Log S). z.calls) r.made id r.logs c mine.0 in let own : (r.logs id).calls ≡ v.own.calls = ap (λ (z : Log S). z.calls) (sym mine.2) in
      let most = few_calls r.made cs r.few (logs_after m shared start t s r id v c at live f) in let b = ok.bound in let behind = ok.behind in
      let up : sum_below r.made (λ p. (cs p).calls) ≡ sum_below r.made (λ p. (r.logs p).calls) + 1 = omega arith in let less : k < 2 ^ 63 = omega arith in let exact : (k + 1) % 2 ^ 64 ≡ k + 1 = mod-eq_of_lt (omega arith) in
      let ws : List ℕ = set s.words (a * 8 + 1) (k + 1) in let new : next_ticket ws a ≡ k + 1 = get_or-set_same s.words (a * 8 + 1) (k + 1) 0 (omega arith) in
      let else_is : (i : ℕ) → i ≢ a * 8 + 1 → get_or ws i 0 ≡ get_or s.words i 0 = (λ i n. get_or-set_other s.words (a * 8 + 1) i (k + 1) 0 n) in let same : serving ws a ≡ now = else_is (a * 8) (λ e. omega arith) in
      let here : get_elem? (set s.views id w) id ≡ some w = set_here s.views id w (at_inside s.views id v at) in let idle : (st : Stage S) → (st ≡ Idle → ⊥) → v.stage ≢ st = (λ st n q. n (sym q ∙ is)) in (
        w,
        keeps,
        tt,
        subst (λ (z : ℕ). Rule record { words = set s.words (a * 8 + 1) z; homes = s.homes; views = set s.views id w }) (sym exact)
            (turned m shared start t s r id v a ws s.homes (Waiting a k) c row at live near (length-set s.words (a * 8 + 1) (k + 1)) refl (λ i _ n. else_is i n) (λ _ _. refl) (λ b g. absurd (subst (About b) is g)) f refl (λ _ _. refl)
            (near, ap (λ (z : Row S). z.waiter k) (put_here r.rows a row) ∙ put_here (r.rows a).waiter k id, omega arith, omega arith)
            (λ j i ne q. let lo = q.2 in let hi = q.3 in (put_else (r.rows a).waiter k id i (λ e. omega arith) ∙ q.1, omega arith, omega arith)) record {
              behind = omega arith;
              bound = omega arith;
              waits = λ j lo hi. dite (ℕ_discrete j k)
                  (λ e. (w, ap (get_elem? (set s.views id w)) (ap (put (r.rows a).waiter k id) e ∙ put_here (r.rows a).waiter k id) ∙ here, ap (Waiting a) (sym e)))
                  (λ n. let o = waits_behind s r id v w a j near at (λ b i q. absurd (idle (Waiting b i) (λ z. cc) q)) (omega arith) (omega arith) in (o.0, ap (get_elem? (set s.views id w)) (put_else (r.rows a).waiter k id j n) ∙ o.1, o.2));
              served = λ l. subst (λ (z : ℕ). (d : V) × (get_elem? (set s.views id w) (put (r.rows a).waiter k id z) ≡ some d) × HasTurn m s.homes a z x d.stage) (sym same) (dite (ℕ_discrete now k)
                  (λ e. (w, ap (get_elem? (set s.views id w)) (ap (put (r.rows a).waiter k id) e ∙ put_here (r.rows a).waiter k id) ∙ here, (refl, sym e, ok.rests e)))
                  (λ n. let o = ok.served (omega arith) in let i : ℕ = (r.rows a).waiter now in
                  let apart : i ≢ id = (λ e. subst (HasTurn m s.homes a now x) (ap (λ (z : V). z.stage) (same_at s.views id o.0 v (subst (λ (z : ℕ). get_elem? s.views z ≡ some o.0) e o.1) at) ∙ is) o.2) in
                  (o.0, ap (get_elem? (set s.views id w)) (put_else (r.rows a).waiter k id now n) ∙ (set_else s.views id i w apart ∙ o.1), o.2)));
              rests = λ e. absurd (omega arith);
              tagged = ok.tagged;
              seen = λ p l. let q = logs_stay m shared start t s r id v c a at live f refl p in sees_stays m (r.logs p) (cs p) a x q.0 q.1 (ok.seen p l);
              alone = λ e. (logs_stay m shared start t s r id v c a at live f refl 0).1 ∙ ok.alone e;
              no_other = ok.no_other;
            }),
        (less, λ a' e. let is_a : a' ≡ a = omega arith in (λ i. (moved v (Waiting (sym is_a i) k) c, me.1))),
      )

  pub advances : (slots id : ℕ) (me : Me S V) (a k : ℕ) → me.0.live ≡ true → me.0.stage ≡ Leaving a k → Allows Rule slots id me (a * 8) (λ _. k + 1) (λ _. advanced (step slots (a * 8) (k + 1) 0 none) me (k + 1))
  advances slots id me a k live is s r _ at _ = let v : V = me.0 in let now : ℕ = serving s.words a in let next : ℕ = next_ticket s.words a in let x : S = (r.rows a).state in let h = subst (InTurn (HasTicket start r.rows s.words id)) is (r.each_stage id v at) in
      let near = h.0 in let ok = r.each_row a near in let e = is_served s r id v a k at h (λ q. let z : Leaving a k ≡ Waiting a k = sym is ∙ q in cc) in let turn = subst (HasTurn m s.homes a now x) is (has_turn s r id v a k at h e) in
      let w : V = moved v Idle v.own in let wide = r.wide in let ws : List ℕ = set s.words (a * 8) (k + 1) in let new : serving ws a ≡ k + 1 = get_or-set_same s.words (a * 8) (k + 1) 0 (omega arith) in
      let else_is : (i : ℕ) → i ≢ a * 8 → get_or ws i 0 ≡ get_or s.words i 0 = (λ i n. get_or-set_other s.words (a * 8) i (k + 1) 0 n) in let same : next_ticket ws a ≡ next = else_is (a * 8 + 1) (λ q. omega arith) in let hi = h.3 in
      let f = itself s r id v at live in let b = ok.bound in let more = calls_grow m shared start t s r id v v.own at live f in
      let later : (j : ℕ) → now < j → j < next → (d : V) × (get_elem? (set s.views id w) ((r.rows a).waiter j) ≡ some d) × (d.stage ≡ Waiting a j) = (λ j lo u. waits_behind s r id v w a j near at (λ b i q. absurd (let z : Leaving a k ≡ Waiting b i = sym is ∙ q in cc)) lo u) in (
        w,
        keeps,
        tt,
        turned m shared start t s r id v a ws s.homes Idle v.own (r.rows a) at live near (length-set s.words (a * 8) (k + 1)) refl (λ i n _. else_is i n) (λ _ _. refl) (λ b. one_row s.homes a now x b v.stage (subst (HasTurn m s.homes a now x) (sym is) turn)) f refl (λ _ _. refl) tt
            (λ j i ne q. let lo = q.2 in let u = q.3 in let apart : i ≢ k = (λ g. ne (sym q.1 ∙ (ap (r.rows a).waiter g ∙ h.1))) in (q.1, omega arith, omega arith)) record {
              behind = omega arith;
              bound = omega arith;
              waits = λ j lo u. later j (omega arith) (omega arith);
              served = λ l. let o = later (k + 1) (omega arith) (omega arith) in
                  subst (λ (z : ℕ). (d : V) × (get_elem? (set s.views id w) ((r.rows a).waiter z) ≡ some d) × HasTurn m s.homes a z x d.stage) (sym new)
                  (o.0, o.1, subst (HasTurn m s.homes a (k + 1) x) (sym o.2) (refl, refl, subst (λ (z : ℕ). AtHome m s.homes a (z + 1) x) (sym e) turn.2));
              rests = λ g. subst (λ (z : ℕ). AtHome m s.homes a z x) (sym new) (subst (λ (z : ℕ). AtHome m s.homes a (z + 1) x) (sym e) turn.2);
              tagged = ok.tagged;
              seen = still_seen s r id v a near at live;
              alone = still_alone s r id v a near at live;
              no_other = ok.no_other;
            },
        refl,
      )
