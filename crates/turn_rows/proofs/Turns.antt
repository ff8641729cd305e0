-- The steps of one turn, one after another, and what the turn then tells.
use Rattle.std.proofs.Common.{◌≡◌, ◌≢◌, ℕ, ◌+◌, ◌*◌, ⊎_elim, inl, inr, true, List, [], ◌∷◌, ◌++◌, sym, ap, ◌∙◌, subst}
use mathlib.Core.Option.{some, none}
use lib.ListN.{get_elem?}
use Rattle.atomic_table.specs.Table.{Me, step, rest, Allows}
use Rattle.atomic_table.proofs.Lists.{set_here, set_else}
use Rattle.turn_rows.specs.declared.view.View.{View}
use Rattle.turn_rows.specs.declared.view.Log.{Log}
use Rattle.turn_rows.specs.declared.view.Stage.TheVariants.{Idle, Served, Holding, Leaving}
use Rattle.turn_rows.specs.Lists.{StartsWith, made_by, Adds}
use Rattle.turn_rows.specs.Rule.{Meaning, RowsHold}
use Rattle.turn_rows.specs.Plays.{moved, with_call, with_row, gave, advanced, Finds, Ran}
use Rattle.turn_rows.specs.Passes.{seen_in, mine_in, entries_at, mark_at, TurnTaken}
use Rattle.turn_rows.proofs.Lists.{at_inside, own_more, adds_front}
use Rattle.turn_rows.proofs.Steps.{gives_back, advances}

-- the value of the slot taken last
abbrev slot_value : {S : Type 0} → S → List (ℕ × S) → S
slot_value d [] = d
slot_value d (x ∷ xs) = x.1

module _ {S : Type 0} where
  -- the state x is out with the view v, which had no other slot
  pub record TookOut (v : View S) (cs : List (ℕ × S)) (a k : ℕ) (x : S) (me : Me S (View S)) : Type 0 where
    pub is : me ≡ (moved v (Holding a k x) v.own, (a, x) ∷ cs)
    pub no_other : cs ≡ []

  -- what lies in the slot is the state that was taken
  pub same_state : (v : View S) (cs : List (ℕ × S)) (a k : ℕ) (x old : S) (me : Me S (View S)) → TookOut v cs a k x me → me.1 ≡ (a, old) ∷ rest me.1 → old ≡ x
  same_state v cs a k x old me o e = ap (slot_value x) (sym e ∙ ap (λ (z : Me S (View S)). z.1) o.is)

  -- the slot after it was written
  pub wrote : (v : View S) (cs : List (ℕ × S)) (a k : ℕ) (x y : S) (me : Me S (View S)) → TookOut v cs a k x me → (a, y) ∷ rest me.1 ≡ (a, y) ∷ []
  wrote v cs a k x y me o = ap (λ (z : List (ℕ × S)). (a, y) ∷ z) (ap (λ (z : Me S (View S)). rest z.1) o.is ∙ o.no_other)

  pub given : (v : View S) (cs : List (ℕ × S)) (a k : ℕ) (x y : S) (me me' : Me S (View S)) → TookOut v cs a k x me → gave {S = S} (step 0 0 0 0 none) (me.0, (a, y) ∷ rest me.1) 0 me' → me' ≡ (moved v (Leaving a k) (with_row v.own a y), [])
  given v cs a k x y me me' o g = g a k x y (ap (λ (z : Me S (View S)). z.0.stage) o.is) (wrote v cs a k x y me o) ∙ ap (λ (z : View S). (moved z (Leaving a k) (with_row z.own a y), [])) (ap (λ (z : Me S (View S)). z.0) o.is)

module _ {S E T : Type 0} (m : Meaning S E T) where
  pub ran : (then : S → S → Type 0) (v : View S) (cs : List (ℕ × S)) (a k : ℕ) (x old y : S) (me me' me'' : Me S (View S)) → TookOut v cs a k x me → me.1 ≡ (a, old) ∷ rest me.1 → me' ≡ (moved v (Leaving a k) (with_row v.own a y), [])
      → me'' ≡ (moved me'.0 Idle me'.0.own, me'.1) → then old y → Finds m v a x → m.tag y ≡ m.tag old → m.turns y ≡ m.turns old + 1 → Adds m.by v.own.number (m.entries old) (m.entries y) → Ran m then v a me''.0
  ran then v cs a k x old y me me' me'' o e given last does finds tags turns adds = record {
    found = old;
    left = y;
    ran = does;
    finds = subst (Finds m v a) (sym (same_state v cs a k x old me o e)) finds;
    tagged = tags;
    turns = turns;
    adds = adds;
    view_is = ap (λ (z : Me S (View S)). z.0) last ∙ ap (λ (z : Me S (View S)). moved z.0 Idle z.0.own) given;
  }

  module _ (shared : ℕ) (start : List S) (t : T) where
    pub gives : (slots id : ℕ) (v : View S) (cs : List (ℕ × S)) (a k : ℕ) (x old y : S) (me : Me S (View S)) → v.live ≡ true → TookOut v cs a k x me → me.1 ≡ (a, old) ∷ rest me.1 → m.tag y ≡ m.tag old → m.turns y ≡ m.turns old + 1
        → Adds m.by v.own.number (m.entries old) (m.entries y)
        → Allows (RowsHold m shared start t) slots id (me.0, (a, y) ∷ rest me.1) (a * 8) (λ w. w) (gave (step slots (a * 8) 0 0 none) (me.0, (a, y) ∷ rest me.1))
    gives slots id v cs a k x old y me live o e tags turns adds = let same = same_state v cs a k x old me o e in
        gives_back m shared start t slots id (me.0, (a, y) ∷ rest me.1) a k x y (ap (λ (z : Me S (View S)). z.0.live) o.is ∙ live) (ap (λ (z : Me S (View S)). z.0.stage) o.is) (wrote v cs a k x y me o) (tags ∙ ap m.tag same) (turns ∙ ap (λ (z : S). m.turns z + 1) same)
        (subst (λ (n : ℕ). Adds m.by n (m.entries x) (m.entries y)) (sym (ap (λ (z : Me S (View S)). z.0.own.number) o.is)) (subst (λ (z : S). Adds m.by v.own.number (m.entries z) (m.entries y)) same adds))

    pub serves_next : (slots id : ℕ) (v : View S) (a k : ℕ) (y : S) (me : Me S (View S)) → v.live ≡ true → me ≡ (moved v (Leaving a k) (with_row v.own a y), [])
        → Allows (RowsHold m shared start t) slots id me (a * 8) (λ _. k + 1) (λ _. advanced (step slots (a * 8) (k + 1) 0 none) me (k + 1))
    serves_next slots id v a k y me live is = advances m shared start t slots id me a k (ap (λ (z : Me S (View S)). z.0.live) is ∙ live) (ap (λ (z : Me S (View S)). z.0.stage) is)

  -- what a turn tells, of the log before and after it
  module _ (then : S → S → Type 0) (v v' w : View S) (r k : ℕ) (is : v' ≡ moved v (Served r k) (with_call v.own)) (part : Ran m then v' r w) where
    abbrev turn : Ran m then (moved v (Served r k) (with_call v.own)) r w
    turn = subst (λ (z : View S). Ran m then z r w) is part

    abbrev now_log : Log S
    now_log = with_row (with_call v.own) r turn.left

    log_is : w.own ≡ now_log
    log_is = ap (λ (z : View S). z.own) turn.view_is

    was_seen : seen_in m.entries v.own r ≡ m.entries turn.finds.sees.0
    was_seen = ap (entries_at m.entries) turn.finds.sees.1

    there : get_elem? now_log.rows r ≡ some turn.left
    there = set_here v.own.rows r turn.left (at_inside v.own.rows r turn.finds.sees.0 turn.finds.sees.1)

    had : StartsWith (m.entries turn.found) (seen_in m.entries v.own r)
    had = subst (StartsWith (m.entries turn.found)) (sym was_seen) turn.finds.sees.2

    mine : mine_in m.entries m.by v.own r ≡ made_by m.by v.own.number (m.entries turn.found)
    mine = ap (made_by m.by v.own.number) was_seen ∙ sym turn.finds.sees.3

    pub grows : StartsWith (seen_in m.entries w.own r) (seen_in m.entries v.own r)
    grows = subst (λ (c : Log S). StartsWith (seen_in m.entries c r) (seen_in m.entries v.own r)) (sym log_is) (subst (λ (z : List E). StartsWith z (seen_in m.entries v.own r)) (sym (ap (entries_at m.entries) there))
        (adds_front m.by v.own.number (m.entries turn.found) (m.entries turn.left) (seen_in m.entries v.own r) turn.adds had))

    pub others : (b : ℕ) → b ≢ r → get_elem? w.own.rows b ≡ get_elem? v.own.rows b
    others b ne = ap (λ (c : Log S). get_elem? c.rows b) log_is ∙ set_else v.own.rows r b turn.left ne

    pub taken : (one : S) → get_elem? v.start 0 ≡ some one → TurnTaken m then one v.own r w.own
    taken one head = subst (TurnTaken m then one v.own r) (sym log_is) record {
      found = turn.found;
      left = turn.left;
      ran = turn.ran;
      tagged = (turn.finds.tagged one head, turn.tagged ∙ turn.finds.tagged one head);
      turns = turn.turns;
      had_seen = had;
      sees = ap (entries_at m.entries) there;
      adds = ⊎_elim (λ (e : m.entries turn.left ≡ m.entries turn.found). inl (e, ap (made_by m.by v.own.number) (ap (entries_at m.entries) there ∙ e) ∙ sym mine))
          (λ (h : (e : E) × (m.by e ≡ v.own.number) × (m.entries turn.left ≡ m.entries turn.found ++ e ∷ [])).
          inr (h.0, h.1, h.2, ap (made_by m.by v.own.number) (ap (entries_at m.entries) there ∙ h.2) ∙ (own_more m.by v.own.number (m.entries turn.found) h.0 h.1 ∙ ap (λ (z : List E). z ++ h.0 ∷ []) (sym mine)))) turn.adds;
      marked = ap (mark_at m.mark) there;
      alone = λ e. let q = turn.finds.alone e in (ap (entries_at m.entries) (sym q), ap (mark_at m.mark) (sym q));
    }
