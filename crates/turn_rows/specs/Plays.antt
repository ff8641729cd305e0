-- What each step tells the pass that makes it.
use Rattle.std.specs.Prelude.{◌≡◌, ◌≢◌, ℕ, ◌+◌, ◌*◌, ◌^◌, ◌<◌, List, [], ◌∷◌, ◌++◌, length, slice_set, true, false}
use mathlib.Core.Option.{some}
use lib.ListN.{get_elem?}
use Rattle.atomic_table.specs.Table.{Me, Step}
use Rattle.turn_rows.specs.declared.view.View.{View}
use Rattle.turn_rows.specs.declared.view.Log.{Log}
use Rattle.turn_rows.specs.declared.view.Stage.{Stage}
use Rattle.turn_rows.specs.declared.view.Stage.TheVariants.{Idle, Waiting, Served, Holding, Leaving}
use Rattle.turn_rows.specs.Lists.{Adds}
use Rattle.turn_rows.specs.Rule.{Meaning, log, Sees}

module _ {S : Type 0} where
  -- the view in another stage, with another log
  abbrev pub moved : View S → Stage S → Log S → View S
  moved v stage own = record { live = v.live; shared = v.shared; start = v.start; stage = stage; own = own; kept = v.kept }

  -- the view of the first pass at the start
  abbrev pub first_view : ℕ → List S → View S
  first_view shared start = record { live = true; shared = shared; start = start; stage = Idle; own = log 0 1 0 start []; kept = [] }

  -- the log of the first pass once one more was made
  abbrev pub with_pass : Log S → Log S
  with_pass c = log c.number (c.made + 1) c.calls c.rows c.draws

  -- the first pass after one more was made, and that one, which has seen and made nothing
  abbrev pub splitter : View S → View S
  splitter v = moved v v.stage (with_pass v.own)

  abbrev pub newcomer : View S → View S
  newcomer v = record { live = true; shared = v.shared; start = v.start; stage = Idle; own = log v.own.made 0 0 v.start []; kept = [] }

  -- a pass that keeps the log of another, and those that this one kept
  abbrev pub joined : View S → View S → View S
  joined v w = record { live = v.live; shared = v.shared; start = v.start; stage = v.stage; own = v.own; kept = v.kept ++ w.own ∷ w.kept }

  -- a pass that was joined knows nothing any more
  abbrev pub spent : View S
  spent = record { live = false; shared = 0; start = []; stage = Idle; own = log 0 0 0 [] []; kept = [] }

  -- the log after one more call, after a draw of x, and with the state x seen in the row r
  abbrev pub with_call : Log S → Log S
  with_call c = log c.number c.made (c.calls + 1) c.rows c.draws

  abbrev pub with_draw : Log S → ℕ → Log S
  with_draw c x = log c.number c.made (c.calls + 1) c.rows (c.draws ++ x ∷ [])

  abbrev pub with_row : Log S → ℕ → S → Log S
  with_row c r x = log c.number c.made c.calls (slice_set c.rows r x) c.draws

  -- one more number is drawn: where no other pass was made, the shared count and the number of draws before it
  abbrev pub drawn : Step S → Me S (View S) → ℕ → Me S (View S) → Type 0
  drawn st me x me' = (me' ≡ (moved me.0 me.0.stage (with_draw me.0.own x), me.1)) × (me.0.own.made ≡ 1 → x ≡ me.0.shared + length me.0.own.draws)

  -- the pass waits with the ticket k of the row
  abbrev pub ticketed : Step S → Me S (View S) → ℕ → Me S (View S) → Type 0
  ticketed st me k me' = (k < 2 ^ 63) × ((r : ℕ) → st.word ≡ r * 8 + 1 → me' ≡ (moved me.0 (Waiting r k) (with_call me.0.own), me.1))

  -- the pass's ticket is served, or nothing has changed
  abbrev pub looked : Step S → Me S (View S) → ℕ → Me S (View S) → Type 0
  looked st me now me' = (r k : ℕ) → me.0.stage ≡ Waiting r k → (now ≡ k → me' ≡ (moved me.0 (Served r k) me.0.own, me.1)) × (now ≢ k → me' ≡ me)

  -- the state is home again
  abbrev pub gave : Step S → Me S (View S) → ℕ → Me S (View S) → Type 0
  gave st me now me' = (r k : ℕ) (x y : S) → me.0.stage ≡ Holding r k x → me.1 ≡ (r, y) ∷ [] → me' ≡ (moved me.0 (Leaving r k) (with_row me.0.own r y), [])

  -- the next ticket is served
  abbrev pub advanced : Step S → Me S (View S) → ℕ → Me S (View S) → Type 0
  advanced st me now me' = me' ≡ (moved me.0 Idle me.0.own, me.1)

module _ {S E T : Type 0} (m : Meaning S E T) where
  -- what a pass finds in its turn: a state with the rows' tag that it had seen a beginning of, and all of it where no other pass was made
  pub record Finds (v : View S) (r : ℕ) (x : S) : Type 0 where
    pub tagged : (z : S) → get_elem? v.start 0 ≡ some z → m.tag x ≡ m.tag z
    pub sees : Sees m v.own r x
    pub alone : v.own.made ≡ 1 → get_elem? v.own.rows r ≡ some x
    pub room : m.turns x < 2 ^ 63

  -- the part of a turn in the row r in which the pass is served, and the view v becomes w
  pub record Ran (then : S → S → Type 0) (v : View S) (r : ℕ) (w : View S) : Type 0 where
    pub found : S
    pub left : S
    pub ran : then found left
    pub finds : Finds v r found
    pub tagged : m.tag left ≡ m.tag found
    pub turns : m.turns left ≡ m.turns found + 1
    pub adds : Adds m.by v.own.number (m.entries found) (m.entries left)
    pub view_is : w ≡ moved v Idle (with_row v.own r left)

  -- the state is out
  abbrev pub took : Step S → Me S (View S) → ℕ → Me S (View S) → Type 0
  took st me now me' = (r k : ℕ) → me.0.stage ≡ Served r k → (x : S) × (me' ≡ (moved me.0 (Holding r k x) me.0.own, (r, x) ∷ me.1)) × Finds me.0 r x

  -- the states at the start have no entries and no mark
  abbrev pub fresh : Step S → Me S (View S) → ℕ → Me S (View S) → Type 0
  fresh st me now me' = (me' ≡ me) × ((i : ℕ) (y : S) → get_elem? me.0.start i ≡ some y → (m.entries y ≡ []) × (m.mark y ≡ 0))
