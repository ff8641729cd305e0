-- What the clauses say of rows, of their passes, of a turn and of the end.
use Rattle.std.specs.Prelude.{◌≡◌, ℕ, ◌+◌, ◌<◌, ◌≤◌, ◌==◌, List, [], ◌∷◌, cond, length, slice_index_or, All}
use mathlib.Core.Option.{Option, some, none}
use lib.ListN.{get_elem?}
use Rattle.turn_rows.specs.declared.rows.Ruled.{Ruled}
use Rattle.turn_rows.specs.declared.rows.RowPass.{RowPass}
use Rattle.turn_rows.specs.declared.view.Log.{Log}
use Rattle.turn_rows.specs.declared.view.View.{View}
use Rattle.atomic_table.specs.declared.shared.Seat.{Seat}
use Rattle.turn_rows.specs.Lists.{StartsWith, made_by, AddsToBoth, DrawnOnce}
use Rattle.turn_rows.specs.Rule.{Meaning, log}

module _ {S : Type 0} where
  -- the log with this number
  abbrev pub log_numbered : ℕ → List (Log S) → Log S
  log_numbered p [] = log 0 0 0 [] []
  log_numbered p (c ∷ cs) = cond (c.number == p) c (log_numbered p cs)

  -- one of these logs has this number
  abbrev pub HasLog : ℕ → List (Log S) → Type 0
  HasLog p cs = (i : ℕ) × (c : Log S) × (get_elem? cs i ≡ some c) × (c.number ≡ p)

  -- how many passes were made, as the first one's log tells
  abbrev pub passes_made : List (Log S) → ℕ
  passes_made cs = (log_numbered 0 cs).made

  -- these are the logs of all passes that were made
  abbrev pub HasAll : List (Log S) → Type 0
  HasAll cs = (0 < passes_made cs) × ((p : ℕ) → p < passes_made cs → HasLog p cs)

  -- what a pass knows
  abbrev pub log_of : RowPass S → Log S
  log_of p = p.seat.me.0.own

  -- the logs of the passes that were joined to it
  abbrev pub kept_of : RowPass S → List (Log S)
  kept_of p = p.seat.me.0.kept

  -- its own log, and those
  abbrev pub logs_of : RowPass S → List (Log S)
  logs_of p = log_of p ∷ kept_of p

  -- its number, its count of passes, and the logs that it keeps of others are as they were
  abbrev pub IsSamePass : RowPass S → RowPass S → Type 0
  IsSamePass p q = ((log_of q).number ≡ (log_of p).number) × ((log_of q).made ≡ (log_of p).made) × (kept_of q ≡ kept_of p)

  -- it is a seat at these rows' table
  abbrev pub IsSeatOf : {Q : Type 0} → Ruled S Q → Seat S (View S) → Type 0
  IsSeatOf rows seat = (seat.table_id ≡ rows.table.shared.table_id) × (seat.me.0.start ≡ rows.table.shared.key.states.value.items) × (seat.me.0.shared ≡ rows.table.shared.key.shared)

  -- it is a pass of these rows
  abbrev pub IsPassOf : {Q : Type 0} → Ruled S Q → RowPass S → Type 0
  IsPassOf rows p = IsSeatOf rows p.seat

  -- it is the pass with this number, and keeps no other's log
  abbrev pub IsAlone : {Q : Type 0} → Ruled S Q → ℕ → RowPass S → Type 0
  IsAlone rows n p = IsPassOf rows p × ((log_of p).number ≡ n) × (kept_of p ≡ [])

  -- how many rows there are
  abbrev pub row_count : {Q : Type 0} → Ruled S Q → ℕ
  row_count rows = rows.count

  -- the number from which draws begin
  abbrev pub shared_count : {Q : Type 0} → Ruled S Q → ℕ
  shared_count rows = rows.table.shared.key.shared

  -- a state with the rows' tag
  abbrev pub tag_state : {Q : Type 0} → Ruled S Q → S
  tag_state rows = rows.table.shared.key.one.value

module _ {S E : Type 0} (entries : S → List E) where
  abbrev pub entries_at : Option S → List E
  entries_at (some y) = entries y
  entries_at none = []

  -- the entries that a pass has seen of a row
  abbrev pub seen_in : Log S → ℕ → List E
  seen_in c r = entries_at (get_elem? c.rows r)

  -- the entries that it made there
  abbrev pub mine_in : (E → ℕ) → Log S → ℕ → List E
  mine_in by c r = made_by by c.number (seen_in c r)

module _ {S : Type 0} (mark : S → ℕ) where
  abbrev pub mark_at : Option S → ℕ
  mark_at (some y) = mark y
  mark_at none = 0

  -- the mark of the state that its last turn there left
  abbrev pub mark_in : Log S → ℕ → ℕ
  mark_in c r = mark_at (get_elem? c.rows r)

module _ {S E T : Type 0} (m : Meaning S E T) where
  -- a state at the start: without entries, turns and mark
  abbrev pub IsNew : S → Type 0
  IsNew y = (m.entries y ≡ []) × (m.turns y ≡ 0) × (m.mark y ≡ 0)

  -- states at the start
  abbrev pub AllNew : List S → Type 0
  AllNew states = All IsNew states

  -- states that have the tag of this one
  abbrev pub AllTagged : S → List S → Type 0
  AllTagged one states = All (λ y. m.tag y ≡ m.tag one) states

  -- states that have the tag of the first of them
  abbrev pub HaveOneTag : List S → Type 0
  HaveOneTag states = (d : S) → AllTagged (slice_index_or states 0 d) states

  -- the log of a pass that has seen, made and drawn nothing
  pub record IsFresh (c : Log S) : Type 0 where
    pub seen_none : (r : ℕ) → seen_in m.entries c r ≡ []
    pub no_mark : (r : ℕ) → mark_in m.mark c r ≡ 0
    pub no_draws : c.draws ≡ []
    pub no_calls : c.calls ≡ 0

  -- a turn in the row r of a pass with the log c, which is d afterwards: the state that it found and the one that it left
  pub record TurnTaken (then : S → S → Type 0) (one : S) (c : Log S) (r : ℕ) (d : Log S) : Type 0 where
    pub found : S
    pub left : S
    -- the step's relation holds of them
    pub ran : then found left
    pub tagged : (m.tag found ≡ m.tag one) × (m.tag left ≡ m.tag one)
    pub turns : m.turns left ≡ m.turns found + 1
    -- the pass had seen a beginning of what it found, and has seen all that it left
    pub had_seen : StartsWith (m.entries found) (seen_in m.entries c r)
    pub sees : seen_in m.entries d r ≡ m.entries left
    -- what the step added is one entry of this pass at the end of both lists, or none
    pub adds : AddsToBoth m.by c.number (m.entries found) (m.entries left) (mine_in m.entries m.by c r) (mine_in m.entries m.by d r)
    pub marked : mark_in m.mark d r ≡ m.mark left
    -- where no other pass was made, it found what it had left
    pub alone : c.made ≡ 1 → (m.entries found ≡ seen_in m.entries c r) × (m.mark found ≡ mark_in m.mark c r)

  -- the state x of the row r at the end, beside the logs of all passes
  pub record IsLast (one : S) (cs : List (Log S)) (r : ℕ) (x : S) : Type 0 where
    pub tagged : m.tag x ≡ m.tag one
    pub seen : (i : ℕ) (c : Log S) → get_elem? cs i ≡ some c → StartsWith (m.entries x) (seen_in m.entries c r)
    pub mine : (i : ℕ) (c : Log S) → get_elem? cs i ≡ some c → made_by m.by c.number (m.entries x) ≡ mine_in m.entries m.by c r
    pub no_other : (p : ℕ) → passes_made cs ≤ p → made_by m.by p (m.entries x) ≡ []

  -- each row's state at the end, in order
  abbrev pub AllLast : S → List (Log S) → List S → Type 0
  AllLast one cs states = (r : ℕ) (d : S) → r < length states → IsLast one cs r (slice_index_or states r d)

-- the passes drew the numbers from the shared count up to some last one, each once, and no other
abbrev pub AllDrawn : {S : Type 0} → ℕ → List (Log S) → Type 0
AllDrawn shared cs = (last : ℕ) × DrawnOnce shared last (passes_made cs) (λ p. (log_numbered p cs).draws)
