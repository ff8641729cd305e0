-- The rule of the rows: what holds of their words, their slots and the views of all passes between any two steps.
-- Of n rows, the word 8 r is the number that the row r serves, the word 8 r + 1 its next ticket, and the word 8 n the number that is drawn next.
use Rattle.std.specs.Prelude.{◌≡◌, ℕ, ◌+◌, ◌*◌, ◌^◌, ◌<◌, ◌≤◌, ◌≢◌, List, [], length, slice_index, true, false, All}
use mathlib.Core.Option.{some, none}
use mathlib.Core.Option as maybe
use lib.ListN.{get_elem?}
use Rattle.atomic_table.specs.Table.{State}
use Rattle.turn_rows.specs.declared.view.View.{View}
use Rattle.turn_rows.specs.declared.view.Stage.{Stage}
use Rattle.turn_rows.specs.declared.view.Stage.TheVariants.{Idle, Waiting, Served, Holding, Leaving}
use Rattle.turn_rows.specs.declared.view.Log.{Log}
use Rattle.turn_rows.specs.Lists.{StartsWith, made_by, sum_below, DrawnOnce}

-- what the states and the entries of some rows mean
pub record Meaning (S E T : Type 0) : Type 0 where
  pub entries : S → List E
  pub by : E → ℕ
  pub turns : S → ℕ
  pub tag : S → T
  pub mark : S → ℕ

-- the meaning with these parts
abbrev pub meaning : {S E T : Type 0} → (S → List E) → (E → ℕ) → (S → ℕ) → (S → T) → (S → ℕ) → Meaning S E T
meaning entries by turns tag mark = record { entries = entries; by = by; turns = turns; tag = tag; mark = mark }

-- the number that the row r serves
abbrev pub serving : List ℕ → ℕ → ℕ
serving words r = slice_index words (r * 8)

-- the next ticket of the row r
abbrev pub next_ticket : List ℕ → ℕ → ℕ
next_ticket words r = slice_index words (r * 8 + 1)

-- of one row: the place among the views of the pass that has each waiting ticket, and the state, as it is at home or was when it was taken out
pub record Row (S : Type 0) : Type 0 where
  pub waiter : ℕ → ℕ
  pub state : S

module _ {S : Type 0} where
  -- a log with these parts
  abbrev pub log : ℕ → ℕ → ℕ → List S → List ℕ → Log S
  log number made calls rows draws = record { number = number; made = made; calls = calls; rows = rows; draws = draws }

  -- of a stage in a turn, its row and its ticket
  abbrev pub InTurn : (ℕ → ℕ → Type 0) → Stage S → Type 0
  InTurn P Idle = Unit {0}
  InTurn P (Waiting r k) = P r k
  InTurn P (Served r k) = P r k
  InTurn P (Holding r k x) = P r k
  InTurn P (Leaving r k) = P r k

  -- k is a waiting ticket of the row r, and the pass at the place j among the views has it
  abbrev pub HasTicket : List S → (ℕ → Row S) → List ℕ → ℕ → ℕ → ℕ → Type 0
  HasTicket start rows words j r k = (r < length start) × ((rows r).waiter k ≡ j) × (serving words r ≤ k) × (k < next_ticket words r)

  -- the log of the pass p, of `made` passes over n rows; only the first counts the passes
  pub record IsLog (n made p : ℕ) (c : Log S) : Type 0 where
    pub numbered : c.number ≡ p
    pub first : p ≡ 0 → c.made ≡ made
    pub later : 0 < p → c.made ≡ 0
    pub few : c.calls ≤ 2 ^ 60
    pub long : length c.rows ≡ n

  -- the view of the pass j while it was not joined: its own log, and those that it keeps, which no other pass keeps
  pub record IsLive (shared : ℕ) (start : List S) (made : ℕ) (logs : ℕ → Log S) (keeper : ℕ → ℕ) (j : ℕ) (v : View S) : Type 0 where
    pub own : v.own ≡ logs j
    pub itself : keeper j ≡ j
    pub of_shared : v.shared ≡ shared
    pub of_start : v.start ≡ start
    pub keeps : (i : ℕ) (c : Log S) → get_elem? v.kept i ≡ some c → (c ≡ logs c.number) × (keeper c.number ≡ j) × (c.number < made) × (c.number ≢ j)

  -- the fifth part, of the draws: the passes drew the numbers from the shared count up to the next one, each once
  pub record DrawsHold (shared next made : ℕ) (logs : ℕ → Log S) : Type 0 where
    pub bound : next ≤ shared + sum_below made (λ p. (logs p).calls)
    pub drawn : DrawnOnce shared next made (λ p. (logs p).draws)
    pub below : (p : ℕ) → p < made → All (λ x. x < next) (logs p).draws
    pub alone : made ≡ 1 → next ≡ shared + length (logs 0).draws

module _ {S E T : Type 0} (m : Meaning S E T) where
  -- the state x lies in the slot of the row r, and has had so many turns
  abbrev pub AtHome : List (maybe.Option S) → ℕ → ℕ → S → Type 0
  AtHome homes r count x = (get_elem? homes r ≡ some (some x)) × (m.turns x ≡ count)

  -- the pass in this stage is the one that the row r serves at `now`: the state x is at home until it takes it out, and has one turn more once it is back
  abbrev pub HasTurn : List (maybe.Option S) → ℕ → ℕ → S → Stage S → Type 0
  HasTurn homes r now x Idle = ⊥
  HasTurn homes r now x (Waiting a k) = (a ≡ r) × (k ≡ now) × AtHome homes r now x
  HasTurn homes r now x (Served a k) = (a ≡ r) × (k ≡ now) × AtHome homes r now x
  HasTurn homes r now x (Holding a k y) = (a ≡ r) × (k ≡ now) × (y ≡ x) × (get_elem? homes r ≡ some none) × (m.turns x ≡ now)
  HasTurn homes r now x (Leaving a k) = (a ≡ r) × (k ≡ now) × AtHome homes r (now + 1) x

  -- a pass with this log has seen a beginning of the entries of the row's state x, with all that it made there
  abbrev pub Sees : Log S → ℕ → S → Type 0
  Sees c r x = (y : S) × (get_elem? c.rows r ≡ some y) × StartsWith (m.entries x) (m.entries y) × (made_by m.by c.number (m.entries x) ≡ made_by m.by c.number (m.entries y))

  -- the first four parts of the rule, of one row: its tickets, its slot, what the passes have seen, and whose the entries are
  pub record RowHolds (t : T) (words : List ℕ) (homes : List (maybe.Option S)) (views : List (View S)) (made : ℕ) (logs : ℕ → Log S) (row : Row S) (r : ℕ) : Type 0 where
    -- 1. the ticket that is served is one that was drawn, or the next; each drawn one from there on is the waiting ticket of one pass
    pub behind : serving words r ≤ next_ticket words r
    pub bound : next_ticket words r ≤ sum_below made (λ p. (logs p).calls)
    pub waits : (k : ℕ) → serving words r < k → k < next_ticket words r → (v : View S) × (get_elem? views (row.waiter k) ≡ some v) × (v.stage ≡ Waiting r k)
    -- 2. the slot is empty only while the pass that is served has the state out; a state at home has had as many turns as were served
    pub served : serving words r < next_ticket words r → (v : View S) × (get_elem? views (row.waiter (serving words r)) ≡ some v) × HasTurn homes r (serving words r) row.state v.stage
    pub rests : serving words r ≡ next_ticket words r → AtHome homes r (serving words r) row.state
    pub tagged : m.tag row.state ≡ t
    -- 3. what each pass has seen is a beginning of the state's entries, and a pass that is alone has seen the state itself
    pub seen : (p : ℕ) → p < made → Sees (logs p) r row.state
    pub alone : made ≡ 1 → get_elem? (logs 0).rows r ≡ some row.state
    -- 4. a pass has seen all entries that it made (`Sees`), and no entry has a number that was not given yet
    pub no_other : (p : ℕ) → made ≤ p → made_by m.by p (m.entries row.state) ≡ []

  -- the rule: of each row, each pass, and the draws
  pub record RowsHold (shared : ℕ) (start : List S) (t : T) (s : State S (View S)) : Type 0 where
    pub made : ℕ
    pub logs : ℕ → Log S
    pub keeper : ℕ → ℕ
    pub rows : ℕ → Row S
    pub wide : length s.words ≡ length start * 8 + 1
    pub slots : length s.homes ≡ length start
    pub counted : length s.views ≡ made
    pub few : made ≤ 8
    pub some_pass : 0 < made
    pub few_rows : shared ≤ length start
    pub small : length start ≤ 4096
    pub fresh : (i : ℕ) (y : S) → get_elem? start i ≡ some y → (m.entries y ≡ []) × (m.mark y ≡ 0)
    pub each_row : (r : ℕ) → r < length start → RowHolds t s.words s.homes s.views made logs (rows r) r
    pub each_stage : (j : ℕ) (v : View S) → get_elem? s.views j ≡ some v → InTurn (HasTicket start rows s.words j) v.stage
    pub each_view : (j : ℕ) (v : View S) → get_elem? s.views j ≡ some v → (v.live ≡ true → IsLive shared start made logs keeper j v) × (v.live ≡ false → v.stage ≡ Idle)
    pub each_log : (p : ℕ) → p < made → IsLog (length start) made p (logs p)
    pub draws : DrawsHold shared (slice_index s.words (length start * 8)) made logs
