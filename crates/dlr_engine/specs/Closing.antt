-- What a run came to.
use Rattle.std.specs.Prelude.{◌≡◌, ◌≤◌, ◌<◌, ℕ, List, [], get_or, length, slice_index_or}
use Rattle.std.specs.List.{flat_map, range_with_len}
use Rattle.std.specs.List.Sorted.{IsPermutation, IsStrictlyIncreasing}
use Rattle.dyn_value.specs.declared.entry.Entry.{Entry}
use Rattle.object_history.specs.Histories.{by_of}
use Rattle.object_model.specs.Journals.{IsLegal}
use Rattle.standard_binders.specs.declared.binder.Binder.{Binder}
use Rattle.turn_rows.specs.Lists.{StartsWith, made_by}
use Rattle.dlr_engine.specs.declared.answer.Levels.{Levels}
use Rattle.dlr_engine.specs.declared.closed.Closed.{Closed}
use Rattle.dlr_engine.specs.declared.pass.Drawn.{Drawn}
use Rattle.dlr_engine.specs.declared.pass.Pass.{Pass}
use Rattle.dlr_engine.specs.Passes.{mine_of, numbers_of, seen_of}

-- the history of each object
abbrev pub journals_in : Closed → List (List Entry)
journals_in c = c.journals

-- what each pass drew
abbrev pub drawn_in : Closed → List (List Drawn)
drawn_in c = c.drawn

-- how many operations all passes answered at each level
abbrev pub levels_in : Closed → Levels
levels_in c = c.levels

-- A history at the end, beside all passes: it is legal, what each has seen of it is a beginning, the entries of each
-- are those that it made, in order, and there are no others.
pub record IsClosed (binders : List Binder) (ps : List Pass) (row : ℕ) (journal : List Entry) : Type 0 where
  pub legal : IsLegal binders [] journal
  pub seen : (k : ℕ) (d : Pass) → k < length ps → StartsWith journal (seen_of (slice_index_or ps k d) row)
  pub mine : (k : ℕ) (d : Pass) → k < length ps → made_by by_of k journal ≡ mine_of (slice_index_or ps k d) row
  pub no_other : (k : ℕ) → length ps ≤ k → made_by by_of k journal ≡ []

abbrev pub IsClosedRow : List Binder → List Pass → ℕ → List (List Entry) → Type 0
IsClosedRow binders ps row journals = IsClosed binders ps row (get_or journals row [])

-- all numbers that these passes drew
abbrev pub all_numbers : List Pass → List ℕ
all_numbers ps = flat_map numbers_of ps

-- Together the passes drew the numbers after those of the shared objects, each once, and each pass's rise.
pub record AreDrawn (shared : ℕ) (ps : List Pass) : Type 0 where
  pub numbers : IsPermutation (all_numbers ps) (range_with_len shared (length (all_numbers ps)))
  pub rising : (k : ℕ) (d : Pass) → k < length ps → IsStrictlyIncreasing (numbers_of (slice_index_or ps k d))
