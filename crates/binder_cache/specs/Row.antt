-- The rows that hold known rules, and the order of their places.
use Rattle.std.specs.Prelude.{◌≡◌, ◌≢◌, ℕ, ◌+◌, ◌^◌, ◌<◌, List, ◌∷◌, ◌++◌, All, length, [], Option, Some, option_map, slice_get, slice_index_or, filter_map, cond, nat_lt}
use Rattle.rule_cells.specs.declared.cells.Cells.{Cells}
use Rattle.rule_cells.specs.declared.cells.Known.{Known}
use Rattle.rule_cells.specs.Cells.{IsKnownOf, index_of, rule_of}
use Rattle.binder_cache.specs.declared.rows.Publication.{Publication}
use Rattle.binder_cache.specs.declared.rows.Row.{Row}
use Rattle.binder_cache.specs.Known.{KnownRule}

-- the word for a rule: one more than its index, or, where that has no room, a word by its place
abbrev pub word_for : ℕ → ℕ → ℕ
word_for place index = cond (nat_lt index (2 ^ 63)) (index + 1) (2 ^ 63 + 1 + place)

module _ {R A : Type 0} where
  -- what a user sees of a row
  abbrev pub shown : Row R A → KnownRule R A
  shown row = record { index = index_of row.known; word = row.word; rule = (rule_of row.known).rule; note = row.note }

  -- what a user sees of a place
  abbrev pub shown_at : List (Row R A) → ℕ → Option (KnownRule R A)
  shown_at rows place = option_map shown (slice_get rows place)

  -- the rules at the places of an order
  abbrev pub in_order : List (Row R A) → List ℕ → List (KnownRule R A)
  in_order rows order = filter_map (shown_at rows) order

  -- each row has the word of its place and its index
  abbrev pub HasWords : List (Row R A) → Type 0
  HasWords rows = (place : ℕ) (d : Row R A) → place < length rows →
      let row = slice_index_or rows place d in row.word ≡ word_for place (index_of row.known)

  -- all rows show rules of these cells
  abbrev pub AreOf : Cells (Publication R) → List (Row R A) → Type 0
  AreOf cells rows = All (λ row. IsKnownOf cells row.known) rows

  -- the rules that a pass published have numbers below a count
  abbrev pub HasOwnBelow : List (Row R A) → ℕ → ℕ → Type 0
  HasOwnBelow rows pass count =
      All (λ (row : Row R A). (rule_of row.known).pass ≡ pass → (rule_of row.known).number < count) rows

  -- the rules of other passes have indexes below one
  abbrev pub HasOthersBelow : List (Row R A) → ℕ → ℕ → Type 0
  HasOthersBelow rows pass index =
      All (λ (row : Row R A). (rule_of row.known).pass ≢ pass → index_of row.known < index) rows

  -- there is one row more, the last
  pub record AddsRow (old new : List (Row R A)) (known : Known (Publication R)) : Type 0 where
    pub row : Row R A
    pub new_is : new ≡ old ++ row ∷ []
    pub known_is : row.known ≡ known

  -- the rule at a place passes, and none before it in the order does
  pub record IsFirst (Passes : R → Type 0) (rows : List (Row R A)) (order : List ℕ) (place : ℕ) : Type 0 where
    pub before : List ℕ
    pub after : List ℕ
    pub order_is : order ≡ before ++ place ∷ after
    pub fails : All (λ known. ¬ Passes known.rule) (in_order rows before)
    pub found : KnownRule R A
    pub shows : shown_at rows place ≡ Some found
    pub passes : Passes found.rule
