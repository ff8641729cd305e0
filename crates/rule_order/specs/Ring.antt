-- How a ring of places, closed at the end 128, holds a list of indexes in two directions.
use Rattle.std.specs.Prelude.{◌≡◌, ℕ, zero, suc, List, [], ◌∷◌, cond, nat_lt, slice_index, length}
use Rattle.rule_order.specs.Order.{IsOrder}

-- the indexes from a place on up to the end, at most so many of them
unfoldable pub walk : ℕ → List ℕ → ℕ → List ℕ
walk zero next place = []
walk (suc room) next place = cond (nat_lt place 128) (place ∷ walk room next (slice_index next place)) []

-- the list that the forward links give
abbrev pub indexes_along : List ℕ → List ℕ
indexes_along next = walk 128 next (slice_index next 128)

-- both directions lead over the same indexes from one place to another
abbrev pub Leads : List ℕ → List ℕ → ℕ → List ℕ → ℕ → Type 0
Leads next previous from [] to = (slice_index next from ≡ to) × (slice_index previous to ≡ from)
Leads next previous from (x ∷ xs) to = (slice_index next from ≡ x) × (slice_index previous x ≡ from) × Leads next previous x xs to

-- the ring holds one list, in both directions
pub record IsRing (next previous : List ℕ) : Type 0 where
  pub places : (length next ≡ 129) × (length previous ≡ 129)
  pub linked : Leads next previous 128 (indexes_along next) 128
  pub order : IsOrder (indexes_along next)
