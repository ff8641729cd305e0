-- Where the words of a site stand, and what a list of all words says of it.
-- A site has twelve words: its target, the ten of its ring, and its count of entries.
use Rattle.std.specs.Prelude.{ℕ, zero, suc, ◌+◌, ◌-◌, ◌*◌, ◌%◌, List, [], ◌∷◌, slice_index}

-- where the target stands
abbrev pub target_at : ℕ → ℕ
target_at site = site * 12

-- where a place of the ring stands
abbrev pub ring_at : ℕ → ℕ → ℕ
ring_at site place = site * 12 + 1 + place

-- where the count of entries stands
abbrev pub count_at : ℕ → ℕ
count_at site = site * 12 + 11

-- the target
abbrev pub target_in : List ℕ → ℕ → ℕ
target_in words site = slice_index words (target_at site)

-- how many words were entered
abbrev pub entries_in : List ℕ → ℕ → ℕ
entries_in words site = slice_index words (count_at site)

-- the place of the ring that is drawn next, after so many entries
abbrev pub next_place : ℕ → ℕ
next_place entries = entries % 10

-- the place of the word entered last (age 0), of the one before it, and so on
abbrev pub place_of : ℕ → ℕ → ℕ
place_of entries age = (next_place entries + 9 - age) % 10

-- the word entered last (age 0), the one before it, and so on
abbrev pub entered_in : List ℕ → ℕ → ℕ → ℕ
entered_in words site age = slice_index words (ring_at site (place_of (entries_in words site) age))

-- f at 0, at 1 and so on, so many in all; no abbreviation, as ten words would then stand in each goal
unfoldable pub each_of : (ℕ → ℕ) → ℕ → List ℕ
each_of f zero = []
each_of f (suc count) = f 0 ∷ each_of (λ i. f (suc i)) count

-- the ring from the word entered last on
abbrev pub ring_in : List ℕ → ℕ → List ℕ
ring_in words site = each_of (entered_in words site) 10
