-- What the word of a rule that was used changes.
use Rattle.std.specs.Prelude.{◌≡◌, ◌≢◌, ℕ, ◌+◌, ◌<◌, cond, List, ◌∷◌, take, slice_set}
use Rattle.call_site.specs.declared.choice.Level.{Level}
use Rattle.call_site.specs.Passes.{enters}
use Rattle.call_site.specs.Places.{ring_at, count_at, entries_in, next_place}

-- the ring after a word was settled at a level
abbrev pub ring_after : Level → ℕ → List ℕ → List ℕ
ring_after level word ring = cond (enters level) (word ∷ take 9 ring) ring

-- a site was settled with this word at this level; the other sites stay
pub record Settles (count site word : ℕ) (level : Level) (target target' : ℕ → ℕ) (ring ring' : ℕ → List ℕ)
    : Type 0 where
  pub target_is : target' site ≡ word
  pub ring_is : ring' site ≡ ring_after level word (ring site)
  pub others : (other : ℕ) → other < count → other ≢ site → (target' other ≡ target other) × (ring' other ≡ ring other)

-- a word was entered at a place of the site's ring: while only one pass was made, over the one that was entered first
pub record Entered (made site word : ℕ) (old new : List ℕ) : Type 0 where
  pub place : ℕ
  pub within : place < 10
  pub alone : made ≡ 1 → place ≡ next_place (entries_in old site)
  pub new_is : new ≡
      slice_set (slice_set old (count_at site) (entries_in old site + 1)) (ring_at site place) word
