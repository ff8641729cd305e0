-- What happens to sources and sinks. One that does not tell its bytes tells nothing of them before or after.
use Rattle.std.specs.Prelude.{◌≡◌, ◌≢◌, ℕ, ◌+◌, ◌-◌, ◌^◌, ◌≤◌, min, List, [], ◌++◌, drop, Option, None, Some}

-- the count of faults rose; one at the end of its type counts as risen
abbrev pub Rose : ℕ → ℕ → Type 0
Rose before now = min (before + 1) (2 ^ 64 - 1) ≤ now

-- these bytes were the first to come, and were taken
abbrev pub TakesFirst : Option (List ℕ) → Option (List ℕ) → List ℕ → Type 0
TakesFirst None after piece = after ≡ None
TakesFirst (Some held) after piece = (rest : List ℕ) × ((held ≡ piece ++ rest) × (after ≡ Some rest))

-- no bytes are to come
abbrev pub IsAtEnd : Option (List ℕ) → Type 0
IsAtEnd None = Unit {0}
IsAtEnd (Some held) = held ≡ []

-- all was read, up to the byte after the most that a script may have
abbrev pub IsReadThrough : Option (List ℕ) → Option (List ℕ) → Type 0
IsReadThrough None after = after ≡ None
IsReadThrough (Some held) after = after ≡ Some (drop 1048577 held)

-- this text was added
abbrev pub Adds : Option (List ℕ) → Option (List ℕ) → List ℕ → Type 0
Adds None after text = after ≡ None
Adds (Some had) after text = after ≡ Some (had ++ text)

-- a front of this text was added
abbrev pub AddsFirst : Option (List ℕ) → Option (List ℕ) → List ℕ → Type 0
AddsFirst before after text = (front rest : List ℕ) × ((text ≡ front ++ rest) × Adds before after front)

-- a front of this text was added, and something of the text was not
abbrev pub AddsProperFront : Option (List ℕ) → Option (List ℕ) → List ℕ → Type 0
AddsProperFront before after text =
    (front rest : List ℕ) × ((text ≡ front ++ rest) × ((rest ≢ []) × Adds before after front))
