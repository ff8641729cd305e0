-- Where names are found by their texts.
use Rattle.std.specs.Prelude.{◌≡◌, ℕ, suc, ◌≤◌, true, List, Option, Some, slice_get, encode_utf8_all}
use Rattle.std.specs.Option.{unwrap_or}
use Rattle.std.proofs.Math.Utf8.{scalars}

-- the place that is found for a name, or the one after this
abbrev pub place_for : (List ℕ → Option ℕ) → List ℕ → ℕ → ℕ
place_for find n i = unwrap_or (find (encode_utf8_all n)) (suc i)

-- each name is a text, and is found at a place where it stands, which is no later than this one
abbrev pub FindsEach : (List ℕ → Option ℕ) → List (List ℕ) → Type 0
FindsEach find names = (i : ℕ) (n : List ℕ) → slice_get names i ≡ Some n →
    (scalars n ≡ true) × (place_for find n i ≤ i) × (slice_get names (place_for find n i) ≡ Some n)
