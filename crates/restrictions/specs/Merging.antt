-- Why two lists of restrictions were not merged.
use Rattle.std.specs.Prelude.{◌≡◌, ◌<◌, ◌≤◌, List, length}
use Rattle.restrictions.specs.declared.restriction.Restriction.{Restriction}
use Rattle.restrictions.specs.declared.merge.MergeRefused.{MergeRefused}
use Rattle.restrictions.specs.declared.merge.MergeRefused.TheVariants.{TooMany, Memory}
use Rattle.restrictions.specs.Sets.{merged}

-- both lists come back: there would be more than 16 restrictions, or there would not and memory was refused
abbrev pub IsRefusal : List Restriction → List Restriction → MergeRefused → Type 0
IsRefusal first second (TooMany x y) = (x ≡ first) × (y ≡ second) × (16 < length (merged first second))
IsRefusal first second (Memory x y) = (x ≡ first) × (y ≡ second) × (length (merged first second) ≤ 16)
