-- The classes that a pass knows, found by their numbers and by their lists of names.
use Rattle.std.specs.Prelude.{◌≡◌, ℕ, List, Option, Some, option_map}
use Rattle.std.specs.Ordering.{nat_cmp}
use Rattle.std.specs.BTreeMap.{BTreeMap, get}
use Rattle.std.specs.HashMap.{HashMap, get as get_hashed}
use Rattle.std.specs.declared.hash.FoldHasher.{FoldHasher}
use Rattle.std.specs.declared.hash.BuildHasherDefault.{BuildHasherDefault}
use Rattle.expando_class.specs.declared.class.ClassRef.{ClassRef}
use Rattle.expando_class.specs.Shown.{number_shown, names_shown}
use Rattle.expando_class.specs.Listing.{names_eq}

-- the numbers of the known classes, by their lists of names
abbrev pub NumbersByNames : Type 0
NumbersByNames = HashMap (List (List ℕ)) ℕ (BuildHasherDefault FoldHasher)

-- the names of the known class with a number
abbrev pub names_at : BTreeMap ℕ ClassRef → ℕ → Option (List (List ℕ))
names_at by_number number = option_map (λ (class : ClassRef). names_shown class.token) (get nat_cmp by_number number)

-- each known class stands at its number
abbrev pub StandAtNumbers : BTreeMap ℕ ClassRef → Type 0
StandAtNumbers by_number = (number : ℕ) (class : ClassRef) →
    get nat_cmp by_number number ≡ Some class → number_shown class.token ≡ number

-- the list of each known class gives its number
abbrev pub GivesNumbers : BTreeMap ℕ ClassRef → NumbersByNames → Type 0
GivesNumbers by_number by_names = (number : ℕ) (names : List (List ℕ)) →
    names_at by_number number ≡ Some names → get_hashed names_eq by_names names ≡ Some number

-- the number that a list gives is the one of a known class with this list
abbrev pub GivesKnown : BTreeMap ℕ ClassRef → NumbersByNames → Type 0
GivesKnown by_number by_names = (number : ℕ) (names : List (List ℕ)) →
    get_hashed names_eq by_names names ≡ Some number → names_at by_number number ≡ Some names
