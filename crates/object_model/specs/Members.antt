-- The members of an object.
use Rattle.std.specs.Prelude.{ℕ, ◌≤◌, if◌then◌else◌, List, [], ◌∷◌, length, map, Option, None, Some}
use Rattle.std.specs.List.{AllByRecursion, IsDistinct}
use Rattle.std.specs.Str.{bytes_eq}
use Rattle.dyn_value.specs.declared.value.Value.{Value}
use Rattle.dyn_value.specs.Proper.{IsProperIn}

-- a name and its value
pub record Member : Type 0 where
  pub name : List ℕ
  pub value : Value

-- members in the order in which they were added
abbrev pub Members : Type 0
Members = List Member

abbrev pub member_name : Member → List ℕ
member_name m = m.name

-- the value of the member of this name
abbrev pub value_of : List ℕ → Members → Option Value
value_of name [] = None
value_of name (m ∷ ms) = if bytes_eq m.name name then Some m.value else value_of name ms

-- the members with this value in the place of the member of this name
abbrev pub replaced : List ℕ → Value → Members → Members
replaced name v [] = []
replaced name v (m ∷ ms) = if bytes_eq m.name name then record { name = m.name; value = v } ∷ ms else m ∷ replaced name v ms

-- the members without the one of this name
abbrev pub removed : List ℕ → Members → Members
removed name [] = []
removed name (m ∷ ms) = if bytes_eq m.name name then ms else m ∷ removed name ms

-- names are distinct, and there are at most 64
pub record AreMembers (ms : Members) : Type 0 where
  pub distinct : IsDistinct bytes_eq (map member_name ms)
  pub few : length ms ≤ 64

-- their values are proper in a run of so many functions and objects
abbrev pub AreProperIn : ℕ → ℕ → Members → Type 0
AreProperIn functions objects ms = AllByRecursion (λ m. IsProperIn functions objects m.value) ms
