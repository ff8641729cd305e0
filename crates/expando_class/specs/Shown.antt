-- What a token of the table's vector shows. The root class has none.
use Rattle.std.specs.Prelude.{ℕ, ◌+◌, List, [], Option, Some, None, ⊤}
use Rattle.boxcar.specs.Table.{Shelves, Where, Shows}

-- the number of the class
abbrev pub number_shown : Option (Where (List (List ℕ))) → ℕ
number_shown None = 0
number_shown (Some token) = token.index + 1

-- the names of the class
abbrev pub names_shown : Option (Where (List (List ℕ))) → List (List ℕ)
names_shown None = []
names_shown (Some token) = token.value

-- the token is of this vector
abbrev pub IsShownBy : Shelves → Option (Where (List (List ℕ))) → Type 0
IsShownBy classes None = ⊤
IsShownBy classes (Some token) = Shows classes token
