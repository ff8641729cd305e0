-- Names that are declared, and rows of judged tokens.
use Rattle.std.specs.Prelude.{ℕ, Bool, true, false, ◌||◌, List, [], ◌∷◌, ◌++◌, Option, None, Some}
use Rattle.std.specs.List.{list_any}
use Rattle.std.specs.Str.{bytes_eq}
use Rattle.script_names.specs.declared.item_names.ItemNames.{ItemNames}

abbrev pub Names : Type 0
Names = List (List ℕ)

-- for each token whether it is a name that breaks a rule
abbrev pub Flags : Type 0
Flags = List Bool

abbrev pub is_in : Names → List ℕ → Bool
is_in names n = list_any (bytes_eq n) names

-- whether a name in an expression names a local in scope, a function or a shared object
abbrev pub is_value : ItemNames → Names → List ℕ → Bool
is_value items scope n = is_in scope n || is_in items.values n

-- whether a local's name is an item's or a local's in scope
abbrev pub is_taken : ItemNames → Names → List ℕ → Bool
is_taken items scope n = is_in items.all n || is_in scope n

-- the further parts of a row, each after a comma, and the parenthesis that closes it
abbrev pub more_row : List Flags → Flags
more_row [] = false ∷ []
more_row (a ∷ rest) = false ∷ a ++ more_row rest

-- the parts of a row, with commas between them, and the parenthesis that closes it
abbrev pub row : List Flags → Flags
row [] = false ∷ []
row (a ∷ rest) = a ++ more_row rest

-- a row that goes on after another part, or begins
abbrev pub row_after : Bool → List Flags → Flags
row_after true parts = more_row parts
row_after false parts = row parts

-- the comma between two parts, if there is one
abbrev pub comma_flags : Bool → Flags
comma_flags true = false ∷ []
comma_flags false = []

-- the names so far, with one more, if there is one
abbrev pub with_name : Names → Option (List ℕ) → Names
with_name earlier None = earlier
with_name earlier (Some n) = earlier ++ n ∷ []
