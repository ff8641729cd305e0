-- The functions of a script.
use Rattle.std.specs.Prelude.{ℕ, ◌≤◌, List, [], length, get_or}
use Rattle.std.specs.List.{All}

-- the names of each function's parameters
abbrev pub Functions : Type 0
Functions = List (List (List ℕ))

-- those of the function of this number
abbrev pub parameters_of : Functions → ℕ → List (List ℕ)
parameters_of functions f = get_or functions f []

-- each function has at most 16
abbrev pub HaveFewParameters : Functions → Type 0
HaveFewParameters functions = All (λ parameters. length parameters ≤ 16) functions
