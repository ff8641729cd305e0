-- What a call is handed.
use Rattle.std.specs.Prelude.{ℕ, ◌≤◌, ◌&&◌, ◌++◌, ◌∷◌, Bool, List, length, nat_eq}
use Rattle.std.specs.Cmp.Lexicographic.{pointwise}
use Rattle.std.specs.Fmt.{decimal}
use Rattle.std.specs.List.{IsDistinct, flat_map}
use Rattle.std.specs.Str.{bytes_eq}

-- how many arguments, and the names of the last of them, in their order
pub record Arguments : Type 0 where
  pub count : ℕ
  pub names : List (List ℕ)

-- at most 16 arguments; not more names than arguments, and no two the same
pub record AreArguments (a : Arguments) : Type 0 where
  pub few : a.count ≤ 16
  pub named : length a.names ≤ a.count
  pub distinct : IsDistinct bytes_eq a.names

-- whether they are as many, with the same names
abbrev pub same_arguments : Arguments → Arguments → Bool
same_arguments a b = nat_eq a.count b.count && pointwise bytes_eq a.names b.names

-- a name after a space
abbrev pub name_text : List ℕ → List ℕ
name_text name = 32 ∷ name

-- their count, and each name after a space
abbrev pub arguments_text : Arguments → List ℕ
arguments_text a = decimal a.count ++ flat_map name_text a.names
