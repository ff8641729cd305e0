-- Lists of names.
use Rattle.std.specs.Prelude.{◌≡◌, ℕ, Bool, true, ◌≤◌, List, All, length, map, nat_eq, encode_utf8_all}
use Rattle.std.specs.List.{IsDistinct}
use Rattle.std.specs.Str.{bytes_eq, chars}
use Rattle.std.specs.Hash as fed
use Rattle.std.specs.Hash.{HashWrites}
use Rattle.std.specs.Cmp.Lexicographic.{pointwise}
use Rattle.std.specs.declared.string.String.{String}
use Rattle.std.specs.declared.alloc.Global.{Global}
use Rattle.std.specs.String.{string_bytes}
use Rattle.std.proofs.Math.Utf8.{scalars}

-- Unicode characters, of at most 64 bytes in all
abbrev pub IsName : List ℕ → Type 0
IsName name = (scalars name ≡ true) × (length (encode_utf8_all name) ≤ 64)

-- the names of one class are at most 64, each a short text, and no two are equal
pub record AreNames (names : List (List ℕ)) : Type 0 where
  pub few : length names ≤ 64
  pub short : All IsName names
  pub distinct : IsDistinct bytes_eq names

-- whether two lists have the same names in the same order
abbrev pub names_eq : List (List ℕ) → List (List ℕ) → Bool
names_eq = pointwise (pointwise nat_eq)

-- what a hasher is fed of a list: how long it is, and each name as UTF-8
abbrev pub fed_names : List (List ℕ) → HashWrites
fed_names names = fed.slice (λ name. fed.str (encode_utf8_all name)) names

-- the characters of each text
abbrev pub chars_of_each : List (String Global) → List (List ℕ)
chars_of_each texts = map (λ text. chars (string_bytes text)) texts
