-- Lines and columns. A line ends with its line feed; both are counted from 1, columns in characters.
use Rattle.std.specs.Prelude.{◌≡◌, ℕ, ◌+◌, ◌-◌, Bool, not, ◌==◌, List, [], length, take, drop, count_by, if◌then◌else◌}
use Rattle.std.specs.List.{suffix_len, take_while}
use Rattle.std.specs.Str.{chars, is_utf8}
use Rattle.script_places.specs.declared.position.Position.{Position}

abbrev pub is_line_feed : ℕ → Bool
is_line_feed c = c == 10

-- a character that ends no line
abbrev pub is_within_line : ℕ → Bool
is_within_line c = not (is_line_feed c)

-- the number of the line in which a text ends: one more than the line feeds in it
abbrev pub line_number : List ℕ → ℕ
line_number cs = count_by is_line_feed cs + 1

-- what stands in a text after its last line feed
abbrev pub last_line : List ℕ → List ℕ
last_line cs = drop (length cs - suffix_len is_within_line cs) cs

-- the column of the character that comes after a text: one more than the characters after its last line feed
abbrev pub column_number : List ℕ → ℕ
column_number cs = length (last_line cs) + 1

-- what stands in a text before its first line feed
abbrev pub first_line : List ℕ → List ℕ
first_line cs = take_while is_within_line cs

-- the characters of bytes; of bytes that are no text none
abbrev pub readable : List ℕ → List ℕ
readable bytes = if is_utf8 bytes then chars bytes else []

-- the position of this byte in the script
pub record IsPositionOf (bytes : List ℕ) (place : ℕ) (position : Position) : Type 0 where
  pub line : position.line ≡ line_number (chars (take place bytes))
  pub column : position.column ≡ column_number (chars (take place bytes))
  pub before : position.before.items ≡ last_line (chars (take place bytes))
  pub after : position.after.items ≡ first_line (readable (drop place bytes))
