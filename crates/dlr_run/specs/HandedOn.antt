-- How a word of the process reaches the command.
use Rattle.std.specs.Prelude.{ℕ, List, [], length, nat_le, if◌then◌else◌}
use Rattle.std.specs.Str.{chars}

-- its characters; a word that is too long for a text is handed on as the empty one
abbrev pub handed_on : List ℕ → List ℕ
handed_on bytes = if nat_le (length bytes) 65536 then chars bytes else []
