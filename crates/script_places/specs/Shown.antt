-- What is shown of a position: its line and column, the line's text, and a mark under the place.
use Rattle.std.specs.Prelude.{ℕ, ◌-◌, Bool, ◌==◌, ◌||◌, ◌&&◌, not, nat_lt, nat_le, List, ◌++◌, length, take, drop, map, codes, encode_utf8_all, if◌then◌else◌}
use Rattle.std.specs.Fmt.{decimal}
use Rattle.script_places.specs.declared.position.Position.{Position}

-- a control character that is no tab
abbrev pub is_unseen : ℕ → Bool
is_unseen c = (nat_lt c 32 && not (c == 9)) || (nat_le 127 c && nat_le c 159)

-- a control character is shown as a blank, but a tab as itself
abbrev pub seen : ℕ → ℕ
seen c = if is_unseen c then 32 else c

-- what stands in the line of the mark under a character: under a tab a tab, so that the mark stands under the place
abbrev pub under : ℕ → ℕ
under c = if c == 9 then 9 else 32

-- the last 60 characters, and three dots in place of those before them
abbrev pub cut_before : List ℕ → List ℕ
cut_before cs = if nat_le (length cs) 60 then cs else codes "..." ++ drop (length cs - 60) cs

-- the first 60 characters, and three dots in place of those after them
abbrev pub cut_after : List ℕ → List ℕ
cut_after cs = if nat_le (length cs) 60 then cs else take 60 cs ++ codes "..."

-- the first line, and what stands before the line's text
abbrev pub heading_of : ℕ → ℕ → List ℕ
heading_of line column = codes "line " ++ decimal line ++ codes ", column " ++ decimal column ++ codes "\n  "

-- a line and a column, the text of a line in two parts, and a mark after these blanks
abbrev pub lines_of : ℕ → ℕ → List ℕ → List ℕ → List ℕ → List ℕ
lines_of line column before after blanks = heading_of line column ++ before ++ after ++ codes "\n  " ++ blanks ++ codes "^\n"

abbrev pub shown_text : Position → List ℕ
shown_text p =
    lines_of p.line p.column (encode_utf8_all (map seen (cut_before p.before.items)))
    (encode_utf8_all (map seen (cut_after p.after.items))) (encode_utf8_all (map under (cut_before p.before.items)))
