-- The words of the command, in UTF-8.
use Rattle.std.specs.Prelude.{ℕ, ◌≤◌, ◌==◌, nat_lt, Bool, true, false, not, ◌&&◌, ◌||◌, if◌then◌else◌}
use Rattle.std.specs.Prelude.{List, [], ◌∷◌, length, map, codes, encode_utf8_all}
use Rattle.std.specs.Prelude.{Option, None, Some, is_none, option_map, option_and_then}
use Rattle.std.specs.Char.{is_ascii_digit}
use Rattle.std.specs.List.{after_first, before_first, list_all, position_or_len}
use Rattle.std.specs.Str.{bytes_eq}
use Rattle.std.specs.Str.Parse.{digits_value}
use Rattle.command_words.specs.declared.words.Command.{Command}
use Rattle.command_words.specs.declared.words.Command.TheVariants.{Run, Check}
use Rattle.command_words.specs.declared.words.Options.{Options}

-- the number that one to ten decimal digits write
abbrev pub number_of : List ℕ → Option ℕ
number_of text =
    if nat_lt 0 (length text) && nat_lt (length text) 11 && list_all is_ascii_digit text
    then Some (digits_value 10 text) else None

-- the number, where it lies from `low` to `high`
abbrev pub within : ℕ → ℕ → ℕ → Option ℕ
within low high n = if nat_lt n low || nat_lt high n then None else Some n

-- the number from `low` to `high` that the text writes, and `default` where there is no text
abbrev pub number_within : ℕ → ℕ → ℕ → Option (List ℕ) → Option ℕ
number_within low high default None = Some default
number_within low high default (Some text) = option_and_then (within low high) (number_of text)

-- the options given, each at most once, with the texts of their values
pub record Given : Type 0 where
  pub serial : Bool
  pub journal : Bool
  pub turns : Option (List ℕ)
  pub objects : Option (List ℕ)

-- an option with a value, given once
abbrev pub with_value : List ℕ → List ℕ → Given → Option Given
with_value name value g =
    if bytes_eq name (codes "--turns") && is_none g.turns then Some (record g { turns = Some value }) else
    if bytes_eq name (codes "--objects") && is_none g.objects then Some (record g { objects = Some value }) else None

-- the character is `=`
abbrev pub is_equals : ℕ → Bool
is_equals c = c == 61

-- an option whose value stands after `=`
abbrev pub with_equals : List ℕ → Given → Option Given
with_equals word g = if nat_lt (position_or_len is_equals word) (length word)
    then with_value (before_first is_equals word) (after_first is_equals word) g else None

-- the option that this word is by itself
abbrev pub with_word : List ℕ → Given → Option Given
with_word word g =
    if bytes_eq word (codes "--serial") && not g.serial then Some (record g { serial = true }) else
    if bytes_eq word (codes "--journal") && not g.journal then Some (record g { journal = true }) else
    with_equals word g

-- the name of an option whose value stands in the next word
abbrev pub takes_next_word : List ℕ → Bool
takes_next_word word = bytes_eq word (codes "--turns") || bytes_eq word (codes "--objects")

-- the options after these words, from left to right
abbrev pub options_after : List (List ℕ) → Given → Option Given
options_after [] g = Some g
options_after (word ∷ []) g = with_word word g
options_after (word ∷ value ∷ words) g =
    if takes_next_word word then option_and_then (options_after words) (with_value word value g)
    else option_and_then (options_after (value ∷ words)) (with_word word g)

-- before any option
abbrev pub none_given : Given
none_given = record { serial = false; journal = false; turns = None; objects = None }

-- the options of a run, with these numbers of turns and objects
abbrev pub options_with : Given → ℕ → ℕ → Options
options_with g turns objects = record { serial = g.serial; journal = g.journal; turns = turns; objects = objects }

-- From 1 to 1,000,000 turns, and 100,000 where no number is given; at most 4,032 objects, and so many where none is.
abbrev pub options_by : Given → Option Options
options_by g = option_and_then (λ turns. option_map (options_with g turns) (number_within 0 4032 4032 g.objects))
    (number_within 1 1000000 100000 g.turns)

-- the options of a run with these words after `run`
abbrev pub options_given : List (List ℕ) → Option Options
options_given words = option_and_then options_by (options_after (map encode_utf8_all words) none_given)

-- the word has this text
abbrev pub is_word : List ℕ → List ℕ → Bool
is_word word text = bytes_eq (encode_utf8_all word) text

-- `check`, where no word is left
abbrev pub only_word : List (List ℕ) → Option Command
only_word [] = Some Check
only_word _ = None

-- The command that the words ask for: `run` with options in any order, each at most once, or `check` alone.
-- None is where they are no command.
abbrev pub command_of : List (List ℕ) → Option Command
command_of [] = None
command_of (word ∷ words) =
    if is_word word (codes "run") then option_map Run (options_given words) else
    if is_word word (codes "check") then only_word words else None

-- at most 4,032 objects
abbrev pub AreWithinLimits : Options → Type 0
AreWithinLimits o = o.objects ≤ 4032

-- a run makes at most 4,032 objects
abbrev pub IsWithinLimits : Command → Type 0
IsWithinLimits (Run o) = AreWithinLimits o
IsWithinLimits Check = Unit {0}
