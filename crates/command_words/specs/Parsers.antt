-- What `clap` is told of the commands' further words.
use Rattle.std.specs.Borrow.{Bor}
use Rattle.std.specs.List.{list_any}
use Rattle.std.specs.Str.{bytes_eq}
use Rattle.std.proofs.Math.Utf8.{scalars}
use Rattle.std.specs.Prelude.{◌≡◌, Bool, true, List, ℕ, Some, codes}
use Rattle.clap.specs.Walk.{Rule, Text}
use Rattle.clap.specs.Simple.{App, new_app, new_rule, on_top, with_rule}
use Rattle.clap.specs.Matches.{first_value, found_of, one_text}
use Rattle.clap.specs.Values.{bool_text}
use Rattle.clap.specs.declared.builder.action.ArgAction.TheVariants.{SetTrue}
use Rattle.clap.specs.declared.parser.matches.ArgMatches.{ArgMatches}
use Rattle.command_words.specs.Commands.{Given}

-- `--` alone, after which `clap` would read no option
abbrev pub is_end_mark : Text → Bool
is_end_mark word = bytes_eq word (codes "--")

-- some word is `--`
abbrev pub has_end_mark : List (Bor Text) → Bool
has_end_mark words = list_any (λ word. is_end_mark word.now) words

-- each is a Unicode character
abbrev pub are_characters : List ℕ → Bool
are_characters text = scalars text

-- an option without a value
abbrev pub flag_rule : Text → Rule
flag_rule name = record (new_rule name) { long = Some name; action = Some SetTrue }

-- an option with a value
abbrev pub value_rule : Text → Rule
value_rule name = record (new_rule name) { long = Some name }

-- a command with no option at all, read from the first word on
abbrev pub bare_app : Text → App
bare_app name = on_top
    (λ s. record s { no_binary_name = true; disable_help_flag = true; disable_version_flag = true }) (new_app name)

-- the options of `run`
abbrev pub run_app : App
run_app = with_rule (with_rule (with_rule (with_rule (bare_app (codes "run")) (flag_rule (codes "serial")))
    (flag_rule (codes "journal"))) (value_rule (codes "turns"))) (value_rule (codes "objects"))

-- the parse found these options
abbrev pub HasGiven : Given → ArgMatches → Type 0
HasGiven g m = (one_text (found_of m) (codes "serial") ≡ Some (bool_text g.serial))
    × (one_text (found_of m) (codes "journal") ≡ Some (bool_text g.journal))
    × (first_value (found_of m) (codes "turns") ≡ g.turns)
    × (first_value (found_of m) (codes "objects") ≡ g.objects)
