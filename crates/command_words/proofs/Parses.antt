-- What a parse of `run`'s and of `check`'s further words comes to.
use Rattle.std.proofs.Common.{◌≡◌, ◌≢◌, ◌∙◌, ◌++◌, ◌||◌, ◌&&◌, ◌⊎◌, inl, inr, Bool, true, false, cond, not, refl, ap, ap₂, List, [], ◌∷◌, map, Option, Some, None, codes}
use Rattle.std.specs.Prelude.{encode_utf8_all, option_and_then}
use Rattle.std.specs.List.{list_all, list_any}
use Rattle.std.specs.Str.{bytes_eq}
use Rattle.std.proofs.lemmas.Str.{chars-encodes}
use Rattle.clap.specs.Kinds.{Kinds, or_else}
use Rattle.clap.specs.Lexer.{long_of, name_and_value}
use Rattle.clap.specs.Faults.{default_fault, defaults_fault, given_default_fault, fault_of, settle_fault, turn_fault, walk_fault}
use Rattle.clap.specs.Simple.{HasMatchesOf, Shape, built, matches_of}
use Rattle.clap.specs.Walk.{Held, Row, Text, finished, first_of, has_row, nothing_held, one_of, row_text, settled, with_default, more_values}
use Rattle.clap.specs.Matches.{found_of}
use Rattle.clap.specs.Values.{bool_text}
use Rattle.clap.specs.declared.parser.matches.ArgMatches.{ArgMatches}
use Rattle.clap.specs.declared.parser.matches.ValueSource.TheVariants.{DefaultValue}
use Rattle.clap.specs.declared.builder.value_parser.Reading.TheVariants.{AsWritten}
use Rattle.clap.proofs.FaultLemmas.{leaf_fault}
use Rattle.clap.proofs.WalkLemmas.{first_value-rows, one_text-rows}
use Rattle.command_words.specs.Commands.{Given, none_given, options_after, options_by}
use Rattle.command_words.specs.Parsers.{HasGiven, are_characters, bare_app, is_end_mark, run_app}
use Rattle.command_words.proofs.Rows.{added_row, has_row_at, row_at, row_at_end, row_at_other}
use Rattle.command_words.proofs.RunRules.{flag, top, valued}
use Rattle.command_words.proofs.Turns.{fails, fails_first, idle_at, idle_short_fails, or_else_none, stray_fails, unknown_fails}
use Rattle.command_words.proofs.Forms.{shape}
use Rattle.command_words.proofs.Totals.{AreWords, Holds, IsWord, end, flag_row, flag_rows, short_view, total, value_rows}
use Rattle.command_words.proofs.Reading.{reads}

-- ---- what is there by default

abbrev default_row : Text → Row
default_row id = record { id = id; values = codes "false" ∷ []; count = None; source = Some DefaultValue; reading = AsWritten }

abbrev last_row : Text → Bool → Row
last_row id true = flag_row id
last_row id false = default_row id

added_default : (id : Text) (rows : List Row) → row_at id rows ≡ None → with_default rows (flag id) ≡ rows ++ default_row id ∷ []
added_default id rows none = rw (has_row_at id rows, none) (added_row id (more_values DefaultValue (codes "false" ∷ [])) (default_row id ∷ []) rows none)

kept_default : (id : Text) (rows : List Row) (r : Row) → row_at id rows ≡ Some r → with_default rows (flag id) ≡ rows
kept_default id rows r some = rw (has_row_at id rows, some) refl

own_default : (id : Text) (rows : List Row) (b : Bool) → bytes_eq id id ≡ true → row_at id rows ≡ flag_rows id b → row_at id (with_default rows (flag id)) ≡ Some (last_row id b)
own_default id rows true same is = ap (row_at id) (kept_default id rows (flag_row id) is) ∙ is
own_default id rows false same is = ap (row_at id) (added_default id rows is) ∙ row_at_end id (default_row id) rows same is

other_default : (id other : Text) (rows : List Row) → bytes_eq id other ≡ false → row_at other (with_default rows (flag id)) ≡ row_at other rows
other_default id other rows not = by (row_at id rows) refl
  where
    by : (o : Option Row) → row_at id rows ≡ o → row_at other (with_default rows (flag id)) ≡ row_at other rows
    by (Some r) e = ap (row_at other) (kept_default id rows r e)
    by None e = ap (row_at other) (added_default id rows e) ∙ row_at_other other (default_row id) rows not

no_default : (id : Text) (rows : List Row) → with_default rows (valued id) ≡ rows
no_default id rows = by (has_row id rows)
  where
    by : (b : Bool) → cond b rows rows ≡ rows
    by true = refl
    by false = refl

-- the rows in the end, as the options given
record Ends (rows : List Row) (g : Given) : Type 0 where
  pub serial : row_at (codes "serial") rows ≡ Some (last_row (codes "serial") g.serial)
  pub journal : row_at (codes "journal") rows ≡ Some (last_row (codes "journal") g.journal)
  pub turns : row_at (codes "turns") rows ≡ value_rows (codes "turns") g.turns
  pub objects : row_at (codes "objects") rows ≡ value_rows (codes "objects") g.objects

flags_end : (rows : List Row) (g : Given) → Holds rows g → Ends (with_default (with_default rows (flag (codes "serial"))) (flag (codes "journal"))) g
flags_end rows g h =
    let one = with_default rows (flag (codes "serial")) in
    record {
      serial = other_default (codes "journal") (codes "serial") one refl ∙ own_default (codes "serial") rows g.serial refl h.serial;
      journal = own_default (codes "journal") one g.journal refl (other_default (codes "serial") (codes "journal") rows refl ∙ h.journal);
      turns = other_default (codes "journal") (codes "turns") one refl ∙ other_default (codes "serial") (codes "turns") rows refl ∙ h.turns;
      objects = other_default (codes "journal") (codes "objects") one refl ∙ other_default (codes "serial") (codes "objects") rows refl ∙ h.objects;
    }

finished_rows : (h : Held) → finished top.rules h ≡ with_default (with_default (settled top.rules h).rows (flag (codes "serial"))) (flag (codes "journal"))
finished_rows h =
    let two = with_default (with_default (settled top.rules h).rows (flag (codes "serial"))) (flag (codes "journal")) in
    ap (λ r. with_default r (valued (codes "objects"))) (no_default (codes "turns") two) ∙ no_default (codes "objects") two

-- ---- what is read of the rows

flag_text : (id : Text) (b : Bool) → row_text (last_row id b) ≡ Some (bool_text b)
flag_text id true = refl
flag_text id false = refl

value_text : (id : Text) (o : Option Text) (rows : List Row) → row_at id rows ≡ value_rows id o → first_of id rows ≡ o
value_text id None rows e = rw e refl
value_text id (Some v) rows e = rw e refl

flag_read : (id : Text) (b : Bool) (rows : List Row) → row_at id rows ≡ Some (last_row id b) → one_of id rows ≡ Some (bool_text b)
flag_read id b rows e = ap (option_and_then row_text) e ∙ flag_text id b

given_of : (m : ArgMatches) (words : List Text) (rows : List Row) (g : Given) → HasMatchesOf run_app words m → matches_of run_app words ≡ rows → Ends rows g → HasGiven g m
given_of m words rows g matches are ends =
    let f = found_of m in
    let same = (matches refl).0 ∙ are in (
      one_text-rows f (codes "serial") ∙ ap (one_of (codes "serial")) same ∙ flag_read (codes "serial") g.serial rows ends.serial,
      one_text-rows f (codes "journal") ∙ ap (one_of (codes "journal")) same ∙ flag_read (codes "journal") g.journal rows ends.journal,
      first_value-rows f (codes "turns") ∙ ap (first_of (codes "turns")) same ∙ value_text (codes "turns") g.turns rows ends.turns,
      first_value-rows f (codes "objects") ∙ ap (first_of (codes "objects")) same ∙ value_text (codes "objects") g.objects rows ends.objects,
    )

-- ---- the faults of `run`

both_none : (a b : Kinds) → a ≡ [] → b ≡ [] → or_else a b ≡ []
both_none a b e f = ap₂ or_else e f

flag_passes : (id : Text) (rows : List Row) → default_fault rows (flag id) ≡ []
flag_passes id rows = by (has_row id rows)
  where
    by : (b : Bool) → cond (b || false) [] (given_default_fault (flag id) (codes "false" ∷ [])) ≡ []
    by true = refl
    by false = refl

value_passes : (id : Text) (rows : List Row) → default_fault rows (valued id) ≡ []
value_passes id rows = by (has_row id rows)
  where
    by : (b : Bool) → cond (b || true) [] (given_default_fault (valued id) []) ≡ []
    by true = refl
    by false = refl

no_default_fault : (rows : List Row) → defaults_fault rows top.rules ≡ []
unfolding defaults_fault
no_default_fault rows =
    let one = with_default rows (flag (codes "serial")) in
    let two = with_default one (flag (codes "journal")) in
    let three = with_default two (valued (codes "turns")) in
    both_none (default_fault rows (flag (codes "serial"))) _ (flag_passes (codes "serial") rows)
    (both_none (default_fault one (flag (codes "journal"))) _ (flag_passes (codes "journal") one)
    (both_none (default_fault two (valued (codes "turns"))) _ (value_passes (codes "turns") two)
    (both_none (default_fault three (valued (codes "objects"))) [] (value_passes (codes "objects") three) refl)))

run_fault : (words : List Text) → fault_of run_app words ≡ total (idle_at nothing_held) words
run_fault words =
    let h = (end (idle_at nothing_held) words).held in
    leaf_fault (built run_app) nothing_held words refl
    ∙ ap (λ k. or_else (walk_fault top [] (idle_at nothing_held) words) (or_else (settle_fault top.rules false h) (or_else k []))) (no_default_fault (settled top.rules h).rows)
    ∙ ap (λ k. or_else (walk_fault top [] (idle_at nothing_held) words) k) (or_else_none (settle_fault top.rules false h))

some_fault : (k : Kinds) → fails k ≡ true → k ≢ []
some_fault [] e is = cc
some_fault (x ∷ xs) e is = cc

nothing_holds : Holds [] none_given
nothing_holds = record { serial = refl; journal = refl; turns = refl; objects = refl }

-- the words of `run` are read as the options that they give, or refused
pub run_reads : (words : List Text) → AreWords words
    → ((fault_of run_app words ≡ []) × ((g : Given) × (options_after words none_given ≡ Some g) × ((m : ArgMatches) → HasMatchesOf run_app words m → HasGiven g m)))
    ⊎ ((fault_of run_app words ≢ []) × (option_and_then options_by (options_after words none_given) ≡ None))
run_reads words ok = elim (reads words ok nothing_held none_given refl refl nothing_holds) [
  | inl r ↦ inl (run_fault words ∙ r.0, (r.1.0, r.1.1, (λ m matches. given_of m words _ r.1.0 matches (finished_rows (end (idle_at nothing_held) words).held) (flags_end _ r.1.0 r.1.2))))
  | inr r ↦ inr (some_fault (fault_of run_app words) (ap fails (run_fault words) ∙ r.0), r.1)
]

-- ---- the words as UTF-8

split_or : (a b : Bool) → (a || b) ≡ false → (a ≡ false) × (b ≡ false)
split_or true b e = cc
split_or false b e = (refl, e)

split_and : (a b : Bool) → (a && b) ≡ true → (a ≡ true) × (b ≡ true)
split_and true b e = (refl, e)
split_and false b e = cc

pub are_words : (words : List Text) → list_all are_characters words ≡ true → list_any is_end_mark (map encode_utf8_all words) ≡ false → AreWords (map encode_utf8_all words)
are_words [] proper marks = tt
are_words (word ∷ words) proper marks =
    let p = split_and (are_characters word) (list_all are_characters words) proper in
    let q = split_or (is_end_mark (encode_utf8_all word)) (list_any is_end_mark (map encode_utf8_all words)) marks in
    ((q.0, ap encode_utf8_all (chars-encodes word p.0)), are_words words p.1 q.1)

-- ---- `check`

abbrev alone : Shape
alone = (built (bare_app (codes "check"))).top

alone_fails : (word : Text) → IsWord word → fails (turn_fault alone [] (idle_at nothing_held) word) ≡ true
alone_fails word ok = elim (shape word ok.0) [
  | inl l ↦ unknown_fails alone nothing_held word ok.0 (name_and_value (l.0 ∷ l.1)).0 (name_and_value (l.0 ∷ l.1)).1 (ap long_of l.2) refl
  | inr long ↦ elim (short_view word ok.1) [
    | inl s ↦ idle_short_fails alone nothing_held word ok.0 s.byte s.bytes s.first long s.flags s.character refl refl
    | inr short ↦ stray_fails alone nothing_held word ok.0 long short refl refl
  ]
]

alone_walk : (word : Text) (words : List Text) → IsWord word → fails (walk_fault alone [] (idle_at nothing_held) (word ∷ words)) ≡ true
unfolding walk_fault
alone_walk word words ok = fails_first (turn_fault alone [] (idle_at nothing_held) word) _ (alone_fails word ok)

-- `check` takes no word
pub check_reads : (words : List Text) → AreWords words → fault_of (bare_app (codes "check")) words ≡ [] → words ≡ []
check_reads [] ok none = refl
check_reads (word ∷ words) ok none =
    let bad : fails (fault_of (bare_app (codes "check")) (word ∷ words)) ≡ true =
    ap fails (leaf_fault (built (bare_app (codes "check"))) nothing_held (word ∷ words) refl) ∙ fails_first (walk_fault alone [] (idle_at nothing_held) (word ∷ words)) _ (alone_walk word words ok.0) in
    absurd (some_fault (fault_of (bare_app (codes "check")) (word ∷ words)) bad none)

pub check_none : fault_of (bare_app (codes "check")) [] ≡ []
unfolding walk_fault defaults_fault
check_none = refl
