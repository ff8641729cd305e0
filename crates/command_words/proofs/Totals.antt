-- How a whole parse of the words of `run` ends, word by word.
use Rattle.std.proofs.Common.{◌≡◌, ◌∙◌, ◌++◌, ◌⊎◌, inl, inr, ℕ, Bool, true, false, cond, refl, sym, ap, subst, List, [], ◌∷◌, Option, Some, None, codes}
use Rattle.std.specs.Prelude.{encode_utf8_all, fold, option_and_then, option_map, slice_get}
use Rattle.std.specs.Str.{bytes_eq, chars}
use Rattle.std.specs.Prelude.{◌==◌}
use Rattle.std.specs.Char.{encode_utf8}
use Rattle.std.proofs.lemmas.Bool.Decides.{Decides-eqb}
use Rattle.clap.specs.Lexer.{long_of, name_and_value, short_of, short_of_rest}
use Rattle.clap.specs.Kinds.{Kinds, or_else}
use Rattle.clap.specs.Faults.{repeat_fault, settle_fault, turn_fault, use_fault, walk_fault}
use Rattle.clap.specs.Walk.{Held, Row, Text, Walk, more_values, settled, used, walked}
use Rattle.clap.specs.declared.parser.matches.ValueSource.TheVariants.{CommandLine}
use Rattle.clap.specs.declared.builder.value_parser.Reading.TheVariants.{AsWritten}
use Rattle.command_words.specs.Commands.{Given, options_by}
use Rattle.command_words.proofs.Rows.{added_row, has_row_at, none_without, row_at, row_at_end, row_at_other}
use Rattle.command_words.proofs.RunRules.{flag, none_placed, none_short, top, valued}
use Rattle.command_words.proofs.Turns.{fails, fails_first, idle_at, idle_doomed, idle_short_fails, or_else_assoc, or_else_none, stray_fails}
use Rattle.command_words.proofs.Forms.{shape}

-- ---- rows

abbrev pub flag_row : Text → Row
flag_row id = record { id = id; values = codes "true" ∷ []; count = None; source = Some CommandLine; reading = AsWritten }

abbrev pub value_row : Text → Text → Row
value_row id v = record { id = id; values = v ∷ []; count = None; source = Some CommandLine; reading = AsWritten }

pub used_flag : (id : Text) (rows : List Row) → row_at id rows ≡ None → used (flag id) [] rows ≡ rows ++ flag_row id ∷ []
used_flag id rows none = rw (none_without id rows none) (added_row id (more_values CommandLine (codes "true" ∷ [])) (flag_row id ∷ []) rows none)

pub used_value : (id v : Text) (rows : List Row) → row_at id rows ≡ None → used (valued id) (v ∷ []) rows ≡ rows ++ value_row id v ∷ []
used_value id v rows none = rw (none_without id rows none) (added_row id (more_values CommandLine (v ∷ [])) (value_row id v ∷ []) rows none)

pub flag_use : (id : Text) (rows : List Row) → use_fault false (flag id) [] rows ≡ repeat_fault false id rows
flag_use id rows = or_else_none (repeat_fault false id rows)

pub value_use : (id v : Text) (rows : List Row) → use_fault false (valued id) (v ∷ []) rows ≡ repeat_fault false id rows
value_use id v rows = or_else_none (repeat_fault false id rows)

pub first_use : (id : Text) (rows : List Row) → row_at id rows ≡ None → repeat_fault false id rows ≡ []
first_use id rows none = rw (has_row_at id rows, none) refl

pub second_use : (id : Text) (rows : List Row) (r : Row) → row_at id rows ≡ Some r → fails (repeat_fault false id rows) ≡ true
second_use id rows r some = rw (has_row_at id rows, some) refl

-- ---- what is held, as the options given

abbrev pub flag_rows : Text → Bool → Option Row
flag_rows id true = Some (flag_row id)
flag_rows id false = None

abbrev pub value_rows : Text → Option Text → Option Row
value_rows id = option_map (value_row id)

pub record Holds (rows : List Row) (g : Given) : Type 0 where
  pub serial : row_at (codes "serial") rows ≡ flag_rows (codes "serial") g.serial
  pub journal : row_at (codes "journal") rows ≡ flag_rows (codes "journal") g.journal
  pub turns : row_at (codes "turns") rows ≡ value_rows (codes "turns") g.turns
  pub objects : row_at (codes "objects") rows ≡ value_rows (codes "objects") g.objects

pub serial_used : (rows : List Row) (g : Given) → Holds rows g → g.serial ≡ false → Holds (used (flag (codes "serial")) [] rows) (record g { serial = true })
serial_used rows g h new =
    let id = codes "serial" in
    let none : row_at id rows ≡ None = h.serial ∙ ap (flag_rows id) new in
    rw (used_flag id rows none) (record {
      serial = row_at_end id (flag_row id) rows refl none;
      journal = row_at_other (codes "journal") (flag_row id) rows refl ∙ h.journal;
      turns = row_at_other (codes "turns") (flag_row id) rows refl ∙ h.turns;
      objects = row_at_other (codes "objects") (flag_row id) rows refl ∙ h.objects;
    })

pub journal_used : (rows : List Row) (g : Given) → Holds rows g → g.journal ≡ false → Holds (used (flag (codes "journal")) [] rows) (record g { journal = true })
journal_used rows g h new =
    let id = codes "journal" in
    let none : row_at id rows ≡ None = h.journal ∙ ap (flag_rows id) new in
    rw (used_flag id rows none) (record {
      serial = row_at_other (codes "serial") (flag_row id) rows refl ∙ h.serial;
      journal = row_at_end id (flag_row id) rows refl none;
      turns = row_at_other (codes "turns") (flag_row id) rows refl ∙ h.turns;
      objects = row_at_other (codes "objects") (flag_row id) rows refl ∙ h.objects;
    })

pub turns_used : (rows : List Row) (g : Given) (v : Text) → Holds rows g → g.turns ≡ None → Holds (used (valued (codes "turns")) (v ∷ []) rows) (record g { turns = Some v })
turns_used rows g v h new =
    let id = codes "turns" in
    let none : row_at id rows ≡ None = h.turns ∙ ap (value_rows id) new in
    rw (used_value id v rows none) (record {
      serial = row_at_other (codes "serial") (value_row id v) rows refl ∙ h.serial;
      journal = row_at_other (codes "journal") (value_row id v) rows refl ∙ h.journal;
      turns = row_at_end id (value_row id v) rows refl none;
      objects = row_at_other (codes "objects") (value_row id v) rows refl ∙ h.objects;
    })

pub objects_used : (rows : List Row) (g : Given) (v : Text) → Holds rows g → g.objects ≡ None → Holds (used (valued (codes "objects")) (v ∷ []) rows) (record g { objects = Some v })
objects_used rows g v h new =
    let id = codes "objects" in
    let none : row_at id rows ≡ None = h.objects ∙ ap (value_rows id) new in
    rw (used_value id v rows none) (record {
      serial = row_at_other (codes "serial") (value_row id v) rows refl ∙ h.serial;
      journal = row_at_other (codes "journal") (value_row id v) rows refl ∙ h.journal;
      turns = row_at_other (codes "turns") (value_row id v) rows refl ∙ h.turns;
      objects = row_at_end id (value_row id v) rows refl none;
    })

-- ---- from word to word

-- where the walk ends
abbrev pub end : Walk → List Text → Walk
end w words = fold (walked top.rules []) w words

-- the faults of the words, and of what is pending in the end
abbrev pub total : Walk → List Text → Kinds
total w words = or_else (walk_fault top [] w words) (settle_fault top.rules false (end w words).held)

pub total_none : (w : Walk) → total w [] ≡ settle_fault top.rules false w.held
unfolding walk_fault
total_none w = refl

pub total_word : (w : Walk) (word : Text) (words : List Text) → total w (word ∷ words) ≡ or_else (turn_fault top [] w word) (total (walked top.rules [] w word) words)
unfolding walk_fault
total_word w word words = or_else_assoc (turn_fault top [] w word) _ _

-- the parse reads these options, or fails where they are refused in the end
abbrev pub Reads : Walk → List Text → Option Given → Type 0
Reads w words o =
    ((total w words ≡ []) × ((g : Given) × (o ≡ Some g) × Holds (settled top.rules (end w words).held).rows g))
    ⊎ ((fails (total w words) ≡ true) × (option_and_then options_by o ≡ None))

pub turn_fails : (w : Walk) (word : Text) (words : List Text) (o : Option Given) → fails (turn_fault top [] w word) ≡ true → option_and_then options_by o ≡ None → Reads w (word ∷ words) o
turn_fails w word words o bad none = inr (ap fails (total_word w word words) ∙ fails_first (turn_fault top [] w word) _ bad, none)

goes_on : (w : Walk) (word : Text) (words : List Text) (o : Option Given) → turn_fault top [] w word ≡ [] → Reads (walked top.rules [] w word) words o → Reads w (word ∷ words) o
goes_on w word words o good rest =
    let same : total w (word ∷ words) ≡ total (walked top.rules [] w word) words = total_word w word words ∙ ap (λ k. or_else k (total (walked top.rules [] w word) words)) good in
    elim rest [
      | inl r ↦ inl (same ∙ r.0, r.1)
      | inr r ↦ inr (ap fails same ∙ r.0, r.1)
    ]

pub turn_passes : (w next : Walk) (word : Text) (words : List Text) (o : Option Given) → turn_fault top [] w word ≡ [] → walked top.rules [] w word ≡ next → Reads next words o → Reads w (word ∷ words) o
turn_passes w next word words o good is rest = goes_on w word words o good (subst (λ x. Reads x words o) (sym is) rest)

-- ---- words that no option is

-- a word that may stand among the options: not `--`, and UTF-8
abbrev pub IsWord : Text → Type 0
IsWord word = (bytes_eq word (codes "--") ≡ false) × (encode_utf8_all (chars word) ≡ word)

abbrev pub AreWords : List Text → Type 0
AreWords [] = Unit {0}
AreWords (word ∷ words) = IsWord word × AreWords words

-- a word with one hyphen
pub record IsShort (word : Text) : Type 0 where
  pub byte : ℕ
  pub bytes : Text
  pub first : ℕ
  pub flags : short_of word ≡ Some (byte ∷ bytes)
  pub character : slice_get (chars (byte ∷ bytes)) 0 ≡ Some first
  pub starts : word ≡ 45 ∷ byte ∷ bytes

tail_chars : (b : ℕ) (bs : Text) → chars (45 ∷ b ∷ bs) ≡ 45 ∷ chars (b ∷ bs)
unfolding chars
tail_chars b bs = refl

one_hyphen_text : encode_utf8_all (45 ∷ []) ≡ 45 ∷ []
unfolding encode_utf8
one_hyphen_text = refl

-- a text after a hyphen has a first character
first_of_tail : (b : ℕ) (bs : Text) → encode_utf8_all (chars (45 ∷ b ∷ bs)) ≡ 45 ∷ b ∷ bs → (c : ℕ) × (slice_get (chars (b ∷ bs)) 0 ≡ Some c)
first_of_tail b bs whole = by (chars (b ∷ bs)) refl
  where
    by : (cs : List ℕ) → chars (b ∷ bs) ≡ cs → (c : ℕ) × (slice_get cs 0 ≡ Some c)
    by [] e =
        let bad : 45 ∷ [] ≡ 45 ∷ b ∷ bs = sym one_hyphen_text ∙ sym (ap encode_utf8_all (tail_chars b bs ∙ ap (λ t. 45 ∷ t) e)) ∙ whole in
        cc
    by (c ∷ cs) e = (c, refl)

after_hyphen : (word : Text) (b : ℕ) (bs : Text) → word ≡ 45 ∷ b ∷ bs → encode_utf8_all (chars word) ≡ word → IsShort word ⊎ (short_of word ≡ None)
after_hyphen word b bs is whole = by (b == 45) refl
  where
    by : (t : Bool) → (b == 45) ≡ t → IsShort word ⊎ (short_of word ≡ None)
    by true e = inr (ap short_of is ∙ ap (λ t. cond t None (Some (b ∷ bs))) e)
    by false e =
        let first = first_of_tail b bs (subst (λ w. encode_utf8_all (chars w) ≡ w) is whole) in
        inl (record {
          byte = b;
          bytes = bs;
          first = first.0;
          flags = ap short_of is ∙ ap (λ t. cond t None (Some (b ∷ bs))) e;
          character = first.1;
          starts = is;
        })

from_hyphen : (word more : Text) → word ≡ 45 ∷ more → encode_utf8_all (chars word) ≡ word → IsShort word ⊎ (short_of word ≡ None)
from_hyphen word [] is whole = inr (ap short_of is)
from_hyphen word (b ∷ bs) is whole = after_hyphen word b bs is whole

pub short_view : (word : Text) → encode_utf8_all (chars word) ≡ word → IsShort word ⊎ (short_of word ≡ None)
short_view [] whole = inr refl
short_view (a ∷ more) whole = by (a == 45) refl
  where
    by : (t : Bool) → (a == 45) ≡ t → IsShort (a ∷ more) ⊎ (short_of (a ∷ more) ≡ None)
    by true e = from_hyphen (a ∷ more) more (ap (λ x. x ∷ more) ((Decides-eqb a 45).0 e)) whole
    by false e = inr (ap (λ t. option_and_then short_of_rest (cond t (Some more) None)) e)

pub plain_turn_fails : (word : Text) (h : Held) → h.skip ≡ 0 → IsWord word → long_of word ≡ None → fails (turn_fault top [] (idle_at h) word) ≡ true
plain_turn_fails word h skip ok long = elim (short_view word ok.1) [
  | inl s ↦ idle_short_fails top h word ok.0 s.byte s.bytes s.first long s.flags s.character (none_short s.first) skip
  | inr short ↦ stray_fails top h word ok.0 long short none_placed refl
]

doomed_turn : (word : Text) (h : Held) → h.skip ≡ 0 → fails (settle_fault top.rules false h) ≡ true → IsWord word → fails (turn_fault top [] (idle_at h) word) ≡ true
doomed_turn word h skip bad ok = elim (shape word ok.0) [
  | inl l ↦ idle_doomed top h word ok.0 (name_and_value (l.0 ∷ l.1)).0 (name_and_value (l.0 ∷ l.1)).1 (ap long_of l.2) bad
  | inr long ↦ plain_turn_fails word h skip ok long
]

-- where what is pending lacks its value or repeats another, the parse fails whatever follows
pub doomed : (words : List Text) (h : Held) → h.skip ≡ 0 → fails (settle_fault top.rules false h) ≡ true → AreWords words → fails (total (idle_at h) words) ≡ true
doomed [] h skip bad ok = ap fails (total_none (idle_at h)) ∙ bad
doomed (word ∷ words) h skip bad ok = ap fails (total_word (idle_at h) word words) ∙ fails_first (turn_fault top [] (idle_at h) word) _ (doomed_turn word h skip bad ok.0)
