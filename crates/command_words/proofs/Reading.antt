-- A parse of the words of `run` reads the options that they give.
use Rattle.std.proofs.Common.{◌≡◌, ◌∙◌, ◌||◌, ◌&&◌, ◌⊎◌, inl, inr, ℕ, Bool, true, false, cond, not, refl, sym, ap, ap₂, subst, List, [], ◌∷◌, length, Option, Some, None, codes}
use Rattle.std.specs.Prelude.{is_none, nat_lt, option_and_then}
use Rattle.std.specs.List.{after_first, before_first, list_any}
use Rattle.std.specs.Option.{option_map_or}
use Rattle.std.specs.Str.{bytes_eq}
use Rattle.std.specs.Str.Parse.{digits_value}
use Rattle.std.proofs.lemmas.Slice.Eq.{bytes_eq-Decides}
use Rattle.clap.specs.Kinds.{or_else}
use Rattle.clap.specs.Lexer.{long_of, name_and_value}
use Rattle.clap.specs.Faults.{settle_fault, turn_fault, use_fault}
use Rattle.clap.specs.Walk.{Held, Text, arg_by_id, arg_by_long, reacted, settled, used, used_by_id}
use Rattle.command_words.specs.Commands.{Given, is_equals, number_of, options_after, options_by, takes_next_word, with_equals, with_value, with_word}
use Rattle.command_words.proofs.Rows.{row_at}
use Rattle.command_words.proofs.RunRules.{flag, none_short, top, valued}
use Rattle.command_words.proofs.Turns.{attached_fails, awaited_fault, awaited_walked, fails, fails_then, flag_fault, flag_walked, idle_at, option_fault, option_walked, unknown_fails, value_fault, value_walked, waiting_at, waiting_doomed, waiting_short_fails}
use Rattle.command_words.proofs.Forms.{IsOther, alone_word, equals_only, equals_word, long_alone, long_equals, named, other_unknown, plain_word, shape}
use Rattle.command_words.proofs.Kept.{bad_value, none_first}
use Rattle.command_words.proofs.Totals.{AreWords, Holds, IsWord, Reads, doomed, first_use, flag_row, flag_rows, flag_use, journal_used, objects_used, plain_turn_fails, second_use, serial_used, short_view, total_none, turn_fails, turn_passes, turns_used, value_row, value_rows, value_use}

-- what a parse of the words that are left reads
abbrev Next : List Text → Type 0
Next words = (h : Held) (g : Given) → h.skip ≡ 0 → settle_fault top.rules false h ≡ [] → Holds (settled top.rules h).rows g → Reads (idle_at h) words (options_after words g)

hyphen_number : (t : Text) → number_of (45 ∷ t) ≡ None
hyphen_number t = by (nat_lt 0 (length (45 ∷ t)) && nat_lt (length (45 ∷ t)) 11)
  where
    by : (b : Bool) → cond (b && false) (Some (digits_value 10 (45 ∷ t))) None ≡ None
    by true = refl
    by false = refl

either : (a b : Bool) → (a || b) ≡ true → (a ≡ true) ⊎ (b ≡ true)
either true b e = inl refl
either false b e = inr e

option_name : (word : Text) → takes_next_word word ≡ true → (word ≡ codes "--turns") ⊎ (word ≡ codes "--objects")
option_name word takes = elim (either (bytes_eq word (codes "--turns")) (bytes_eq word (codes "--objects")) takes) [
  | inl e ↦ inl ((bytes_eq-Decides word (codes "--turns")).0 e)
  | inr e ↦ inr ((bytes_eq-Decides word (codes "--objects")).0 e)
]

module _ (rest : List Text) (h : Held) (g : Given) (skip : h.skip ≡ 0) (settles : settle_fault top.rules false h ≡ []) (holds : Holds (settled top.rules h).rows g) (next : Next rest) where
  -- what the options after one more are
  abbrev after : Option Given → Option Given
  after o = option_and_then (options_after rest) o

  -- an option without a value that is not among the rows yet, or is a second time
  record IsFlag (id word : Text) : Type 0 where
    pub given : Bool
    pub more : Given
    pub bare : bytes_eq word (codes "--") ≡ false
    pub long : long_of word ≡ Some (id, None)
    pub found : arg_by_long top.rules id ≡ Some (flag id)
    pub row : row_at id (settled top.rules h).rows ≡ flag_rows id given
    pub read : with_word word g ≡ cond given None (Some more)
    pub held : given ≡ false → Holds (used (flag id) [] (settled top.rules h).rows) more

  flag_step : (id word : Text) → IsFlag id word → Reads (idle_at h) (word ∷ rest) (after (with_word word g))
  flag_step id word f = by f.given refl
    where
      fault : turn_fault top [] (idle_at h) word ≡ or_else (settle_fault top.rules false h) (use_fault false (flag id) [] (settled top.rules h).rows)
      fault = flag_fault top h word f.bare id (flag id) f.long f.found refl

      by : (b : Bool) → f.given ≡ b → Reads (idle_at h) (word ∷ rest) (after (with_word word g))
      by true e = turn_fails (idle_at h) word rest (after (with_word word g))
          (ap fails fault ∙ fails_then (settle_fault top.rules false h) _
          (ap fails (flag_use id (settled top.rules h).rows) ∙ second_use id (settled top.rules h).rows (flag_row id) (f.row ∙ ap (flag_rows id) e)))
          (none_first (with_word word g) (f.read ∙ ap (λ b. cond b None (Some f.more)) e) (options_after rest))
      by false e =
          let same : options_after rest f.more ≡ after (with_word word g) = sym (ap after (f.read ∙ ap (λ b. cond b None (Some f.more)) e)) in
          let to = reacted top.rules (flag id) [] h in
          turn_passes (idle_at h) (idle_at to) word rest (after (with_word word g))
          (fault ∙ ap₂ or_else settles (flag_use id (settled top.rules h).rows ∙ first_use id (settled top.rules h).rows (f.row ∙ ap (flag_rows id) e)))
          (flag_walked top h word f.bare id (flag id) f.long f.found refl)
          (subst (λ o. Reads (idle_at to) rest o) same (next to f.more skip refl (f.held e)))

  unless : (b : Bool) (o : Option Given) → cond (not b) o None ≡ cond b None o
  unless true o = refl
  unless false o = refl

  serial : IsFlag (codes "serial") (codes "--serial")
  serial = record {
    given = g.serial;
    more = record g { serial = true };
    bare = refl;
    long = refl;
    found = refl;
    row = holds.serial;
    read = unless g.serial (Some (record g { serial = true }));
    held = serial_used (settled top.rules h).rows g holds;
  }

  journal : IsFlag (codes "journal") (codes "--journal")
  journal = record {
    given = g.journal;
    more = record g { journal = true };
    bare = refl;
    long = refl;
    found = refl;
    row = holds.journal;
    read = unless g.journal (Some (record g { journal = true }));
    held = journal_used (settled top.rules h).rows g holds;
  }

  -- an option with a value that is not among the rows yet, or is a second time
  record IsOption (id word : Text) : Type 0 where
    pub given : Option Text
    pub more : Text → Given
    pub bare : bytes_eq word (codes "--") ≡ false
    pub long : long_of word ≡ Some (id, None)
    pub found : arg_by_long top.rules id ≡ Some (valued id)
    pub known : arg_by_id top.rules id ≡ Some (valued id)
    pub own : bytes_eq id id ≡ true
    pub row : row_at id (settled top.rules h).rows ≡ value_rows id given
    pub read : (v : Text) → with_value word v g ≡ cond (is_none given) (Some (more v)) None
    pub held : (v : Text) → given ≡ None → Holds (used (valued id) (v ∷ []) (settled top.rules h).rows) (more v)
    pub alone : with_word word g ≡ None

  turns : IsOption (codes "turns") (codes "--turns")
  turns = record {
    given = g.turns;
    more = (λ v. record g { turns = Some v });
    bare = refl;
    long = refl;
    found = refl;
    known = refl;
    own = refl;
    row = holds.turns;
    read = (λ v. refl);
    held = (λ v. turns_used (settled top.rules h).rows g v holds);
    alone = refl;
  }

  objects : IsOption (codes "objects") (codes "--objects")
  objects = record {
    given = g.objects;
    more = (λ v. record g { objects = Some v });
    bare = refl;
    long = refl;
    found = refl;
    known = refl;
    own = refl;
    row = holds.objects;
    read = (λ v. refl);
    held = (λ v. objects_used (settled top.rules h).rows g v holds);
    alone = refl;
  }

  module _ (id name : Text) (p : IsOption id name) where
    -- a second value is refused, and the first one is taken
    second_fails : (v t : Text) → p.given ≡ Some t → fails (use_fault false (valued id) (v ∷ []) (settled top.rules h).rows) ≡ true
    second_fails v t e = ap fails (value_use id v (settled top.rules h).rows) ∙ second_use id (settled top.rules h).rows (value_row id t) (p.row ∙ ap (value_rows id) e)

    first_passes : (v : Text) → p.given ≡ None → use_fault false (valued id) (v ∷ []) (settled top.rules h).rows ≡ []
    first_passes v e = value_use id v (settled top.rules h).rows ∙ first_use id (settled top.rules h).rows (p.row ∙ ap (value_rows id) e)

    second_refused : (v t : Text) → p.given ≡ Some t → with_value name v g ≡ None
    second_refused v t e = p.read v ∙ ap (λ o. cond (is_none o) (Some (p.more v)) None) e

    first_taken : (v : Text) → p.given ≡ None → options_after rest (p.more v) ≡ after (with_value name v g)
    first_taken v e = sym (ap after (p.read v ∙ ap (λ o. cond (is_none o) (Some (p.more v)) None) e))

    -- with its value after `=`
    option_equals : (word v : Text) → bytes_eq word (codes "--") ≡ false → long_of word ≡ Some (id, Some v)
        → Reads (idle_at h) (word ∷ rest) (after (with_value name v g))
    option_equals word v bare long = by p.given refl
      where
        fault : turn_fault top [] (idle_at h) word ≡ or_else (settle_fault top.rules false h) (use_fault false (valued id) (v ∷ []) (settled top.rules h).rows)
        fault = value_fault top h word bare id v (valued id) long p.found refl

        by : (o : Option Text) → p.given ≡ o → Reads (idle_at h) (word ∷ rest) (after (with_value name v g))
        by (Some t) e = turn_fails (idle_at h) word rest (after (with_value name v g))
            (ap fails fault ∙ fails_then (settle_fault top.rules false h) _ (second_fails v t e))
            (none_first (with_value name v g) (second_refused v t e) (options_after rest))
        by None e =
            let to = reacted top.rules (valued id) (v ∷ []) h in
            turn_passes (idle_at h) (idle_at to) word rest (after (with_value name v g))
            (fault ∙ ap₂ or_else settles (first_passes v e))
            (value_walked top h word bare id v (valued id) long p.found refl)
            (subst (λ o. Reads (idle_at to) rest o) (first_taken v e) (next to (p.more v) skip refl (p.held v e)))

    -- the option waits for its value, and has it
    abbrev waits : Held
    waits = record (settled top.rules h) { pending = Some (id, []) }

    abbrev has : Text → Held
    has v = record (settled top.rules h) { pending = Some (id, v ∷ []) }

    waits_fails : fails (settle_fault top.rules false waits) ≡ true
    waits_fails = ap (λ o. fails (option_map_or (λ a. use_fault false a [] (settled top.rules h).rows) o [])) p.known

    has_fault : (v : Text) → settle_fault top.rules false (has v) ≡ use_fault false (valued id) (v ∷ []) (settled top.rules h).rows
    has_fault v = ap (λ o. option_map_or (λ a. use_fault false a (v ∷ []) (settled top.rules h).rows) o []) p.known

    has_rows : (v : Text) → (settled top.rules (has v)).rows ≡ used (valued id) (v ∷ []) (settled top.rules h).rows
    has_rows v = ap (λ o. used_by_id o (v ∷ []) (settled top.rules h).rows) p.known

    option_has : (v : Text) → AreWords rest → (o : Option Text) → p.given ≡ o → Reads (idle_at (has v)) rest (after (with_value name v g))
    option_has v words (Some t) e = inr (
      doomed rest (has v) skip (ap fails (has_fault v) ∙ second_fails v t e) words,
      none_first (with_value name v g) (second_refused v t e) (options_after rest),
    )
    option_has v words None e = subst (λ o. Reads (idle_at (has v)) rest o) (first_taken v e)
        (next (has v) (p.more v) skip (has_fault v ∙ first_passes v e) (subst (λ r. Holds r (p.more v)) (sym (has_rows v)) (p.held v e)))

    option_value : (v : Text) → IsWord v → AreWords rest → Reads (waiting_at id waits) (v ∷ rest) (after (with_value name v g))
    option_value v ok words = elim (shape v ok.0) [
      | inl l ↦ turn_fails (waiting_at id waits) v rest (after (with_value name v g))
          (waiting_doomed top waits v ok.0 id (name_and_value (l.0 ∷ l.1)).0 (name_and_value (l.0 ∷ l.1)).1 (ap long_of l.2) waits_fails)
          (bad_value name v rest g (ap number_of l.2 ∙ hyphen_number (45 ∷ l.0 ∷ l.1)))
      | inr long ↦ elim (short_view v ok.1) [
        | inl s ↦ turn_fails (waiting_at id waits) v rest (after (with_value name v g))
            (waiting_short_fails top waits v ok.0 id s.byte s.bytes s.first long s.flags s.character (none_short s.first) skip)
            (bad_value name v rest g (ap number_of s.starts ∙ hyphen_number (s.byte ∷ s.bytes)))
        | inr short ↦ turn_passes (waiting_at id waits) (idle_at (has v)) v rest (after (with_value name v g))
            (awaited_fault top waits v ok.0 id long short)
            (awaited_walked top waits v ok.0 id (valued id) long short p.known p.own refl refl)
            (option_has v words p.given refl)
      ]
    ]

    starts_waiting : (words : List Text) (o : Option Given) → Reads (waiting_at id waits) words o → Reads (idle_at h) (name ∷ words) o
    starts_waiting words o then = turn_passes (idle_at h) (waiting_at id waits) name words o
        (option_fault top h name p.bare id (valued id) p.long p.found refl ∙ settles)
        (option_walked top h name p.bare id (valued id) p.long p.found refl) then

    option_next : (v : Text) → IsWord v → AreWords rest → Reads (idle_at h) (name ∷ v ∷ rest) (after (with_value name v g))
    option_next v ok words = starts_waiting (v ∷ rest) (after (with_value name v g)) (option_value v ok words)

    option_alone : Reads (idle_at h) (name ∷ []) (with_word name g)
    option_alone = starts_waiting [] (with_word name g)
        (inr (ap fails (total_none (waiting_at id waits)) ∙ waits_fails, ap (option_and_then options_by) p.alone))

  -- the name of an option with a value, before its value and at the end
  name_next : (word v : Text) → takes_next_word word ≡ true → IsWord v → AreWords rest → Reads (idle_at h) (word ∷ v ∷ rest) (after (with_value word v g))
  name_next word v takes ok words = elim (option_name word takes) [
    | inl e ↦ subst (λ w. Reads (idle_at h) (w ∷ v ∷ rest) (after (with_value w v g))) (sym e) (option_next (codes "turns") (codes "--turns") turns v ok words)
    | inr e ↦ subst (λ w. Reads (idle_at h) (w ∷ v ∷ rest) (after (with_value w v g))) (sym e) (option_next (codes "objects") (codes "--objects") objects v ok words)
  ]

  name_alone : (word : Text) → takes_next_word word ≡ true → Reads (idle_at h) (word ∷ []) (with_word word g)
  name_alone word takes = elim (option_name word takes) [
    | inl e ↦ subst (λ w. Reads (idle_at h) (w ∷ []) (with_word w g)) (sym e) (option_alone (codes "turns") (codes "--turns") turns)
    | inr e ↦ subst (λ w. Reads (idle_at h) (w ∷ []) (with_word w g)) (sym e) (option_alone (codes "objects") (codes "--objects") objects)
  ]

  -- a name that no option has
  other_word : (t : Text) → IsOther t → with_equals (45 ∷ 45 ∷ t) g ≡ None → with_word (45 ∷ 45 ∷ t) g ≡ None
  other_word t o none = (λ i.
      cond (o.serial i && not g.serial) (Some (record g { serial = true })) (cond (o.journal i && not g.journal) (Some (record g { journal = true })) (none i)))

  other_value : (t v : Text) → IsOther t → with_value (45 ∷ 45 ∷ t) v g ≡ None
  other_value t v o = (λ i.
      cond (o.turns i && is_none g.turns) (Some (record g { turns = Some v })) (cond (o.objects i && is_none g.objects) (Some (record g { objects = Some v })) None))

  -- a word with two hyphens and no `=`
  alone_step : (word : Text) (x : ℕ) (xs : Text) → bytes_eq word (codes "--") ≡ false → word ≡ 45 ∷ 45 ∷ x ∷ xs → list_any is_equals (x ∷ xs) ≡ false
      → takes_next_word word ≡ false → Reads (idle_at h) (word ∷ rest) (after (with_word word g))
  alone_step word x xs bare is none takes = elim (named (x ∷ xs)) [
    | inl e ↦ subst (λ w. Reads (idle_at h) (w ∷ rest) (after (with_word w g))) (sym (is ∙ ap (λ t. 45 ∷ 45 ∷ t) e)) (flag_step (codes "serial") (codes "--serial") serial)
    | inr (inl e) ↦ subst (λ w. Reads (idle_at h) (w ∷ rest) (after (with_word w g))) (sym (is ∙ ap (λ t. 45 ∷ 45 ∷ t) e)) (flag_step (codes "journal") (codes "--journal") journal)
    | inr (inr (inl e)) ↦
        let bad : true ≡ false = sym (ap takes_next_word (is ∙ ap (λ t. 45 ∷ 45 ∷ t) e)) ∙ takes in
        cc
    | inr (inr (inr (inl e))) ↦
        let bad : true ≡ false = sym (ap takes_next_word (is ∙ ap (λ t. 45 ∷ 45 ∷ t) e)) ∙ takes in
        cc
    | inr (inr (inr (inr o))) ↦ turn_fails (idle_at h) word rest (after (with_word word g))
        (unknown_fails top h word bare (x ∷ xs) None (ap long_of is ∙ long_alone x xs none) (other_unknown (x ∷ xs) o))
        (none_first (with_word word g) (ap (λ w. with_word w g) is ∙ other_word (x ∷ xs) o (alone_word x xs g none)) (options_after rest))
  ]

  -- a word with two hyphens and a value after `=`
  equals_step : (word : Text) (x : ℕ) (xs : Text) → bytes_eq word (codes "--") ≡ false → word ≡ 45 ∷ 45 ∷ x ∷ xs → list_any is_equals (x ∷ xs) ≡ true
      → Reads (idle_at h) (word ∷ rest) (after (with_word word g))
  equals_step word x xs bare is some =
      let name = before_first is_equals (x ∷ xs) in
      let v = after_first is_equals (x ∷ xs) in
      let long : long_of word ≡ Some (name, Some v) = ap long_of is ∙ long_equals x xs some in
      let read : with_word word g ≡ with_value (45 ∷ 45 ∷ name) v g = ap (λ w. with_word w g) is ∙ equals_only x xs g some ∙ equals_word x xs g some in
      elim (named name) [
        | inl e ↦ turn_fails (idle_at h) word rest (after (with_word word g))
            (attached_fails top h word bare name v (flag (codes "serial")) long (ap (arg_by_long top.rules) e) refl)
            (none_first (with_word word g) (read ∙ ap (λ n. with_value (45 ∷ 45 ∷ n) v g) e) (options_after rest))
        | inr (inl e) ↦ turn_fails (idle_at h) word rest (after (with_word word g))
            (attached_fails top h word bare name v (flag (codes "journal")) long (ap (arg_by_long top.rules) e) refl)
            (none_first (with_word word g) (read ∙ ap (λ n. with_value (45 ∷ 45 ∷ n) v g) e) (options_after rest))
        | inr (inr (inl e)) ↦ subst (λ o. Reads (idle_at h) (word ∷ rest) (after o)) (sym (read ∙ ap (λ n. with_value (45 ∷ 45 ∷ n) v g) e))
            (option_equals (codes "turns") (codes "--turns") turns word v bare (long ∙ ap (λ n. Some (n, Some v)) e))
        | inr (inr (inr (inl e))) ↦ subst (λ o. Reads (idle_at h) (word ∷ rest) (after o)) (sym (read ∙ ap (λ n. with_value (45 ∷ 45 ∷ n) v g) e))
            (option_equals (codes "objects") (codes "--objects") objects word v bare (long ∙ ap (λ n. Some (n, Some v)) e))
        | inr (inr (inr (inr o))) ↦ turn_fails (idle_at h) word rest (after (with_word word g))
            (unknown_fails top h word bare name (Some v) long (other_unknown name o))
            (none_first (with_word word g) (read ∙ other_value name v o) (options_after rest))
      ]

  -- a word that needs no other
  word_step : (word : Text) → IsWord word → takes_next_word word ≡ false → Reads (idle_at h) (word ∷ rest) (after (with_word word g))
  word_step word ok takes = elim (shape word ok.0) [
    | inl l ↦ by l.0 l.1 l.2 (list_any is_equals (l.0 ∷ l.1)) refl
    | inr long ↦ turn_fails (idle_at h) word rest (after (with_word word g)) (plain_turn_fails word h skip ok long)
        (none_first (with_word word g) (plain_word word g long) (options_after rest))
  ]
    where
      by : (x : ℕ) (xs : Text) → word ≡ 45 ∷ 45 ∷ x ∷ xs → (b : Bool) → list_any is_equals (x ∷ xs) ≡ b → Reads (idle_at h) (word ∷ rest) (after (with_word word g))
      by x xs is true e = equals_step word x xs ok.0 is e
      by x xs is false e = alone_step word x xs ok.0 is e takes

unit_bind : (o : Option Given) → option_and_then (options_after []) o ≡ o
unit_bind None = refl
unit_bind (Some g) = refl

pub reads : (words : List Text) → AreWords words → Next words
reads [] ok h g skip settles holds = inl (total_none (idle_at h) ∙ settles, (g, refl, holds))
reads (word ∷ []) ok h g skip settles holds = by (reads [] tt) (takes_next_word word) refl
  where
    by : Next [] → (b : Bool) → takes_next_word word ≡ b → Reads (idle_at h) (word ∷ []) (with_word word g)
    by after true takes = name_alone [] h g skip settles holds after word takes
    by after false takes = subst (λ o. Reads (idle_at h) (word ∷ []) o) (unit_bind (with_word word g)) (word_step [] h g skip settles holds after word ok.0 takes)
reads (word ∷ v ∷ words) ok h g skip settles holds = by (reads words ok.1.1) (reads (v ∷ words) ok.1) (takes_next_word word) refl
  where
    by : Next words → Next (v ∷ words) → (b : Bool) → takes_next_word word ≡ b → Reads (idle_at h) (word ∷ v ∷ words) (options_after (word ∷ v ∷ words) g)
    by after here true takes =
        let same : option_and_then (options_after words) (with_value word v g) ≡ options_after (word ∷ v ∷ words) g = rw takes refl in
        subst (λ o. Reads (idle_at h) (word ∷ v ∷ words) o) same (name_next words h g skip settles holds after word v takes ok.1.0 ok.1.1)
    by after here false takes =
        let same : option_and_then (options_after (v ∷ words)) (with_word word g) ≡ options_after (word ∷ v ∷ words) g = rw takes refl in
        subst (λ o. Reads (idle_at h) (word ∷ v ∷ words) o) same (word_step (v ∷ words) h g skip settles holds here word ok.0 takes)
