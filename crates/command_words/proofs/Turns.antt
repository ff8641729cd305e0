-- What one word does to a parse of a command with no positional argument and no subcommand.
use Rattle.std.proofs.Common.{◌≡◌, ℕ, Bool, true, false, cond, refl, [], ◌∷◌, Option, Some, None, is_some, codes}
use Rattle.std.specs.Prelude.{slice_get}
use Rattle.std.specs.Str.{bytes_eq, chars}
use Rattle.clap.specs.Lexer.{long_of, short_of}
use Rattle.clap.specs.Kinds.{Kinds, or_else}
use Rattle.clap.specs.Faults.{long_fault, option_fault as option_kinds, bundle_fault, flags_fault, react_fault, settle_fault, turn_fault, word_fault}
use Rattle.clap.specs.declared.error.kind.ErrorKind.TheVariants.{TooManyValues}
use Rattle.clap.specs.Simple.{Shape}
use Rattle.clap.specs.Walk.{Held, Rule, Text, idle, option, Walk, arg_by_id, arg_by_index, arg_by_long, arg_by_short, most_values, reacted, settled, takes_values, walked}

-- no kind of error, or some
abbrev pub fails : Kinds → Bool
fails [] = false
fails (k ∷ ks) = true

pub or_else_none : (a : Kinds) → or_else a [] ≡ a
or_else_none [] = refl
or_else_none (k ∷ ks) = refl

pub or_else_assoc : (a b c : Kinds) → or_else (or_else a b) c ≡ or_else a (or_else b c)
or_else_assoc [] b c = refl
or_else_assoc (k ∷ ks) b c = refl

pub fails_first : (a b : Kinds) → fails a ≡ true → fails (or_else a b) ≡ true
fails_first [] b e = cc
fails_first (k ∷ ks) b e = refl

pub fails_then : (a b : Kinds) → fails b ≡ true → fails (or_else a b) ≡ true
fails_then [] b e = e
fails_then (k ∷ ks) b e = refl

-- between two words, where nothing waits for a value
abbrev pub idle_at : Held → Walk
idle_at h = record { held = h; waiting = idle; position = 1; is_trailing = false; stopped = None }

-- between two words, where the option of this id waits for its value
abbrev pub waiting_at : Text → Held → Walk
waiting_at id h = record { held = h; waiting = option id; position = 1; is_trailing = false; stopped = None }

module _ (s : Shape) (h : Held) (word : Text) (bare : bytes_eq word (codes "--") ≡ false) where
  -- a flag
  pub flag_fault : (name : Text) (a : Rule) → long_of word ≡ Some (name, None) → arg_by_long s.rules name ≡ Some a → takes_values a ≡ false
      → turn_fault s [] (idle_at h) word ≡ react_fault s.rules s.args_override_self a [] h
  flag_fault name a long found flag = rw (bare, long, found, flag) (or_else_none _)

  pub flag_walked : (name : Text) (a : Rule) → long_of word ≡ Some (name, None) → arg_by_long s.rules name ≡ Some a → takes_values a ≡ false
      → walked s.rules [] (idle_at h) word ≡ idle_at (reacted s.rules a [] h)
  unfolding walked
  flag_walked name a long found flag = rw (bare, long, found, flag) refl

  -- an option with its value
  pub value_fault : (name v : Text) (a : Rule) → long_of word ≡ Some (name, Some v) → arg_by_long s.rules name ≡ Some a → takes_values a ≡ true
      → turn_fault s [] (idle_at h) word ≡ react_fault s.rules s.args_override_self a (v ∷ []) h
  value_fault name v a long found takes = rw (bare, long, found, takes) (or_else_none _)

  pub value_walked : (name v : Text) (a : Rule) → long_of word ≡ Some (name, Some v) → arg_by_long s.rules name ≡ Some a → takes_values a ≡ true
      → walked s.rules [] (idle_at h) word ≡ idle_at (reacted s.rules a (v ∷ []) h)
  unfolding walked
  value_walked name v a long found takes = rw (bare, long, found, takes) refl

  -- an option whose value is to follow
  pub option_fault : (name : Text) (a : Rule) → long_of word ≡ Some (name, None) → arg_by_long s.rules name ≡ Some a → takes_values a ≡ true
      → turn_fault s [] (idle_at h) word ≡ settle_fault s.rules s.args_override_self h
  option_fault name a long found takes = rw (bare, long, found, takes) (or_else_none _)

  pub option_walked : (name : Text) (a : Rule) → long_of word ≡ Some (name, None) → arg_by_long s.rules name ≡ Some a → takes_values a ≡ true
      → walked s.rules [] (idle_at h) word ≡ waiting_at a.id (record (settled s.rules h) { pending = Some (a.id, []) })
  unfolding walked
  option_walked name a long found takes = rw (bare, long, found, takes) refl

  -- a name that no option has, and a flag with a value
  pub unknown_fails : (name : Text) (v : Option Text) → long_of word ≡ Some (name, v) → arg_by_long s.rules name ≡ None
      → fails (turn_fault s [] (idle_at h) word) ≡ true
  unknown_fails name v long found = rw (bare, long, found) refl

  pub attached_fails : (name v : Text) (a : Rule) → long_of word ≡ Some (name, Some v) → arg_by_long s.rules name ≡ Some a → takes_values a ≡ false
      → fails (turn_fault s [] (idle_at h) word) ≡ true
  attached_fails name v a long found flag = rw (bare, long, found, flag) refl

  -- where what is pending lacks its value or repeats another, each word with two hyphens fails
  long_doomed : (o : Option Rule) (v : Option Text) → fails (settle_fault s.rules s.args_override_self h) ≡ true
      → fails (long_fault s.rules s.args_override_self o v h) ≡ true
  long_doomed None v settles = refl
  long_doomed (Some a) v settles = by (takes_values a) v
    where
      by : (b : Bool) (v : Option Text) → fails (cond b (option_kinds s.rules s.args_override_self a v h)
          (cond (is_some v) (TooManyValues ∷ []) (react_fault s.rules s.args_override_self a [] h))) ≡ true
      by true None = settles
      by true (Some v) = fails_first (settle_fault s.rules s.args_override_self h) _ settles
      by false None = fails_first (settle_fault s.rules s.args_override_self h) _ settles
      by false (Some v) = refl

  pub idle_doomed : (name : Text) (v : Option Text) → long_of word ≡ Some (name, v) → fails (settle_fault s.rules s.args_override_self h) ≡ true
      → fails (turn_fault s [] (idle_at h) word) ≡ true
  idle_doomed name v long settles =
      fails_first (word_fault s [] false idle word h) _ (rw (bare, long) (long_doomed (arg_by_long s.rules name) v settles))

  pub waiting_doomed : (id name : Text) (v : Option Text) → long_of word ≡ Some (name, v) → fails (settle_fault s.rules s.args_override_self h) ≡ true
      → fails (turn_fault s [] (waiting_at id h) word) ≡ true
  waiting_doomed id name v long settles =
      fails_first (word_fault s [] false (option id) word h) _ (rw (bare, long) (long_doomed (arg_by_long s.rules name) v settles))

  -- a word with one hyphen, where no option has a short name
  short_kinds : (b : ℕ) (bs : Text) (x : ℕ) → slice_get (chars (b ∷ bs)) 0 ≡ Some x → arg_by_short s.rules x ≡ None → h.skip ≡ 0
      → fails (bundle_fault s.rules s.args_override_self (b ∷ bs) h) ≡ true
  unfolding flags_fault
  short_kinds b bs x first none skip = rw (skip, first, none) refl

  pub idle_short_fails : (b : ℕ) (bs : Text) (x : ℕ) → long_of word ≡ None → short_of word ≡ Some (b ∷ bs) → slice_get (chars (b ∷ bs)) 0 ≡ Some x
      → arg_by_short s.rules x ≡ None → h.skip ≡ 0 → fails (turn_fault s [] (idle_at h) word) ≡ true
  idle_short_fails b bs x long short first none skip =
      fails_first (word_fault s [] false idle word h) _ (rw (bare, long, short) (short_kinds b bs x first none skip))

  pub waiting_short_fails : (id : Text) (b : ℕ) (bs : Text) (x : ℕ) → long_of word ≡ None → short_of word ≡ Some (b ∷ bs) → slice_get (chars (b ∷ bs)) 0 ≡ Some x
      → arg_by_short s.rules x ≡ None → h.skip ≡ 0 → fails (turn_fault s [] (waiting_at id h) word) ≡ true
  waiting_short_fails id b bs x long short first none skip =
      fails_first (word_fault s [] false (option id) word h) _ (rw (bare, long, short) (short_kinds b bs x first none skip))

  -- a word without a hyphen, where no argument takes one by its place
  pub stray_fails : long_of word ≡ None → short_of word ≡ None → arg_by_index s.rules 1 ≡ None → s.is_leaf ≡ true
      → fails (turn_fault s [] (idle_at h) word) ≡ true
  stray_fails long short none leaf = rw (bare, long, short, none, leaf) refl

  -- the value that an option waits for
  pub awaited_fault : (id : Text) → long_of word ≡ None → short_of word ≡ None → turn_fault s [] (waiting_at id h) word ≡ []
  awaited_fault id long short = rw (bare, long, short) refl

  pub awaited_walked : (id : Text) (a : Rule) → long_of word ≡ None → short_of word ≡ None → arg_by_id s.rules id ≡ Some a → bytes_eq id a.id ≡ true
      → most_values a ≡ 1 → h.pending ≡ Some (id, [])
      → walked s.rules [] (waiting_at id h) word ≡ idle_at (record h { pending = Some (id, word ∷ []) })
  unfolding walked
  awaited_walked id a long short found same one waits = rw (bare, long, short, found, waits, same, one) refl
