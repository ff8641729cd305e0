-- The rule of the words of sites, and what each step tells the pass that makes it.
-- While only one pass was made, each word is what that pass last wrote, and 0 before.
-- With more passes the words are advice: a pass that reads one knows nothing of it.
use Rattle.std.specs.Prelude.{◌≡◌, ◌≢◌, ℕ, ◌+◌, List, length, slice_index, slice_set, replicate, []}
use mathlib.Core.Option.{some}
use lib.ListN.{get_elem?}
use Rattle.atomic_table.specs.Table.{State, Me, Step}
use Rattle.call_site.specs.declared.memo.Memo.{Memo}

-- what is remembered, of these parts
abbrev pub memo_with : ℕ → ℕ → List ℕ → Memo
memo_with made calls words = record { made = made; calls = calls; words = words }

-- a pass that counts passes is the first and counts all; one that is alone remembers the words as they are
pub record WordsHold (count : ℕ) (state : State ℕ Memo) : Type 0 where
  pub wide : length state.words ≡ count
  pub counts : (i : ℕ) (memo : Memo) → get_elem? state.views i ≡ some memo → memo.made ≢ 0
      → (i ≡ 0) × (memo.made ≡ length state.views)
  pub alone : (i : ℕ) (memo : Memo) → get_elem? state.views i ≡ some memo → memo.made ≡ 1
      → memo.words ≡ state.words

-- what the first pass remembers at the start
abbrev pub first_memo : ℕ → Memo
first_memo count = memo_with 1 0 (replicate count 0)

-- while only one pass was made, the word found is the one remembered
abbrev pub FindsOwn : Step ℕ → Me ℕ Memo → ℕ → Type 0
FindsOwn step me found = me.0.made ≡ 1 → found ≡ slice_index me.0.words step.word

-- the same with another word
abbrev pub with_word : Memo → ℕ → ℕ → Memo
with_word memo i word = memo_with memo.made memo.calls (slice_set memo.words i word)

-- the same with another word, after one more call
abbrev pub with_call : Memo → ℕ → ℕ → Memo
with_call memo i word = memo_with memo.made (memo.calls + 1) (slice_set memo.words i word)

-- a word was looked at: the pass remembers the same
abbrev pub loaded : Step ℕ → Me ℕ Memo → ℕ → Me ℕ Memo → Type 0
loaded step me found me' = (me' ≡ me) × FindsOwn step me found

-- a target was exchanged: the pass remembers it, and one more call
abbrev pub exchanged : Step ℕ → Me ℕ Memo → ℕ → Me ℕ Memo → Type 0
exchanged step me found me' = me' ≡ (with_call me.0 step.word step.first, me.1)

-- a ring word was written: the pass remembers it
abbrev pub stored : Step ℕ → Me ℕ Memo → ℕ → Me ℕ Memo → Type 0
stored step me found me' = me' ≡ (with_word me.0 step.word step.first, me.1)

-- a place was drawn: the pass remembers one more entry
abbrev pub drawn : Step ℕ → Me ℕ Memo → ℕ → Me ℕ Memo → Type 0
drawn step me found me' =
    (me' ≡ (with_word me.0 step.word (slice_index me.0.words step.word + 1), me.1)) × FindsOwn step me found

-- what the first pass remembers after one more was made
abbrev pub splitter : Memo → Memo
splitter memo = memo_with (memo.made + 1) memo.calls memo.words

-- what a pass that was just made remembers: it wrote nothing
abbrev pub newcomer : Memo → Memo
newcomer memo = memo_with 0 0 (replicate (length memo.words) 0)

-- what a pass remembers after it took in another: the same
abbrev pub joined : Memo → Memo → Memo
joined memo other = memo

-- what a pass remembers once it was taken in: nothing
abbrev pub spent : Memo
spent = memo_with 0 0 []
