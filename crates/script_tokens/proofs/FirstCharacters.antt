-- What a character may begin: each of a blank, a comment, a text, a word, an integer and a symbol is told by its first character.
use Rattle.std.proofs.Common.{◌≡◌, ◌≢◌, ℕ, ◌<◌, true, false, cond, ◌||◌, List, [], ◌∷◌, refl, sym, ◌∙◌, ap, subst, arith}
use Rattle.std.specs.Prelude.{◌==◌}
use Rattle.std.proofs.lemmas.Bool.{eqb-true}
use Rattle.std.proofs.lemmas.Bool.Decides.{nat_tests}
use Rattle.std.specs.Char.{is_ascii_digit, is_ascii_alphabetic}
use Rattle.unicode_ident.specs.Ident.{is_xid_start, is_xid_continue}
use Rattle.unicode_ident.proofs.Computing.{unicode_ident}
use Rattle.unicode_ident.proofs.IdentLemmas.{is_xid_start-ascii, is_xid_start-is_xid_continue}
use Rattle.dyn_value.specs.Texts.{quoted_text}
use Rattle.script_tokens.specs.declared.token.Symbol.{Symbol}
use Rattle.script_tokens.specs.declared.token.Symbol.TheVariants as mark
use Rattle.script_tokens.specs.Words.{symbol_text}
use Rattle.script_tokens.specs.Lexemes.{is_blank, starts_word, IsWord, IsDigits, IsLexeme}
use Rattle.script_tokens.specs.Lexemes.IsLexeme.{OfWord, OfDigits, OfText, OfSymbol}

pub data Kind : Type 0 where
  Ends : Kind
  Blanks : Kind
  Comments : Kind
  Texts : Kind
  Words : Kind
  Integers : Kind
  Others : Kind

-- the kind of piece that the character begins
abbrev pub kind_of : ℕ → Kind
kind_of c = cond (is_blank c) Blanks (cond (c == 35) Comments (cond (c == 34) Texts (cond (starts_word c) Words (cond (is_ascii_digit c) Integers Others))))

-- the kind of piece that the characters begin
abbrev pub first_kind : List ℕ → Kind
first_kind [] = Ends
first_kind (c ∷ cs) = kind_of c

blank_is : (c : ℕ) → is_blank c ≡ true → c < 33
blank_is c blank = grind (arith, nat_tests)

digit_is : (c : ℕ) → is_ascii_digit c ≡ true → (47 < c) × (c < 58)
digit_is c digit = grind (arith, nat_tests)

ascii_word : (c : ℕ) → c < 128 → starts_word c ≡ (is_ascii_alphabetic c || (c == 95))
ascii_word c small = rw (is_xid_start-ascii c small)

no_letter : (c : ℕ) → c < 58 → (is_ascii_alphabetic c || (c == 95)) ≡ false
no_letter c small = grind (arith, nat_tests)

-- below the letters no character starts a word
low_starts_none : (c : ℕ) → c < 58 → starts_word c ≡ false
low_starts_none c small = ascii_word c (omega arith) ∙ no_letter c small

high_is_no_blank : (c : ℕ) → 35 < c → is_blank c ≡ false
high_is_no_blank c high = grind (arith, nat_tests)

high_is_no_comment : (c : ℕ) → 35 < c → (c == 35) ≡ false
high_is_no_comment c high = grind (arith, nat_tests)

high_is_no_quote : (c : ℕ) → 35 < c → (c == 34) ≡ false
high_is_no_quote c high = grind (arith, nat_tests)

word_is_high : (c : ℕ) → starts_word c ≡ true → 57 < c
word_is_high c starts = grind (arith, low_starts_none)

pub blank_kind : (c : ℕ) → is_blank c ≡ true → kind_of c ≡ Blanks
blank_kind c blank = rw blank

pub comment_kind : kind_of 35 ≡ Comments
comment_kind = refl

pub word_kind : (c : ℕ) → starts_word c ≡ true → kind_of c ≡ Words
word_kind c starts =
    let high = word_is_high c starts in
    rw (high_is_no_blank c (omega arith), high_is_no_comment c (omega arith), high_is_no_quote c (omega arith), starts)

pub digit_kind : (c : ℕ) → is_ascii_digit c ≡ true → kind_of c ≡ Integers
digit_kind c digit =
    let is = digit_is c digit in
    rw (high_is_no_blank c (omega arith), high_is_no_comment c (omega arith), high_is_no_quote c (omega arith), low_starts_none c (omega arith), digit)

pub other_kind : (c : ℕ) → is_blank c ≡ false → (c == 35) ≡ false → (c == 34) ≡ false → starts_word c ≡ false → is_ascii_digit c ≡ false → kind_of c ≡ Others
other_kind c blank comment quote word digit = rw (blank, comment, quote, word, digit)

pub symbol_kind : (s : Symbol) → first_kind (symbol_text s) ≡ Others
unfolding unicode_ident
symbol_kind mark.OpenParenthesis = refl
symbol_kind mark.CloseParenthesis = refl
symbol_kind mark.OpenBrace = refl
symbol_kind mark.CloseBrace = refl
symbol_kind mark.OpenBracket = refl
symbol_kind mark.CloseBracket = refl
symbol_kind mark.Comma = refl
symbol_kind mark.Semicolon = refl
symbol_kind mark.Dot = refl
symbol_kind mark.Colon = refl
symbol_kind mark.Equal = refl
symbol_kind mark.EqualEqual = refl
symbol_kind mark.BangEqual = refl
symbol_kind mark.Less = refl
symbol_kind mark.LessEqual = refl
symbol_kind mark.Greater = refl
symbol_kind mark.GreaterEqual = refl
symbol_kind mark.Plus = refl
symbol_kind mark.Minus = refl
symbol_kind mark.Star = refl
symbol_kind mark.Slash = refl
symbol_kind mark.Percent = refl
symbol_kind mark.Ampersand = refl
symbol_kind mark.Bar = refl
symbol_kind mark.Bang = refl

pub words_kind : (cs : List ℕ) → IsWord cs → first_kind cs ≡ Words
words_kind [] w = absurd w
words_kind (c ∷ cs) w = word_kind c w.0

pub digits_kind : (cs : List ℕ) → IsDigits cs → first_kind cs ≡ Integers
digits_kind [] d = absurd d
digits_kind (c ∷ cs) d = digit_kind c d.0

pub quoted_kind : (cs text : List ℕ) → cs ≡ quoted_text text → first_kind cs ≡ Texts
quoted_kind cs text is = ap first_kind is

-- something stands there that begins with no blank and no number sign
pub record BeginsLexeme (cs : List ℕ) : Type 0 where
  pub ends : first_kind cs ≢ Ends
  pub blanks : first_kind cs ≢ Blanks
  pub comments : first_kind cs ≢ Comments

pub begins_lexeme : (cs : List ℕ) → IsLexeme cs → BeginsLexeme cs
begins_lexeme cs (OfWord w) = let k = words_kind cs w in record { ends = λ e. cc; blanks = λ b. cc; comments = λ b. cc }
begins_lexeme cs (OfDigits d) = let k = digits_kind cs d in record { ends = λ e. cc; blanks = λ b. cc; comments = λ b. cc }
begins_lexeme cs (OfText text is) = let k = quoted_kind cs text is.0 in record { ends = λ e. cc; blanks = λ b. cc; comments = λ b. cc }
begins_lexeme cs (OfSymbol s is) =
    let k = ap first_kind is ∙ symbol_kind s in record { ends = λ e. cc; blanks = λ b. cc; comments = λ b. cc }

underscore_continues : is_xid_continue 95 ≡ true
unfolding unicode_ident
underscore_continues = refl

-- what starts a word continues one
pub word_continues : (c : ℕ) → starts_word c ≡ true → is_xid_continue c ≡ true
word_continues c starts =
    elim (is_xid_start c) as (λ a. is_xid_start c ≡ a → (a || (c == 95)) ≡ true → is_xid_continue c ≡ true) [
      | true ↦ λ is _. is_xid_start-is_xid_continue c is
      | false ↦ λ _ is. subst (λ n. is_xid_continue n ≡ true) (sym (eqb-true c 95 is)) underscore_continues
    ] refl starts
