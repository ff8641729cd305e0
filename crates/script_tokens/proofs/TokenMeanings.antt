-- A lexeme means one token at most.
use Rattle.std.proofs.Common.{◌≡◌, ℕ, ◌^◌, ◌<◌, true, cond, List, [], ◌∷◌, length, refl, sym, ◌∙◌, ap, arith}
use Rattle.std.specs.Prelude.{pos, bytes_eq, codes}
use Rattle.std.specs.List.{list_all}
use Rattle.std.specs.Char.{is_ascii_digit, digit_value}
use Rattle.std.specs.Fmt.{decimal}
use Rattle.std.specs.Str.Parse.{AllDigits}
use Rattle.std.proofs.lemmas.Str.Parse.{digit_from_value}
use Rattle.std.proofs.lemmas.Fmt.{decimal_is_IsNumeral, decimal_injective}
use Rattle.std.proofs.lemmas.Bool.Decides.{nat_tests}
use Rattle.unicode_ident.proofs.Computing.{unicode_ident}
use Rattle.script_tokens.specs.declared.token.Keyword.{Keyword}
use Rattle.script_tokens.specs.declared.token.Keyword.TheVariants as word
use Rattle.script_tokens.specs.declared.token.Symbol.{Symbol}
use Rattle.script_tokens.specs.declared.token.Symbol.TheVariants as mark
use Rattle.script_tokens.specs.declared.token.Token.{Token}
use Rattle.script_tokens.specs.declared.token.Token.TheVariants.{Name, Int, Text, Word, Mark}
use Rattle.script_tokens.specs.Words.{keyword_text, symbol_text}
use Rattle.script_tokens.specs.Lexemes.{IsWord, IsDigits, Means}
use Rattle.script_tokens.proofs.Escapes.{quoted_same}
use Rattle.script_tokens.proofs.FirstCharacters.{Kind, first_kind, words_kind, digits_kind, quoted_kind, symbol_kind}
use Rattle.script_tokens.proofs.FirstCharacters.Kind.{Texts, Words, Integers, Others}

-- the keyword with this text; the last one where there is none
keyword_at : List ℕ → Keyword
keyword_at cs =
    cond (bytes_eq cs (codes "shared")) word.Shared
    (cond (bytes_eq cs (codes "fn")) word.Fn
    (cond (bytes_eq cs (codes "task")) word.Task
    (cond (bytes_eq cs (codes "let")) word.Let
    (cond (bytes_eq cs (codes "delete")) word.Delete
    (cond (bytes_eq cs (codes "if")) word.If
    (cond (bytes_eq cs (codes "else")) word.Else
    (cond (bytes_eq cs (codes "while")) word.While
    (cond (bytes_eq cs (codes "return")) word.Return
    (cond (bytes_eq cs (codes "print")) word.Print
    (cond (bytes_eq cs (codes "try")) word.Try
    (cond (bytes_eq cs (codes "catch")) word.Catch
    (cond (bytes_eq cs (codes "new")) word.New
    (cond (bytes_eq cs (codes "nil")) word.Nil
    (cond (bytes_eq cs (codes "true")) word.True
    (cond (bytes_eq cs (codes "false")) word.False
    (cond (bytes_eq cs (codes "int")) word.Int
    (cond (bytes_eq cs (codes "text")) word.Text word.Bool)))))))))))))))))

keyword_at-keyword_text : (w : Keyword) → keyword_at (keyword_text w) ≡ w
unfolding keyword_at
keyword_at-keyword_text word.Shared = refl
keyword_at-keyword_text word.Fn = refl
keyword_at-keyword_text word.Task = refl
keyword_at-keyword_text word.Let = refl
keyword_at-keyword_text word.Delete = refl
keyword_at-keyword_text word.If = refl
keyword_at-keyword_text word.Else = refl
keyword_at-keyword_text word.While = refl
keyword_at-keyword_text word.Return = refl
keyword_at-keyword_text word.Print = refl
keyword_at-keyword_text word.Try = refl
keyword_at-keyword_text word.Catch = refl
keyword_at-keyword_text word.New = refl
keyword_at-keyword_text word.Nil = refl
keyword_at-keyword_text word.True = refl
keyword_at-keyword_text word.False = refl
keyword_at-keyword_text word.Int = refl
keyword_at-keyword_text word.Text = refl
keyword_at-keyword_text word.Bool = refl

pub keyword_same : (v w : Keyword) → keyword_text v ≡ keyword_text w → v ≡ w
keyword_same v w e = sym (keyword_at-keyword_text v) ∙ ap keyword_at e ∙ keyword_at-keyword_text w

-- each keyword is a word
pub keyword_is_word : (w : Keyword) → IsWord (keyword_text w)
unfolding unicode_ident
keyword_is_word word.Shared = (refl, refl)
keyword_is_word word.Fn = (refl, refl)
keyword_is_word word.Task = (refl, refl)
keyword_is_word word.Let = (refl, refl)
keyword_is_word word.Delete = (refl, refl)
keyword_is_word word.If = (refl, refl)
keyword_is_word word.Else = (refl, refl)
keyword_is_word word.While = (refl, refl)
keyword_is_word word.Return = (refl, refl)
keyword_is_word word.Print = (refl, refl)
keyword_is_word word.Try = (refl, refl)
keyword_is_word word.Catch = (refl, refl)
keyword_is_word word.New = (refl, refl)
keyword_is_word word.Nil = (refl, refl)
keyword_is_word word.True = (refl, refl)
keyword_is_word word.False = (refl, refl)
keyword_is_word word.Int = (refl, refl)
keyword_is_word word.Text = (refl, refl)
keyword_is_word word.Bool = (refl, refl)

-- the symbol with this text; the last one where there is none
symbol_at : List ℕ → Symbol
symbol_at cs =
    cond (bytes_eq cs (codes "(")) mark.OpenParenthesis
    (cond (bytes_eq cs (codes ")")) mark.CloseParenthesis
    (cond (bytes_eq cs (codes "{")) mark.OpenBrace
    (cond (bytes_eq cs (codes "}")) mark.CloseBrace
    (cond (bytes_eq cs (codes "[")) mark.OpenBracket
    (cond (bytes_eq cs (codes "]")) mark.CloseBracket
    (cond (bytes_eq cs (codes ",")) mark.Comma
    (cond (bytes_eq cs (codes ";")) mark.Semicolon
    (cond (bytes_eq cs (codes ".")) mark.Dot
    (cond (bytes_eq cs (codes ":")) mark.Colon
    (cond (bytes_eq cs (codes "=")) mark.Equal
    (cond (bytes_eq cs (codes "==")) mark.EqualEqual
    (cond (bytes_eq cs (codes "!=")) mark.BangEqual
    (cond (bytes_eq cs (codes "<")) mark.Less
    (cond (bytes_eq cs (codes "<=")) mark.LessEqual
    (cond (bytes_eq cs (codes ">")) mark.Greater
    (cond (bytes_eq cs (codes ">=")) mark.GreaterEqual
    (cond (bytes_eq cs (codes "+")) mark.Plus
    (cond (bytes_eq cs (codes "-")) mark.Minus
    (cond (bytes_eq cs (codes "*")) mark.Star
    (cond (bytes_eq cs (codes "/")) mark.Slash
    (cond (bytes_eq cs (codes "%")) mark.Percent
    (cond (bytes_eq cs (codes "&")) mark.Ampersand
    (cond (bytes_eq cs (codes "|")) mark.Bar mark.Bang)))))))))))))))))))))))

symbol_at-symbol_text : (s : Symbol) → symbol_at (symbol_text s) ≡ s
unfolding symbol_at
symbol_at-symbol_text mark.OpenParenthesis = refl
symbol_at-symbol_text mark.CloseParenthesis = refl
symbol_at-symbol_text mark.OpenBrace = refl
symbol_at-symbol_text mark.CloseBrace = refl
symbol_at-symbol_text mark.OpenBracket = refl
symbol_at-symbol_text mark.CloseBracket = refl
symbol_at-symbol_text mark.Comma = refl
symbol_at-symbol_text mark.Semicolon = refl
symbol_at-symbol_text mark.Dot = refl
symbol_at-symbol_text mark.Colon = refl
symbol_at-symbol_text mark.Equal = refl
symbol_at-symbol_text mark.EqualEqual = refl
symbol_at-symbol_text mark.BangEqual = refl
symbol_at-symbol_text mark.Less = refl
symbol_at-symbol_text mark.LessEqual = refl
symbol_at-symbol_text mark.Greater = refl
symbol_at-symbol_text mark.GreaterEqual = refl
symbol_at-symbol_text mark.Plus = refl
symbol_at-symbol_text mark.Minus = refl
symbol_at-symbol_text mark.Star = refl
symbol_at-symbol_text mark.Slash = refl
symbol_at-symbol_text mark.Percent = refl
symbol_at-symbol_text mark.Ampersand = refl
symbol_at-symbol_text mark.Bar = refl
symbol_at-symbol_text mark.Bang = refl

pub symbol_same : (s t : Symbol) → symbol_text s ≡ symbol_text t → s ≡ t
symbol_same s t e = sym (symbol_at-symbol_text s) ∙ ap symbol_at e ∙ symbol_at-symbol_text t

-- a number is written in digits
digit_below_ten : (c : ℕ) → digit_value c < 10 → is_ascii_digit c ≡ true
digit_below_ten c small = let range = digit_from_value c small in grind (arith, nat_tests)

all_digits : (cs : List ℕ) → AllDigits 10 cs → list_all is_ascii_digit cs ≡ true
all_digits [] digits = refl
all_digits (c ∷ cs) digits = rw (digit_below_ten c digits.0) (all_digits cs digits.1)

digits_from_numeral : (cs : List ℕ) → 0 < length cs → AllDigits 10 cs → IsDigits cs
digits_from_numeral [] some digits = absurd (omega arith)
digits_from_numeral (c ∷ cs) some digits = (digit_below_ten c digits.0, all_digits cs digits.1)

pub decimal_is_digits : (n : ℕ) → n < 2 ^ 64 → IsDigits (decimal n)
decimal_is_digits n small = let numeral = decimal_is_IsNumeral n small in digits_from_numeral (decimal n) numeral.0.0 numeral.0.1

-- the kind of piece that a token comes from
abbrev pub token_kind : Token → Kind
token_kind (Name n) = Words
token_kind (Int z) = Integers
token_kind (Text t) = Texts
token_kind (Word w) = Words
token_kind (Mark s) = Others

pub means_kind : (cs : List ℕ) (t : Token) → Means cs t → first_kind cs ≡ token_kind t
means_kind cs (Name n) m = words_kind cs m.0
means_kind cs (Word w) m = ap first_kind m ∙ words_kind (keyword_text w) (keyword_is_word w)
means_kind cs (Int z) m = ap first_kind m.1.0 ∙ digits_kind (decimal m.0) (decimal_is_digits m.0 (omega (arith, m.1.1)))
means_kind cs (Text t) m = quoted_kind cs t m.0.0
means_kind cs (Mark s) m = ap first_kind m ∙ symbol_kind s

pub means_same : (cs : List ℕ) (t u : Token) → Means cs t → Means cs u → t ≡ u
means_same cs (Name n) (Name m) h k = ap Name (sym h.3 ∙ k.3)
means_same cs (Name n) (Word w) h k = absurd (h.1 w k)
means_same cs (Word w) (Name n) h k = absurd (k.1 w h)
means_same cs (Word v) (Word w) h k = ap Word (keyword_same v w (sym h ∙ k))
means_same cs (Int y) (Int z) h k =
    let same : h.0 ≡ k.0 = decimal_injective h.0 k.0 (omega (arith, h.1.1)) (omega (arith, k.1.1)) (sym h.1.0 ∙ k.1.0) in
    ap Int (h.1.2 ∙ ap pos same ∙ sym k.1.2)
means_same cs (Mark s) (Mark t) h k = ap Mark (symbol_same s t (sym h ∙ k))
means_same cs (Text t) (Text u) h k = ap Text (quoted_same t u (sym h.0.0 ∙ k.0.0))
means_same cs (Name n) (Int z) h k = let a = means_kind cs (Name n) h in let b = means_kind cs (Int z) k in cc
means_same cs (Name n) (Mark s) h k = let a = means_kind cs (Name n) h in let b = means_kind cs (Mark s) k in cc
means_same cs (Word w) (Int z) h k = let a = means_kind cs (Word w) h in let b = means_kind cs (Int z) k in cc
means_same cs (Word w) (Mark s) h k = let a = means_kind cs (Word w) h in let b = means_kind cs (Mark s) k in cc
means_same cs (Int z) (Name n) h k = let a = means_kind cs (Int z) h in let b = means_kind cs (Name n) k in cc
means_same cs (Int z) (Word w) h k = let a = means_kind cs (Int z) h in let b = means_kind cs (Word w) k in cc
means_same cs (Int z) (Mark s) h k = let a = means_kind cs (Int z) h in let b = means_kind cs (Mark s) k in cc
means_same cs (Mark s) (Name n) h k = let a = means_kind cs (Mark s) h in let b = means_kind cs (Name n) k in cc
means_same cs (Mark s) (Word w) h k = let a = means_kind cs (Mark s) h in let b = means_kind cs (Word w) k in cc
means_same cs (Mark s) (Int z) h k = let a = means_kind cs (Mark s) h in let b = means_kind cs (Int z) k in cc
means_same cs (Text t) (Name n) h k = let a = means_kind cs (Text t) h in let b = means_kind cs (Name n) k in cc
means_same cs (Name n) (Text t) h k = let a = means_kind cs (Name n) h in let b = means_kind cs (Text t) k in cc
means_same cs (Text t) (Int z) h k = let a = means_kind cs (Text t) h in let b = means_kind cs (Int z) k in cc
means_same cs (Int z) (Text t) h k = let a = means_kind cs (Int z) h in let b = means_kind cs (Text t) k in cc
means_same cs (Text t) (Word w) h k = let a = means_kind cs (Text t) h in let b = means_kind cs (Word w) k in cc
means_same cs (Word w) (Text t) h k = let a = means_kind cs (Word w) h in let b = means_kind cs (Text t) k in cc
means_same cs (Text t) (Mark s) h k = let a = means_kind cs (Text t) h in let b = means_kind cs (Mark s) k in cc
means_same cs (Mark s) (Text t) h k = let a = means_kind cs (Mark s) h in let b = means_kind cs (Text t) k in cc
