-- The longest symbol at the front of a text.
use Rattle.std.proofs.Common.{◌≡◌, ◌≢◌, ℕ, ◌⊎◌, inl, inr, ⊎_elim, List, [], ◌∷◌, ◌++◌, get_or, drop, refl, sym, ◌∙◌, ap, arith}
use Rattle.std.specs.Prelude.{Some}
use Rattle.script_tokens.specs.declared.token.Symbol.{Symbol}
use Rattle.script_tokens.specs.declared.token.Symbol.TheVariants as mark
use Rattle.script_tokens.specs.declared.token.Token.{Token}
use Rattle.script_tokens.specs.declared.token.Token.TheVariants.{Mark}
use Rattle.script_tokens.specs.Words.{symbol_text}
use Rattle.script_tokens.specs.Lexemes.{IsLexeme, Longest, Piece, piece_text, Stands, AreOf, BeginsNoToken}
use Rattle.script_tokens.specs.Lexemes.IsLexeme.{OfWord, OfDigits, OfText, OfSymbol}
use Rattle.script_tokens.specs.Lexemes.Piece.{Blank, Comment, Lexeme}
use Rattle.script_tokens.specs.TextFronts.{BeginsOther, BeginsPair, BeginsNoPair, IsFront}
use Rattle.script_tokens.proofs.FirstCharacters.{kind_of, first_kind, blank_kind, words_kind, digits_kind, quoted_kind, symbol_kind, other_kind}
use Rattle.script_tokens.proofs.FirstCharacters.Kind.{Others}
use Rattle.script_tokens.proofs.TextFronts.{lexeme_front}

-- after its first character a symbol has nothing or an equals sign
symbol_tail : (s : Symbol) → (drop 1 (symbol_text s) ≡ []) ⊎ (drop 1 (symbol_text s) ≡ 61 ∷ [])
symbol_tail mark.EqualEqual = inr refl
symbol_tail mark.BangEqual = inr refl
symbol_tail mark.LessEqual = inr refl
symbol_tail mark.GreaterEqual = inr refl
symbol_tail mark.OpenParenthesis = inl refl
symbol_tail mark.CloseParenthesis = inl refl
symbol_tail mark.OpenBrace = inl refl
symbol_tail mark.CloseBrace = inl refl
symbol_tail mark.OpenBracket = inl refl
symbol_tail mark.CloseBracket = inl refl
symbol_tail mark.Comma = inl refl
symbol_tail mark.Semicolon = inl refl
symbol_tail mark.Dot = inl refl
symbol_tail mark.Colon = inl refl
symbol_tail mark.Equal = inl refl
symbol_tail mark.Less = inl refl
symbol_tail mark.Greater = inl refl
symbol_tail mark.Plus = inl refl
symbol_tail mark.Minus = inl refl
symbol_tail mark.Star = inl refl
symbol_tail mark.Slash = inl refl
symbol_tail mark.Percent = inl refl
symbol_tail mark.Ampersand = inl refl
symbol_tail mark.Bar = inl refl
symbol_tail mark.Bang = inl refl

-- the symbol of its first character alone
short : Symbol → Symbol
short mark.EqualEqual = mark.Equal
short mark.BangEqual = mark.Bang
short mark.LessEqual = mark.Less
short mark.GreaterEqual = mark.Greater
short s = s

short_text : (s : Symbol) → symbol_text (short s) ≡ get_or (symbol_text s) 0 0 ∷ []
unfolding short
short_text mark.EqualEqual = refl
short_text mark.BangEqual = refl
short_text mark.LessEqual = refl
short_text mark.GreaterEqual = refl
short_text mark.OpenParenthesis = refl
short_text mark.CloseParenthesis = refl
short_text mark.OpenBrace = refl
short_text mark.CloseBrace = refl
short_text mark.OpenBracket = refl
short_text mark.CloseBracket = refl
short_text mark.Comma = refl
short_text mark.Semicolon = refl
short_text mark.Dot = refl
short_text mark.Colon = refl
short_text mark.Equal = refl
short_text mark.Less = refl
short_text mark.Greater = refl
short_text mark.Plus = refl
short_text mark.Minus = refl
short_text mark.Star = refl
short_text mark.Slash = refl
short_text mark.Percent = refl
short_text mark.Ampersand = refl
short_text mark.Bar = refl
short_text mark.Bang = refl

symbol_longest : (s : Symbol) (c : ℕ) (cs rest : List ℕ) → c ∷ cs ≡ symbol_text s
    → ((t : Symbol) (more after : List ℕ) → rest ≡ more ++ after → c ∷ (cs ++ more) ≡ symbol_text t → more ≡ []) → Longest (c ∷ cs) rest
symbol_longest s c cs rest is longest =
    let kind : kind_of c ≡ Others = ap first_kind is ∙ symbol_kind s in
    let no_longer : (more after : List ℕ) → rest ≡ more ++ after → IsLexeme (c ∷ (cs ++ more)) → more ≡ []
    = λ more after e lexeme. elim lexeme as (λ _. more ≡ []) [
      | OfWord w ↦ let other = words_kind (c ∷ (cs ++ more)) w in cc
      | OfDigits d ↦ let other = digits_kind (c ∷ (cs ++ more)) d in cc
      | OfText text q ↦ let other = quoted_kind (c ∷ (cs ++ more)) text q.0 in cc
      | OfSymbol t f ↦ longest t more after e f
    ] in
    record { lexeme = OfSymbol s is; longest = no_longer }

-- no symbol is longer than one of two characters
pair_longest : (s : Symbol) (c d : ℕ) (rest : List ℕ) → c ∷ d ∷ [] ≡ symbol_text s → Longest (c ∷ d ∷ []) rest
pair_longest s c d rest is = symbol_longest s c (d ∷ []) rest is (λ t more after e f.
    let tail : d ∷ more ≡ drop 1 (symbol_text t) = ap (drop 1) f in
    ⊎_elim (λ none. cc) (λ equal. cc) (symbol_tail t))

pub pair_front : (cs : List ℕ) (s : Symbol) → BeginsPair s cs → IsFront cs (record { length = 2; token = Some (Mark s) })
pair_front [] s pair = absurd (omega (arith, pair.0))
pair_front (c ∷ []) s pair = absurd (omega (arith, pair.0))
pair_front (c ∷ d ∷ cs) s pair = lexeme_front (c ∷ d ∷ cs) 2 (Mark s) (omega arith) pair.0 (pair_longest s c d cs pair.1) pair.1

pub single_front : (cs : List ℕ) (x : ℕ) (s : Symbol) → BeginsOther cs → BeginsNoPair cs → x ≡ get_or cs 0 x → symbol_text s ≡ x ∷ []
    → IsFront cs (record { length = 1; token = Some (Mark s) })
single_front [] x s other pair first alone = absurd other
single_front (c ∷ cs) x s other pair first alone =
    let is : symbol_text s ≡ c ∷ [] = alone ∙ ap (λ y. y ∷ []) first in
    lexeme_front (c ∷ cs) 1 (Mark s) (omega arith) (omega arith)
    (symbol_longest s c [] cs (sym is) (λ t more after e f.
    let tail : more ≡ drop 1 (symbol_text t) = ap (drop 1) f in
    ⊎_elim
    (λ none. tail ∙ none)
    (λ equal. let longer : more ≡ 61 ∷ [] = tail ∙ equal in
    absurd (pair t c after (ap (λ x. c ∷ x) (e ∙ ap (λ x. x ++ after) longer)) (sym f ∙ ap (λ x. c ∷ x) longer)))
    (symbol_tail t)))
    (sym is)

pub no_symbol : (cs : List ℕ) (x : ℕ) → BeginsOther cs → x ≡ get_or cs 0 x → ((s : Symbol) → symbol_text s ≢ x ∷ []) → BeginsNoToken cs
no_symbol [] x other is alone = absurd other
no_symbol (c ∷ cs) x other is alone = record { more = λ e. cc; none = none }
  where
    kind : kind_of c ≡ Others
    kind = other_kind c other.0 other.1 other.2 other.3 other.4

    lexeme_none : (ds after : List ℕ) → c ∷ cs ≡ ds ++ after → IsLexeme ds → ⊥
    lexeme_none [] after e (OfWord w) = w
    lexeme_none [] after e (OfDigits d) = d
    lexeme_none [] after e (OfText text q) = let k = quoted_kind [] text q.0 in cc
    lexeme_none [] after e (OfSymbol s is) = let k = ap first_kind is ∙ symbol_kind s in cc
    lexeme_none (d ∷ ds) after e (OfWord w) = let first : c ≡ d = cc in let k = words_kind (d ∷ ds) w in let l = ap kind_of first in cc
    lexeme_none (d ∷ ds) after e (OfDigits g) = let first : c ≡ d = cc in let k = digits_kind (d ∷ ds) g in let l = ap kind_of first in cc
    lexeme_none (d ∷ ds) after e (OfText text q) = let first : c ≡ d = cc in let k = quoted_kind (d ∷ ds) text q.0 in let l = ap kind_of first in cc
    lexeme_none (d ∷ ds) after e (OfSymbol s text) =
        let first : d ≡ c = cc in
        alone (short s) (short_text s ∙ ap (λ y. get_or y 0 0 ∷ []) (sym text) ∙ ap (λ y. y ∷ []) (first ∙ sym is))

    none : (p : Piece) (after : List ℕ) (ts : List Token) → c ∷ cs ≡ piece_text p ++ after → Stands p after → AreOf (p ∷ []) ts → ⊥
    none (Blank d) after ts e stands of = let first : c ≡ d = cc in let k = blank_kind d stands in let l = ap kind_of first in cc
    none (Comment body) after ts e stands of = let first : c ≡ 35 = cc in let l = ap kind_of first in cc
    none (Lexeme ds) after ts e stands of = lexeme_none ds after e stands.lexeme
