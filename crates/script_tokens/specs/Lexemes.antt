-- The tokens of a text: it is a row of blanks, comments and lexemes, each lexeme the longest that stands at
-- its place, and each lexeme means one token. All is said in characters.
use Rattle.std.specs.Prelude.{◌≡◌, ◌≢◌, ℕ, ◌+◌, ◌^◌, ◌<◌, ◌≤◌, Bool, true, nat_le, ◌==◌, ◌||◌, List, [], ◌∷◌, ◌++◌, length, pos, encode_utf8_all}
use Rattle.std.specs.List.{list_all, flat_map}
use Rattle.std.specs.Char.{is_ascii_digit}
use Rattle.std.specs.Fmt.{decimal}
use Rattle.dyn_value.specs.Texts.{quoted_text}
use Rattle.unicode_ident.specs.Ident.{is_xid_start, is_xid_continue}
use Rattle.script_tokens.specs.declared.token.Keyword.{Keyword}
use Rattle.script_tokens.specs.declared.token.Symbol.{Symbol}
use Rattle.script_tokens.specs.declared.token.Token.{Token}
use Rattle.script_tokens.specs.declared.token.Token.TheVariants.{Name, Int, Text, Word, Mark}
use Rattle.script_tokens.specs.Words.{keyword_text, symbol_text}

-- a space, a tab, a line feed or a carriage return
abbrev pub is_blank : ℕ → Bool
is_blank c = (c == 32) || (c == 9) || (c == 10) || (c == 13)

abbrev pub starts_word : ℕ → Bool
starts_word c = is_xid_start c || (c == 95)

-- a character that may start a word, and then characters that may continue one
abbrev pub IsWord : List ℕ → Type 0
IsWord [] = ⊥
IsWord (c ∷ cs) = (starts_word c ≡ true) × (list_all is_xid_continue cs ≡ true)

-- one digit or more
abbrev pub IsDigits : List ℕ → Type 0
IsDigits [] = ⊥
IsDigits (c ∷ cs) = (is_ascii_digit c ≡ true) × (list_all is_ascii_digit cs ≡ true)

-- a character that a text can mean: the line feed, the tab, and all from the space on
abbrev pub stands_in_text : ℕ → Bool
stands_in_text c = nat_le 32 c || (c == 10) || (c == 9)

-- this text between quotation marks: the quotation mark, the backslash, the line feed and the tab by their escapes
abbrev pub IsQuoted : List ℕ → List ℕ → Type 0
IsQuoted cs text = (cs ≡ quoted_text text) × (list_all stands_in_text text ≡ true)

-- characters that belong together
pub data IsLexeme (cs : List ℕ) : Type 0 where
  OfWord : IsWord cs → IsLexeme cs
  OfDigits : IsDigits cs → IsLexeme cs
  OfText : (text : List ℕ) → IsQuoted cs text → IsLexeme cs
  OfSymbol : (s : Symbol) → cs ≡ symbol_text s → IsLexeme cs

-- the front is a lexeme, and no longer one stands there before this rest
pub record Longest (front rest : List ℕ) : Type 0 where
  pub lexeme : IsLexeme front
  pub longest : (more after : List ℕ) → rest ≡ more ++ after → IsLexeme (front ++ more) → more ≡ []

-- how many bytes the characters have
abbrev pub byte_count : List ℕ → ℕ
byte_count cs = length (encode_utf8_all cs)

-- the token that a lexeme means
abbrev pub Means : List ℕ → Token → Type 0
Means cs (Name n) = IsWord cs × ((w : Keyword) → cs ≢ keyword_text w) × (byte_count cs ≤ 64) × (cs ≡ n)
Means cs (Word w) = cs ≡ keyword_text w
Means cs (Int z) = (n : ℕ) × ((cs ≡ decimal n) × (n < 2 ^ 63) × (z ≡ pos n))
Means cs (Text t) = IsQuoted cs t × (byte_count t ≤ 65536)
Means cs (Mark s) = cs ≡ symbol_text s

pub data Piece : Type 0 where
  Blank : (c : ℕ) → Piece
  Comment : (body : List ℕ) → Piece
  Lexeme : (cs : List ℕ) → Piece

abbrev pub piece_text : Piece → List ℕ
piece_text (Blank c) = c ∷ []
piece_text (Comment body) = 35 ∷ body
piece_text (Lexeme cs) = cs

abbrev pub row_text : List Piece → List ℕ
row_text ps = flat_map piece_text ps

abbrev pub EndsLine : List ℕ → Type 0
EndsLine [] = Unit {0}
EndsLine (c ∷ cs) = c ≡ 10

abbrev pub HasNoLineFeed : List ℕ → Type 0
HasNoLineFeed [] = Unit {0}
HasNoLineFeed (c ∷ cs) = (c ≢ 10) × HasNoLineFeed cs

-- the piece may stand before this rest
abbrev pub Stands : Piece → List ℕ → Type 0
Stands (Blank c) rest = is_blank c ≡ true
Stands (Comment body) rest = HasNoLineFeed body × EndsLine rest
Stands (Lexeme cs) rest = Longest cs rest

-- the pieces stand one after the other, and then this rest
abbrev pub IsRow : List Piece → List ℕ → Type 0
IsRow [] rest = Unit {0}
IsRow (p ∷ ps) rest = Stands p (row_text ps ++ rest) × IsRow ps rest

-- the lexemes of the row mean these tokens
abbrev pub AreOf : List Piece → List Token → Type 0
AreOf [] ts = ts ≡ []
AreOf (Blank c ∷ ps) ts = AreOf ps ts
AreOf (Comment body ∷ ps) ts = AreOf ps ts
AreOf (Lexeme cs ∷ ps) [] = ⊥
AreOf (Lexeme cs ∷ ps) (t ∷ ts) = Means cs t × AreOf ps ts

-- the byte at which each lexeme of the row begins, where so many bytes stand before the row
abbrev pub places_from : ℕ → List Piece → List ℕ
places_from at [] = []
places_from at (Blank c ∷ ps) = places_from (at + byte_count (piece_text (Blank c))) ps
places_from at (Comment body ∷ ps) = places_from (at + byte_count (piece_text (Comment body))) ps
places_from at (Lexeme cs ∷ ps) = at ∷ places_from (at + byte_count cs) ps

-- these are the tokens of the text
pub record AreTokens (cs : List ℕ) (ts : List Token) : Type 0 where
  pub row : List Piece
  pub text : cs ≡ row_text row
  pub stands : IsRow row []
  pub tokens : AreOf row ts

-- these are the tokens of the text, and the bytes at which they begin
pub record AreTokensAt (cs : List ℕ) (ts : List Token) (places : List ℕ) : Type 0 where
  pub tokens : AreTokens cs ts
  pub begin : places ≡ places_from 0 tokens.row

-- what stands here is no blank, no comment and no lexeme that means a token
pub record BeginsNoToken (rest : List ℕ) : Type 0 where
  pub more : rest ≢ []
  pub none : (p : Piece) (after : List ℕ) (ts : List Token) → rest ≡ piece_text p ++ after → Stands p after → AreOf (p ∷ []) ts → ⊥
