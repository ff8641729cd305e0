-- What stands at the front of a text.
use Rattle.std.specs.Prelude.{◌≡◌, ◌≢◌, ℕ, ◌<◌, ◌≤◌, true, false, ◌==◌, List, [], ◌∷◌, ◌++◌, length, take, drop, Option, Some, None, string_bytes}
use Rattle.std.specs.List.{flat_map, list_all}
use Rattle.std.specs.Str.{chars}
use Rattle.std.specs.Char.{is_ascii_digit}
use Rattle.dyn_value.specs.Texts.{escaped}
use Rattle.script_tokens.specs.declared.token.Symbol.{Symbol}
use Rattle.script_tokens.specs.declared.token.Token.{Token}
use Rattle.script_tokens.specs.declared.lexer.front.Front.{Front}
use Rattle.script_tokens.specs.declared.lexer.quoted.Content.{Content}
use Rattle.script_tokens.specs.Words.{symbol_text}
use Rattle.script_tokens.specs.Lexemes.{is_blank, starts_word, stands_in_text, Means, Piece, piece_text, Stands, AreOf}

-- a character that may start a word stands first
abbrev pub BeginsWord : List ℕ → Type 0
BeginsWord [] = ⊥
BeginsWord (c ∷ cs) = starts_word c ≡ true

-- a digit stands first
abbrev pub BeginsDigits : List ℕ → Type 0
BeginsDigits [] = ⊥
BeginsDigits (c ∷ cs) = is_ascii_digit c ≡ true

-- a character stands first that begins no blank, comment, text, word or integer
abbrev pub BeginsOther : List ℕ → Type 0
BeginsOther [] = ⊥
BeginsOther (c ∷ cs) =
    (is_blank c ≡ false) × ((c == 35) ≡ false) × ((c == 34) ≡ false) × (starts_word c ≡ false) × (is_ascii_digit c ≡ false)

-- a quotation mark stands first
abbrev pub BeginsQuoted : List ℕ → Type 0
BeginsQuoted [] = ⊥
BeginsQuoted (c ∷ cs) = c ≡ 34

-- no character of a text stands first, neither itself nor by an escape
abbrev pub BeginsNoCharacter : List ℕ → Type 0
BeginsNoCharacter cs = (c : ℕ) (after : List ℕ) → stands_in_text c ≡ true → cs ≡ escaped c ++ after → ⊥

-- this symbol of two characters stands first
abbrev pub BeginsPair : Symbol → List ℕ → Type 0
BeginsPair s cs = (2 ≤ length cs) × (take 2 cs ≡ symbol_text s)

-- no symbol of two characters stands first
abbrev pub BeginsNoPair : List ℕ → Type 0
BeginsNoPair cs = (s : Symbol) (c : ℕ) (after : List ℕ) → cs ≡ c ∷ 61 ∷ after → symbol_text s ≢ c ∷ 61 ∷ []

-- the lexeme means no token
abbrev pub MeansNothing : List ℕ → Type 0
MeansNothing cs = (t : Token) → Means cs t → ⊥

-- the token, where there is one
abbrev pub tokens_of : Option Token → List Token
tokens_of None = []
tokens_of (Some t) = t ∷ []

-- the text begins with a piece of this length, which is this token or none
pub record IsFront (cs : List ℕ) (front : Front) : Type 0 where
  pub some : 0 < front.length
  pub within : front.length ≤ length cs
  pub piece : Piece
  pub text : cs ≡ piece_text piece ++ drop front.length cs
  pub stands : Stands piece (drop front.length cs)
  pub tokens : AreOf (piece ∷ []) (tokens_of front.token)

-- where a token begins, where there is one
abbrev pub places_of : Option Token → ℕ → List ℕ
places_of None place = []
places_of (Some t) place = place ∷ []

-- what stands after an opening quotation mark: characters that are meant, and a rest at which none stands
pub record IsContent (inside : List ℕ) (content : Content) : Type 0 where
  pub written : inside ≡ flat_map escaped (chars (string_bytes content.characters)) ++ content.rest.now
  pub proper : list_all stands_in_text (chars (string_bytes content.characters)) ≡ true
  pub ends : BeginsNoCharacter content.rest.now
