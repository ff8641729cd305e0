-- The tokens of bytes, and why bytes have none. Of the causes the first that holds is the one: the bytes are no
-- UTF-8, something in the text is no token, brackets stand too deep.
use Rattle.std.specs.Prelude.{◌≡◌, ℕ, suc, List, ◌++◌, take, IsUtf8}
use Rattle.std.specs.Str.{IsValidUpTo, chars}
use Rattle.script_tokens.specs.declared.lexer.LexFault.{LexFault}
use Rattle.script_tokens.specs.declared.lexer.LexFault.TheVariants as fault
use Rattle.script_tokens.specs.declared.lexer.LexRefused.{LexRefused}
use Rattle.script_tokens.specs.declared.lexer.LexRefused.TheVariants.{NotText, BadToken, TooDeep}
use Rattle.script_tokens.specs.declared.token.Token.{Token}
use Rattle.script_tokens.specs.Lexemes.{Piece, row_text, byte_count, IsRow, AreOf, AreTokens, AreTokensAt, BeginsNoToken}
use Rattle.script_tokens.specs.Shallow.{IsShallow}

-- these are the tokens of the bytes, and the bytes at which they begin
pub record AreTokensOf (bytes : List ℕ) (ts : List Token) (places : List ℕ) : Type 0 where
  pub text : IsUtf8 bytes
  pub tokens : AreTokensAt (chars bytes) ts places
  pub shallow : IsShallow 0 ts

-- up to this byte the text is blanks, comments and tokens, and there the first thing stands that is none
pub record IsBadAt (cs : List ℕ) (place : ℕ) : Type 0 where
  pub row : List Piece
  pub taken : List Token
  pub rest : List ℕ
  pub text : cs ≡ row_text row ++ rest
  pub stands : IsRow row rest
  pub tokens : AreOf row taken
  pub begins : place ≡ byte_count (row_text row)
  pub bad : BeginsNoToken rest

-- this token is the first opening bracket at which more than 128 brackets stand open
pub record IsTooDeepAt (ts : List Token) (number : ℕ) : Type 0 where
  pub before : IsShallow 0 (take number ts)
  pub here : IsShallow 0 (take (suc number) ts) → ⊥

-- the bytes are refused so
abbrev pub IsRefused : List ℕ → LexRefused → Type 0
IsRefused bytes (NotText place) = IsValidUpTo bytes place
IsRefused bytes (BadToken place) = IsUtf8 bytes × IsBadAt (chars bytes) place
IsRefused bytes (TooDeep number) =
    IsUtf8 bytes × ((ts : List Token) × (AreTokens (chars bytes) ts × IsTooDeepAt ts number))

-- the bytes are no text of which anything is the tokens
abbrev pub HasNoTokens : List ℕ → Type 0
HasNoTokens bytes = (ts : List Token) (places : List ℕ) → IsUtf8 bytes → AreTokensAt (chars bytes) ts places → ⊥

-- what a fault says of the bytes; want of memory says nothing
abbrev pub Faults : List ℕ → LexFault → Type 0
Faults bytes (fault.Refused refused) = IsRefused bytes refused
Faults bytes fault.Memory = Unit {0}

-- the fault where brackets may stand as deep as they do: the bytes are refused so, and have no tokens at all
abbrev pub FaultsAtAnyDepth : List ℕ → LexFault → Type 0
FaultsAtAnyDepth bytes (fault.Refused refused) = IsRefused bytes refused × HasNoTokens bytes
FaultsAtAnyDepth bytes fault.Memory = Unit {0}
