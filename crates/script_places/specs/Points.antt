-- The place at which a refusal points.
use Rattle.std.specs.Prelude.{◌≡◌, ℕ, ◌<◌, List, [], ◌∷◌, ◌++◌, length, take, slice_index, IsUtf8}
use Rattle.std.specs.Str.{IsValidUpTo, chars}
use Rattle.script_tokens.specs.declared.token.Token.{Token}
use Rattle.script_tokens.specs.Lexemes.{AreTokensAt}
use Rattle.script_places.specs.declared.refusal.Refusal.{Refusal}
use Rattle.script_places.specs.declared.refusal.Refusal.TheVariants.{NotText, BadToken, TooDeep, Syntax, BadName}

-- the bytes are a text, whose tokens begin at these bytes
pub record HasTokensAt (bytes places : List ℕ) : Type 0 where
  pub text : IsUtf8 bytes
  pub tokens : List Token
  pub begin : AreTokensAt (chars bytes) tokens places

-- the bytes are a text, and one of its characters begins at this byte
pub record HasCharacterAt (bytes : List ℕ) (place : ℕ) : Type 0 where
  pub text : IsUtf8 bytes
  pub within : place < length bytes
  pub front : IsUtf8 (take place bytes)

-- of these places the one with this number
abbrev pub IsNumbered : List ℕ → ℕ → ℕ → Type 0
IsNumbered places number place = (number < length places) × (place ≡ slice_index places number)

-- the token of this number begins at this byte
abbrev pub IsTokenAt : List ℕ → ℕ → ℕ → Type 0
IsTokenAt bytes number place = (places : List ℕ) × (HasTokensAt bytes places × IsNumbered places number place)

-- the same, where the end is one token more
abbrev pub IsTokenOrEndAt : List ℕ → ℕ → ℕ → Type 0
IsTokenOrEndAt bytes number place =
    (places : List ℕ) × (HasTokensAt bytes places × IsNumbered (places ++ length bytes ∷ []) number place)

-- the refusal points at this byte of the script: the one that it names, or where the token begins that it names
abbrev pub PointsAt : List ℕ → Refusal → ℕ → Type 0
PointsAt bytes (NotText number) place = (place ≡ number) × IsValidUpTo bytes number
PointsAt bytes (BadToken number) place = (place ≡ number) × HasCharacterAt bytes number
PointsAt bytes (TooDeep number) place = IsTokenAt bytes number place
PointsAt bytes (Syntax number) place = IsTokenOrEndAt bytes number place
PointsAt bytes (BadName number) place = IsTokenAt bytes number place
