-- What a script is.
use Rattle.std.specs.Prelude.{◌≡◌, ℕ, ◌≤◌, true, List, None, length}
use Rattle.script_grammar.specs.declared.tree.Script.{Script}
use Rattle.script_grammar.specs.Spelling.{spell}
use Rattle.script_grammar.specs.WrittenStatements.{is_written}
use Rattle.script_names.specs.Scripts.{first_bad}
use Rattle.script_sites.specs.Limits.{IsWithinLimits}
use Rattle.script_tokens.specs.declared.token.Token.{Token}
use Rattle.script_tokens.specs.Refusals.{AreTokensOf}

abbrev pub IsShort : List ℕ → Type 0
IsShort bytes = length bytes ≤ 1048576

-- these are the tokens of the bytes, wherever they begin
abbrev pub HasTokens : List ℕ → List Token → Type 0
HasTokens bytes ts = (places : List ℕ) × AreTokensOf bytes ts places

-- the bytes are not too long, and their tokens spell this tree, which can be written
pub record Spells (bytes : List ℕ) (script : Script) : Type 0 where
  pub short : IsShort bytes
  pub tokens : HasTokens bytes (spell script)
  pub written : is_written script ≡ true

-- the bytes are this script: its names keep the rules, and it is within all limits
pub record IsScript (bytes : List ℕ) (script : Script) : Type 0 where
  pub spelled : Spells bytes script
  pub named : first_bad script ≡ None
  pub limits : IsWithinLimits script
