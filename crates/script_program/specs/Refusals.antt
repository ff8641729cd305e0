-- Why bytes are no script. Of the causes the first that holds is the one.
use Rattle.std.specs.Prelude.{◌≡◌, ℕ, ◌<◌, List, None, Some, length}
use Rattle.script_grammar.specs.declared.tree.Script.{Script}
use Rattle.script_grammar.specs.Refusals.{IsSyntaxPlace}
use Rattle.script_names.specs.Scripts.{first_bad}
use Rattle.script_sites.specs.Limits.{IsTooMany}
use Rattle.script_tokens.specs.declared.lexer.LexRefused.TheVariants as lexer
use Rattle.script_tokens.specs.declared.token.Token.{Token}
use Rattle.script_tokens.specs.Refusals.{IsRefused}
use Rattle.script_program.specs.declared.reading.ReadFault.{ReadFault}
use Rattle.script_program.specs.declared.reading.ReadFault.TheVariants as fault
use Rattle.script_program.specs.declared.reading.ScriptRefused.{ScriptRefused}
use Rattle.script_program.specs.declared.reading.ScriptRefused.TheVariants.{TooLong, NotText, BadToken, TooDeep, Syntax, BadName, TooMany}
use Rattle.script_program.specs.Scripts.{HasTokens, IsShort, Spells}

-- the bytes are refused so
abbrev pub IsRefusedScript : List ℕ → ScriptRefused → Type 0
IsRefusedScript bytes TooLong = 1048576 < length bytes
IsRefusedScript bytes (NotText place) = IsShort bytes × IsRefused bytes (lexer.NotText place)
IsRefusedScript bytes (BadToken place) = IsShort bytes × IsRefused bytes (lexer.BadToken place)
IsRefusedScript bytes (TooDeep i) = IsShort bytes × IsRefused bytes (lexer.TooDeep i)
IsRefusedScript bytes (Syntax i) = IsShort bytes × ((ts : List Token) × (HasTokens bytes ts × IsSyntaxPlace ts i))
IsRefusedScript bytes (BadName i) = (s : Script) × (Spells bytes s × (first_bad s ≡ Some i))
IsRefusedScript bytes (TooMany what) = (s : Script) × (Spells bytes s × (first_bad s ≡ None) × IsTooMany s what)

-- what a fault says of the bytes; want of memory says nothing
abbrev pub IsFaultOf : List ℕ → ReadFault → Type 0
IsFaultOf bytes (fault.Refused refused) = IsRefusedScript bytes refused
IsFaultOf bytes fault.Memory = Unit {0}
