-- The line of a refusal, in characters.
use Rattle.std.specs.Prelude.{ℕ, List, ◌++◌, Option, IfSome, codes, encode_utf8_all}
use Rattle.std.specs.Fmt.{decimal}
use Rattle.script_program.specs.declared.reading.ScriptRefused.{ScriptRefused}
use Rattle.script_program.specs.declared.reading.ScriptRefused.TheVariants.{TooLong, NotText, BadToken, TooDeep, Syntax, BadName, TooMany}
use Rattle.script_program.specs.Refusals.{IsRefusedScript}
use Rattle.script_sites.specs.declared.limits.What.{What}
use Rattle.script_sites.specs.declared.limits.What.TheVariants as what
use Rattle.dlr_top.specs.Headline.{Announced}

-- what there are too many of
abbrev pub what_text : What → List ℕ
what_text what.Shared = codes "shared"
what_text what.Functions = codes "functions"
what_text what.Tasks = codes "tasks"
what_text what.Parameters = codes "parameters"
what_text what.Arguments = codes "arguments"
what_text what.Locals = codes "locals"
what_text what.Sites = codes "sites"
what_text what.Binders = codes "binders"

-- the cause, with its place
abbrev pub cause_text : ScriptRefused → List ℕ
cause_text TooLong = codes "TooLong"
cause_text (NotText byte) = codes "NotText " ++ decimal byte
cause_text (BadToken byte) = codes "BadToken " ++ decimal byte
cause_text (TooDeep token) = codes "TooDeep " ++ decimal token
cause_text (Syntax token) = codes "Syntax " ++ decimal token
cause_text (BadName token) = codes "BadName " ++ decimal token
cause_text (TooMany what) = codes "TooMany " ++ what_text what

-- the refusal line
abbrev pub refusal_text : ScriptRefused → List ℕ
refusal_text cause = codes "refused: " ++ cause_text cause ++ codes "\n"

-- The bytes that the source held are refused for one cause, and its line was written, or a front of it where the sink
-- failed.
pub record Refused (held before after : Option (List ℕ)) (was is : ℕ) : Type 0 where
  pub cause : ScriptRefused
  pub found : IfSome held (λ bytes. IsRefusedScript bytes cause)
  pub announced : Announced before after was is (encode_utf8_all (refusal_text cause))
