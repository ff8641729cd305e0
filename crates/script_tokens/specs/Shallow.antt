-- How deep brackets stand in a list of tokens.
use Rattle.std.specs.Prelude.{ℕ, suc, ◌-◌, ◌<◌, List, [], ◌∷◌}
use Rattle.script_tokens.specs.declared.token.Symbol.TheVariants as mark
use Rattle.script_tokens.specs.declared.token.Token.{Token}
use Rattle.script_tokens.specs.declared.token.Token.TheVariants.{Mark}

-- With so many brackets open before them, none of the tokens is an opening bracket at which more than 128
-- stand open. A closing bracket of any form closes the last open one, and changes nothing where none is.
abbrev pub IsShallow : ℕ → List Token → Type 0
IsShallow open_brackets [] = Unit {0}
IsShallow open_brackets (Mark mark.OpenParenthesis ∷ ts) = (open_brackets < 128) × IsShallow (suc open_brackets) ts
IsShallow open_brackets (Mark mark.OpenBrace ∷ ts) = (open_brackets < 128) × IsShallow (suc open_brackets) ts
IsShallow open_brackets (Mark mark.OpenBracket ∷ ts) = (open_brackets < 128) × IsShallow (suc open_brackets) ts
IsShallow open_brackets (Mark mark.CloseParenthesis ∷ ts) = IsShallow (open_brackets - 1) ts
IsShallow open_brackets (Mark mark.CloseBrace ∷ ts) = IsShallow (open_brackets - 1) ts
IsShallow open_brackets (Mark mark.CloseBracket ∷ ts) = IsShallow (open_brackets - 1) ts
IsShallow open_brackets (_ ∷ ts) = IsShallow open_brackets ts
