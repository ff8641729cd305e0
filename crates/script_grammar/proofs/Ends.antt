-- What may follow an expression, and what completes one that is missing.
use Rattle.std.proofs.Common.{◌≡◌, Bool, true, false, [], ◌∷◌, refl, ap, sym, ◌∙◌}
use Rattle.script_tokens.specs.declared.token.Keyword.{Keyword}
use Rattle.script_tokens.specs.declared.token.Symbol.{Symbol}
use Rattle.script_tokens.specs.declared.token.Symbol.TheVariants as mark
use Rattle.script_tokens.specs.declared.token.Token.TheVariants.{Mark, Word}
use Rattle.script_grammar.specs.declared.parser.tokens.SuffixStart.{SuffixStart}
use Rattle.script_grammar.specs.declared.parser.tokens.SuffixStart.TheVariants as start
use Rattle.script_grammar.specs.Forms.{Tokens, GoesOnAs}
use Rattle.script_grammar.specs.ExpressionForms.{NoSuffix, start_symbol}
use Rattle.script_grammar.proofs.Fronts.{first_is}

-- the symbol begins a suffix
abbrev pub is_start : Symbol → Bool
is_start mark.Dot = true
is_start mark.OpenBracket = true
is_start mark.OpenParenthesis = true
is_start _ = false

is_start-start_symbol : (s : SuffixStart) → is_start (start_symbol s) ≡ true
is_start-start_symbol start.Dot = refl
is_start-start_symbol start.Bracket = refl
is_start-start_symbol start.Parenthesis = refl

-- a symbol that begins no suffix ends an expression
pub apart : (k : Symbol) → is_start k ≡ false → (post : Tokens) → NoSuffix (Mark k ∷ post)
apart k is post s rest e =
    let same : k ≡ start_symbol s = cc in
    let wrong : true ≡ false = sym (is_start-start_symbol s) ∙ ap is_start (sym same) ∙ is in
    cc

-- so does a word
pub word_apart : (w : Keyword) (post : Tokens) → NoSuffix (Word w ∷ post)
word_apart w post s rest e = cc

-- and the end
pub end_apart : NoSuffix []
end_apart s rest e = cc

-- what follows counts by its first token
pub no_suffix_local : (x y : Tokens) → GoesOnAs x y → NoSuffix x → NoSuffix y
no_suffix_local x y go m s rest e = let f = first_is x y rest (Mark (start_symbol s)) go e in m s f.0 f.1
