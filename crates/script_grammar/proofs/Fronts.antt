-- Where a single token is missing.
use Rattle.std.proofs.Common.{◌≡◌, ℕ, List, [], ◌∷◌, ◌++◌, refl, codes}
use Rattle.dyn_value.specs.declared.operator.BinOp.{BinOp}
use Rattle.dyn_value.specs.declared.operator.BinOp.TheVariants as op
use Rattle.script_tokens.specs.declared.token.Keyword.{Keyword}
use Rattle.script_tokens.specs.declared.token.Symbol.{Symbol}
use Rattle.script_tokens.specs.declared.token.Token.{Token}
use Rattle.script_tokens.specs.declared.token.Token.TheVariants as token
use Rattle.script_grammar.specs.Forms.{Tokens, Form, AllPlain, GoesOnAs, IsPlain, Stops, tok}
use Rattle.script_grammar.specs.ExpressionForms.{BeginsNot, name_form, operator_form}
use Rattle.script_grammar.specs.OperatorSymbols.{operator_symbol}

-- no tree's tokens go on as these
pub stops_here : (F : Form) (r : Tokens) (t : F.Tree) → F.May t [] → AllPlain (F.tokens t) →
    ((us : Tokens) → GoesOnAs r us → (a : F.Tree) (post : Tokens) → F.May a post → us ≡ F.tokens a ++ post → ⊥) →
    Stops F r r
stops_here F r t m p none =
    record { taken = []; split = refl; tree = t; more = F.tokens t; begins = refl; proper = m; plain = p; stuck = none }

-- what goes on as r begins as r does
pub first_is : (r us more : Tokens) (t : Token) → GoesOnAs r us → us ≡ t ∷ more → (rest : Tokens) × (r ≡ t ∷ rest)
first_is [] us more t go e = let f : us ≡ [] = go in cc
first_is (s ∷ r) us more t go e = let f = go.1 in (r, cc)

pub no_name : (r : Tokens) → ((n : List ℕ) → BeginsNot (token.Name n) r) → Stops name_form r r
no_name r none = stops_here name_form r (codes "a") tt (refl, tt)
    (λ us go a post m e. let f = first_is r us post (token.Name a) go e in none a f.0 f.1)

no_token : (t : Token) (r : Tokens) → IsPlain t → BeginsNot t r → Stops (tok t) r r
no_token t r plain none = stops_here (tok t) r tt tt (plain, tt)
    (λ us go a post m e. let f = first_is r us post t go e in none f.0 f.1)

pub no_symbol : (k : Symbol) (r : Tokens) → BeginsNot (token.Mark k) r → Stops (tok (token.Mark k)) r r
no_symbol k r none = no_token (token.Mark k) r tt none

pub no_operator : (r : Tokens) →
    ((o : BinOp) → BeginsNot (token.Mark (operator_symbol o)) r) →
    Stops operator_form r r
no_operator r none =
    stops_here operator_form r op.Add tt (tt, tt)
    (λ us go a post m e. let f = first_is r us post (token.Mark (operator_symbol a)) go e in none a f.0 f.1)

pub no_word : (w : Keyword) (r : Tokens) → BeginsNot (token.Word w) r → Stops (tok (token.Word w)) r r
no_word w r none = no_token (token.Word w) r tt none
