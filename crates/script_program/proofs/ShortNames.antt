-- The names of a text's tokens are short.
use Rattle.std.proofs.Common.{◌≡◌, ◌≤◌, ℕ, true, List, [], ◌∷◌, ◌++◌, length, refl, sym, ap, ◌∙◌, subst, arith}
use Rattle.std.specs.Prelude.{nat_le, encode_utf8_all}
use Rattle.std.specs.List.{list_all}
use Rattle.std.proofs.Math.Utf8.{scalar, scalars}
use Rattle.std.proofs.lemmas.Bool.{and_from, and_parts}
use Rattle.std.proofs.lemmas.Bool.Decides.{nat_tests}
use Rattle.std.proofs.lemmas.Str.{scalars-chars}
use Rattle.script_tokens.specs.declared.token.Token.{Token}
use Rattle.script_tokens.specs.declared.token.Token.TheVariants.{Name}
use Rattle.script_tokens.specs.Lexemes.{AreOf, Means, Piece, Blank, Comment, Lexeme, piece_text, row_text}
use Rattle.script_grammar.specs.declared.tree.Script.{Script}
use Rattle.script_grammar.specs.Spelling.{Tokens, spell}
use Rattle.script_sites.specs.Sites.{site_binders}
use Rattle.script_program.specs.Names.{has_short_names, is_short_name}
use Rattle.script_program.specs.Scripts.{HasTokens}
use Rattle.script_program.proofs.Carried.{AreShort, is_short}
use Rattle.script_program.proofs.CarriedStatements.{script_carries}

few : (n : ℕ) → n ≤ 64 → nat_le n 64 ≡ true
few n h = grind (arith, nat_tests)

scalars_parts : (cs ds : List ℕ) → scalars (cs ++ ds) ≡ true → (scalars cs ≡ true) × (scalars ds ≡ true)
scalars_parts [] ds all = (refl, all)
scalars_parts (c ∷ cs) ds all =
    let p = and_parts (scalar c) (scalars (cs ++ ds)) all in
    let q = scalars_parts cs ds p.1 in
    (and_from (scalar c) (scalars cs) p.0 q.0, q.1)

means_short : (cs : List ℕ) (t : Token) → scalars cs ≡ true → Means cs t → is_short t ≡ true
means_short cs (Name n) all means =
    subst (λ (name : List ℕ). is_short_name name ≡ true) means.3 (and_from (scalars cs) (nat_le (length (encode_utf8_all cs)) 64) all (few (length (encode_utf8_all cs)) means.2))
means_short cs _ all means = refl

row_short : (ps : List Piece) (ts : Tokens) → scalars (row_text ps) ≡ true → AreOf ps ts → AreShort ts
row_short [] ts all are = ap (list_all is_short) are
row_short (Blank c ∷ ps) ts all are = row_short ps ts (scalars_parts (piece_text (Blank c)) (row_text ps) all).1 are
row_short (Comment body ∷ ps) ts all are = row_short ps ts (scalars_parts (piece_text (Comment body)) (row_text ps) all).1 are
row_short (Lexeme cs ∷ ps) [] all are = absurd are
row_short (Lexeme cs ∷ ps) (t ∷ ts) all are =
    let p = scalars_parts cs (row_text ps) all in
    and_from (is_short t) (list_all is_short ts) (means_short cs t p.0 are.0) (row_short ps ts p.1 are.1)

tokens_short : (bytes : List ℕ) (ts : Tokens) → HasTokens bytes ts → AreShort ts
tokens_short bytes ts has =
    let tokens = has.1.tokens.tokens in
    row_short tokens.row ts (ap scalars (sym tokens.text) ∙ scalars-chars bytes has.1.text) tokens.tokens

-- the binders of a script that is read carry short names
pub short_names : (bytes : List ℕ) (s : Script) → HasTokens bytes (spell s) → list_all has_short_names (site_binders s) ≡ true
short_names bytes s has = (script_carries s).short (tokens_short bytes (spell s) has)
