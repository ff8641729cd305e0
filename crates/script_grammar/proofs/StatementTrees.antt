-- Statements and blocks, layer by layer: what they are spelled as, and where they can be written.
use Rattle.std.proofs.Common.{◌≡◌, Bool, true, ◌&&◌, List, [], ◌∷◌, ◌++◌, map, refl, sym, ap, ◌∙◌}
use Rattle.std.specs.List.{list_all}
use Rattle.std.proofs.lemmas.List.Folds.{flat_map-map}
use Rattle.script_tokens.specs.declared.token.Keyword.TheVariants as word
use Rattle.script_tokens.specs.declared.token.Symbol.TheVariants as mark
use Rattle.script_tokens.specs.declared.token.Token.TheVariants.{Mark, Word}
use Rattle.script_grammar.specs.declared.tree.Block.{Block}
use Rattle.script_grammar.specs.declared.tree.Stmt.{Stmt}
use Rattle.script_grammar.specs.declared.tree.Stmt.TheFolds.{fold-roll-Stmt, fold_out-Stmt, fold-roll-Block, map-Stmt}
use Rattle.script_grammar.specs.declared.tree.Stmt.TheOpen.{Stmt-F}
use Rattle.script_grammar.specs.declared.tree.Stmt.TheViews.{out-Stmt, roll-Stmt, out-roll-Stmt, roll-out-Stmt}
use Rattle.script_grammar.specs.ExpressionForms.{BeginsNot}
use Rattle.script_grammar.specs.Forms.{Tokens, Form}
use Rattle.script_grammar.specs.Spelling.{spell_stmt, spell_block, stmt_spelling, block_spelling}
use Rattle.script_grammar.specs.StatementForms.{stmt_form, stmts_form, takes_else}
use Rattle.script_grammar.specs.WrittenStatements.{is_written_stmt, is_written_block, stmt_writing, block_writing}
use Rattle.script_grammar.proofs.Items.{At, branch}

-- what a statement is made of
abbrev pub Layer : Type 0
Layer = Stmt-F Stmt Block

abbrev pub layer_tokens : Layer → Tokens
layer_tokens x = stmt_spelling (map-Stmt Stmt Block Tokens Tokens spell_stmt spell_block x)

abbrev pub layer_writing : Layer → Bool
layer_writing x = stmt_writing (map-Stmt Stmt Block Bool Bool is_written_stmt is_written_block x)

-- a statement by what it is made of
abbrev pub layer_form : Form
layer_form = record {
  Tree = Layer;
  tokens = layer_tokens;
  May = λ x post. (layer_writing x ≡ true) × (takes_else x ≡ true → BeginsNot (Word word.Else) post);
}

pub layer-spelling : (x : Layer) → spell_stmt (roll-Stmt x) ≡ layer_tokens x
layer-spelling x = fold-roll-Stmt Tokens Tokens stmt_spelling block_spelling x

pub stmt-spelling : (s : Stmt) → spell_stmt s ≡ layer_tokens (out-Stmt s)
stmt-spelling s = fold_out-Stmt Tokens Tokens stmt_spelling block_spelling s

pub layer-writing : (x : Layer) → is_written_stmt (roll-Stmt x) ≡ layer_writing x
layer-writing x = fold-roll-Stmt Bool Bool stmt_writing block_writing x

pub stmt-writing : (s : Stmt) → is_written_stmt s ≡ layer_writing (out-Stmt s)
stmt-writing s = fold_out-Stmt Bool Bool stmt_writing block_writing s

pub layer_may : (s : Stmt) (post : Tokens) → stmt_form.May s post → layer_form.May (out-Stmt s) post
layer_may s post m = (sym (stmt-writing s) ∙ m.0, m.1)

pub stmt_may : (x : Layer) (post : Tokens) → layer_form.May x post → stmt_form.May (roll-Stmt x) post
stmt_may x post m = (layer-writing x ∙ m.0, λ takes. m.1 (sym (ap takes_else (out-roll-Stmt x)) ∙ takes))

-- to read a statement is to read what it is made of
pub stmt_0 : (r : Tokens) → At stmt_form r layer_form r roll-Stmt
stmt_0 r = branch stmt_form layer_form r roll-Stmt
    (λ b post m. layer-spelling b)
    stmt_may
    (λ us go a post m e. (out-Stmt a, (sym (roll-out-Stmt a), layer_may a post m)))

-- Blocks.

abbrev pub braces : List Stmt → Block
braces ss = record { 0 = ss }

pub block-spelling : (ss : List Stmt) → spell_block (braces ss) ≡ Mark mark.OpenBrace ∷ stmts_form.tokens ss
block-spelling ss =
    fold-roll-Block Tokens Tokens stmt_spelling block_spelling (record { 0 = ss })
    ∙ ap (λ z. Mark mark.OpenBrace ∷ z ++ Mark mark.CloseBrace ∷ []) (flat_map-map (λ ts. ts) spell_stmt ss)

pub block-writing : (ss : List Stmt) → is_written_block (braces ss) ≡ list_all is_written_stmt ss
block-writing ss = fold-roll-Block Bool Bool stmt_writing block_writing (record { 0 = ss }) ∙ each ss
  where
    each : (ss : List Stmt) → list_all (λ w. w) (map is_written_stmt ss) ≡ list_all is_written_stmt ss
    each [] = refl
    each (s ∷ ss) = ap (λ z. is_written_stmt s && z) (each ss)
