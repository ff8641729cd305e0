-- The judged tokens of statements agree with their spelling and their sites.
use Rattle.std.proofs.Common.{◌≡◌, ℕ, Bool, true, false, not, List, [], ◌∷◌, ◌++◌, Option, None, Some, map, refl, ap, subst}
use Rattle.std.specs.List.{flat_map}
use Rattle.script_tokens.specs.declared.token.Token.TheVariants.{Name, Word, Mark}
use Rattle.script_tokens.specs.declared.token.Keyword.TheVariants as word
use Rattle.script_tokens.specs.declared.token.Symbol.TheVariants as mark
use Rattle.dyn_value.specs.declared.operator.UnOp.TheVariants as unary
use Rattle.standard_binders.specs.declared.binder.Binder.TheVariants as binder
use Rattle.script_grammar.specs.declared.tree.Block.{Block}
use Rattle.script_grammar.specs.declared.tree.Expr.{Expr}
use Rattle.script_grammar.specs.declared.tree.Stmt.{Stmt}
use Rattle.script_grammar.specs.declared.tree.Stmt.TheFolds.{fold-roll-Block, fold-roll-Stmt, ind-Block, map-Block, map-Stmt}
use Rattle.script_grammar.specs.declared.tree.Stmt.TheOpen.{Block-F, Stmt-F}
use Rattle.script_grammar.specs.declared.tree.Stmt.TheViews.{roll-Block, roll-Stmt}
use Rattle.script_grammar.specs.Spelling.{Tokens, block_spelling, else_spelling, spell_assigned, spell_block, spell_index, spell_stmt, spell_value, stmt_spelling}
use Rattle.script_sites.specs.Sites.{Binders, block_sites, else_sites, expr_sites, layer_block_sites, layer_stmt_sites, stmt_sites}
use Rattle.script_names.specs.declared.item_names.ItemNames.{ItemNames}
use Rattle.script_names.specs.Names.{Flags, Names, is_in, is_taken}
use Rattle.script_names.specs.Statements.{Scoped, Statement, assigned_flags, block_flags, else_flags, index_flags, layer_block, layer_stmt, layer_stmt_flags, statement, stmts_flags, value_flags}
use Rattle.script_names.proofs.Agreement.{Agrees, both, last, moved, nothing, site, token}
use Rattle.script_names.proofs.ExpressionAgreement.{expr_agrees}

abbrev StmtAgrees : Stmt → Type 0
StmtAgrees s = (items : ItemNames) (scope : Names) → Agrees ((statement items s).flags scope) (spell_stmt s) (stmt_sites s)

abbrev pub BlockAgrees : Block → Type 0
BlockAgrees b = (items : ItemNames) (scope : Names) → Agrees (block_flags items scope b) (spell_block b) (block_sites b)

abbrev S : Type 0
S = (s : Stmt) × StmtAgrees s

abbrev B : Type 0
B = (b : Block) × BlockAgrees b

value : (items : ItemNames) (scope : Names) (e : Expr) → Agrees (value_flags items e scope) (spell_value e) (expr_sites e)
value items scope e = last false (Mark mark.Semicolon) (expr_agrees e items scope)

assigned : (items : ItemNames) (scope : Names) (e : Expr) → Agrees (assigned_flags items e scope) (spell_assigned e) (expr_sites e)
assigned items scope e = token false (Mark mark.Equal) (value items scope e)

index : (items : ItemNames) (scope : Names) (e : Expr) → Agrees (index_flags items e scope) (spell_index e) (expr_sites e)
index items scope e = last false (Mark mark.CloseBracket) (token false (Mark mark.OpenBracket) (expr_agrees e items scope))

abbrev layer_of : Stmt-F S B → Stmt-F Stmt Block
layer_of y = map-Stmt S B Stmt Block (λ z. z.0) (λ z. z.0) y

stmt_layer : (items : ItemNames) (scope : Names) (y : Stmt-F S B) → Agrees
    (layer_stmt_flags items (map-Stmt Stmt Block Statement Scoped (statement items) (λ b z. block_flags items z b) (layer_of y)) scope)
    (stmt_spelling (map-Stmt Stmt Block Tokens Tokens spell_stmt spell_block (layer_of y)))
    (layer_stmt_sites (map-Stmt Stmt Block Binders Binders stmt_sites block_sites (layer_of y)))
stmt_layer items scope (Stmt-F.Let n e) = token false (Word word.Let) (token (is_taken items scope n) (Name n) (assigned items scope e))
stmt_layer items scope (Stmt-F.Assign n e) = token (not (is_in scope n)) (Name n) (assigned items scope e)
stmt_layer items scope (Stmt-F.SetMember target n e) =
    both (expr_agrees target items scope) (token false (Mark mark.Dot) (token false (Name n) (site (binder.SetMember n false) (λ keep. refl) (assigned items scope e))))
stmt_layer items scope (Stmt-F.SetIndex target key e) =
    both (both (expr_agrees target items scope) (site binder.SetIndex (λ keep. refl) (index items scope key))) (assigned items scope e)
stmt_layer items scope (Stmt-F.DeleteMember target n) =
    both (token false (Word word.Delete) (expr_agrees target items scope))
    (token false (Mark mark.Dot) (token false (Name n) (token false (Mark mark.Semicolon) (site (binder.DeleteMember n false) (λ keep. refl) nothing))))
stmt_layer items scope (Stmt-F.DeleteIndex target key) =
    last false (Mark mark.Semicolon) (both (token false (Word word.Delete) (expr_agrees target items scope)) (site binder.DeleteIndex (λ keep. refl) (index items scope key)))
stmt_layer items scope (Stmt-F.If test block None) =
    both (both (token false (Word word.If) (site (binder.UnaryOperation unary.IsTrue) (λ keep. refl) (expr_agrees test items scope))) (block.1 items scope)) nothing
stmt_layer items scope (Stmt-F.If test block (Some other)) =
    both (both (token false (Word word.If) (site (binder.UnaryOperation unary.IsTrue) (λ keep. refl) (expr_agrees test items scope))) (block.1 items scope))
    (token false (Word word.Else) (other.1 items scope))
stmt_layer items scope (Stmt-F.While test body) =
    both (token false (Word word.While) (site (binder.UnaryOperation unary.IsTrue) (λ keep. refl) (expr_agrees test items scope))) (body.1 items scope)
stmt_layer items scope (Stmt-F.Return e) = token false (Word word.Return) (value items scope e)
stmt_layer items scope (Stmt-F.Print e) = token false (Word word.Print) (value items scope e)
stmt_layer items scope (Stmt-F.Try body n caught) =
    both (token false (Word word.Try) (body.1 items scope)) (token false (Word word.Catch) (token (is_taken items scope n) (Name n) (caught.1 items (scope ++ n ∷ []))))
stmt_layer items scope (Stmt-F.Plain e) = value items scope e

stmt_step : (x : Stmt-F Stmt Block) (y : Stmt-F S B) → layer_of y ≡ x → StmtAgrees (roll-Stmt x)
stmt_step x y is = subst (λ z. StmtAgrees (roll-Stmt z)) is (λ items scope. moved
    (ap (λ (z : Statement). z.flags scope) (fold-roll-Stmt Statement Scoped (layer_stmt items) layer_block (layer_of y)))
    (fold-roll-Stmt Tokens Tokens stmt_spelling block_spelling (layer_of y))
    (fold-roll-Stmt Binders Binders layer_stmt_sites layer_block_sites (layer_of y))
    (stmt_layer items scope y))

stmts_agree : (items : ItemNames) (scope : Names) (ps : List S) → Agrees
    (stmts_flags (map (statement items) (map (λ p. p.0) ps)) scope) (flat_map (λ ts. ts) (map spell_stmt (map (λ p. p.0) ps))) (flat_map (λ bs. bs) (map stmt_sites (map (λ p. p.0) ps)))
stmts_agree items scope [] = nothing
stmts_agree items scope (p ∷ ps) = both (p.1 items scope) (stmts_agree items (scope ++ (statement items p.0).declares) ps)

block_is : (ps : List S) → BlockAgrees (record { 0 = map (λ p. p.0) ps })
block_is ps = λ items scope. moved
    (ap (λ (z : Scoped). z scope) (fold-roll-Block Statement Scoped (layer_stmt items) layer_block (record { 0 = map (λ p. p.0) ps })))
    (fold-roll-Block Tokens Tokens stmt_spelling block_spelling (record { 0 = map (λ p. p.0) ps }))
    (fold-roll-Block Binders Binders layer_stmt_sites layer_block_sites (record { 0 = map (λ p. p.0) ps }))
    (last false (Mark mark.CloseBrace) (token false (Mark mark.OpenBrace) (stmts_agree items scope ps)))

block_step : (x : Block-F Stmt Block) (y : Block-F S B) → map-Block S B Stmt Block (λ z. z.0) (λ z. z.0) y ≡ x → BlockAgrees (roll-Block x)
block_step x y is = subst (λ z. BlockAgrees (roll-Block z)) is (block_is y.0)

pub block_agrees : (b : Block) → BlockAgrees b
block_agrees b = ind-Block StmtAgrees BlockAgrees stmt_step block_step b
