-- The names that the binders of statements and items carry.
use Rattle.std.proofs.Common.{◌≡◌, ℕ, false, List, [], ◌∷◌, None, Some, map, refl, subst}
use Rattle.std.specs.List.{flat_map}
use Rattle.script_tokens.specs.declared.token.Token.TheVariants.{Name, Word, Mark}
use Rattle.script_tokens.specs.declared.token.Keyword.TheVariants as word
use Rattle.script_tokens.specs.declared.token.Symbol.TheVariants as mark
use Rattle.dyn_value.specs.declared.operator.UnOp.TheVariants as unary
use Rattle.standard_binders.specs.declared.binder.Binder.TheVariants as binder
use Rattle.script_grammar.specs.declared.tree.Block.{Block}
use Rattle.script_grammar.specs.declared.tree.Expr.{Expr}
use Rattle.script_grammar.specs.declared.tree.Function.{Function}
use Rattle.script_grammar.specs.declared.tree.Item.{Item}
use Rattle.script_grammar.specs.declared.tree.Item.TheVariants as item
use Rattle.script_grammar.specs.declared.tree.Script.{Script}
use Rattle.script_grammar.specs.declared.tree.Stmt.{Stmt}
use Rattle.script_grammar.specs.declared.tree.Task.{Task}
use Rattle.script_grammar.specs.declared.tree.Stmt.TheFolds.{fold-roll-Block, fold-roll-Stmt, ind-Block, map-Block, map-Stmt}
use Rattle.script_grammar.specs.declared.tree.Stmt.TheOpen.{Block-F, Stmt-F}
use Rattle.script_grammar.specs.declared.tree.Stmt.TheViews.{roll-Block, roll-Stmt}
use Rattle.script_grammar.specs.Spelling.{Tokens, block_spelling, name_tokens, parts, spell, spell_assigned, spell_block, spell_expr, spell_function, spell_index, spell_items, spell_shared, spell_stmt, spell_task, spell_value, stmt_spelling}
use Rattle.script_sites.specs.Sites.{Binders, block_sites, expr_sites, function_sites, items_sites, layer_block_sites, layer_stmt_sites, site_binders, stmt_sites, task_sites}
use Rattle.script_program.proofs.Carried.{Carries, both, last, moved, name_first, no_binders, site, token}
use Rattle.script_program.proofs.CarriedExpressions.{expr_carries}

abbrev StmtCarries : Stmt → Type 0
StmtCarries s = Carries (spell_stmt s) (stmt_sites s)

abbrev BlockCarries : Block → Type 0
BlockCarries b = Carries (spell_block b) (block_sites b)

abbrev S : Type 0
S = (s : Stmt) × StmtCarries s

abbrev B : Type 0
B = (b : Block) × BlockCarries b

value : (e : Expr) → Carries (spell_value e) (expr_sites e)
value e = last (Mark mark.Semicolon) (expr_carries e)

assigned : (e : Expr) → Carries (spell_assigned e) (expr_sites e)
assigned e = token (Mark mark.Equal) (value e)

index : (e : Expr) → Carries (spell_index e) (expr_sites e)
index e = last (Mark mark.CloseBracket) (token (Mark mark.OpenBracket) (expr_carries e))

-- the word of a test, and its site
tested : (e : Expr) → Carries (Word word.If ∷ spell_expr e) (binder.UnaryOperation unary.IsTrue ∷ expr_sites e)
tested e = token (Word word.If) (site (binder.UnaryOperation unary.IsTrue) (λ all. refl) (expr_carries e))

abbrev layer_of : Stmt-F S B → Stmt-F Stmt Block
layer_of y = map-Stmt S B Stmt Block (λ z. z.0) (λ z. z.0) y

stmt_layer : (y : Stmt-F S B) → Carries
    (stmt_spelling (map-Stmt Stmt Block Tokens Tokens spell_stmt spell_block (layer_of y)))
    (layer_stmt_sites (map-Stmt Stmt Block Binders Binders stmt_sites block_sites (layer_of y)))
stmt_layer (Stmt-F.Let n e) = token (Word word.Let) (token (Name n) (assigned e))
stmt_layer (Stmt-F.Assign n e) = token (Name n) (assigned e)
stmt_layer (Stmt-F.SetMember target n e) =
    both (expr_carries target) (site (binder.SetMember n false) (λ all. name_first n (spell_assigned e) all) (token (Mark mark.Dot) (token (Name n) (assigned e))))
stmt_layer (Stmt-F.SetIndex target key e) =
    both (both (expr_carries target) (site binder.SetIndex (λ all. refl) (index key))) (assigned e)
stmt_layer (Stmt-F.DeleteMember target n) =
    both (token (Word word.Delete) (expr_carries target))
    (site (binder.DeleteMember n false) (λ all. name_first n (Mark mark.Semicolon ∷ []) all) (no_binders (Mark mark.Dot ∷ Name n ∷ Mark mark.Semicolon ∷ [])))
stmt_layer (Stmt-F.DeleteIndex target key) =
    last (Mark mark.Semicolon) (both (token (Word word.Delete) (expr_carries target)) (site binder.DeleteIndex (λ all. refl) (index key)))
stmt_layer (Stmt-F.If test block None) = both (both (tested test) block.1) (no_binders [])
stmt_layer (Stmt-F.If test block (Some other)) = both (both (tested test) block.1) (token (Word word.Else) other.1)
stmt_layer (Stmt-F.While test body) =
    both (token (Word word.While) (site (binder.UnaryOperation unary.IsTrue) (λ all. refl) (expr_carries test))) body.1
stmt_layer (Stmt-F.Return e) = token (Word word.Return) (value e)
stmt_layer (Stmt-F.Print e) = token (Word word.Print) (value e)
stmt_layer (Stmt-F.Try body n caught) = both (token (Word word.Try) body.1) (token (Word word.Catch) (token (Name n) caught.1))
stmt_layer (Stmt-F.Plain e) = value e

stmt_step : (x : Stmt-F Stmt Block) (y : Stmt-F S B) → layer_of y ≡ x → StmtCarries (roll-Stmt x)
stmt_step x y is = subst (λ z. StmtCarries (roll-Stmt z)) is (moved
    (fold-roll-Stmt Tokens Tokens stmt_spelling block_spelling (layer_of y))
    (fold-roll-Stmt Binders Binders layer_stmt_sites layer_block_sites (layer_of y))
    (stmt_layer y))

stmts_carry : (ps : List S) → Carries (flat_map (λ ts. ts) (map spell_stmt (map (λ p. p.0) ps))) (flat_map (λ bs. bs) (map stmt_sites (map (λ p. p.0) ps)))
stmts_carry [] = no_binders []
stmts_carry (p ∷ ps) = both p.1 (stmts_carry ps)

block_is : (ps : List S) → BlockCarries (record { 0 = map (λ p. p.0) ps })
block_is ps = moved
    (fold-roll-Block Tokens Tokens stmt_spelling block_spelling (record { 0 = map (λ p. p.0) ps }))
    (fold-roll-Block Binders Binders layer_stmt_sites layer_block_sites (record { 0 = map (λ p. p.0) ps }))
    (last (Mark mark.CloseBrace) (token (Mark mark.OpenBrace) (stmts_carry ps)))

block_step : (x : Block-F Stmt Block) (y : Block-F S B) → map-Block S B Stmt Block (λ z. z.0) (λ z. z.0) y ≡ x → BlockCarries (roll-Block x)
block_step x y is = subst (λ z. BlockCarries (roll-Block z)) is (block_is y.0)

block_carries : (b : Block) → BlockCarries b
block_carries b = ind-Block StmtCarries BlockCarries stmt_step block_step b

function_carries : (f : Function) → Carries (spell_function f) (function_sites f)
function_carries f =
    both (no_binders (Word word.Fn ∷ Name f.name ∷ Mark mark.OpenParenthesis ∷ parts (map name_tokens f.params))) (block_carries f.body)

task_carries : (t : Task) → Carries (spell_task t) (task_sites t)
task_carries t = token (Word word.Task) (token (Name t.name) (block_carries t.body))

items_carry : (items : List Item) (shared : List (List ℕ)) (fs : List Function) (ts : List Task) → Carries (spell_items items shared fs ts) (items_sites items shared fs ts)
items_carry [] shared fs ts = no_binders []
items_carry (item.Shared k ∷ items) [] fs ts = no_binders []
items_carry (item.Shared k ∷ items) (n ∷ shared) fs ts = both (no_binders (spell_shared n)) (items_carry items shared fs ts)
items_carry (item.Fun k ∷ items) shared [] ts = no_binders []
items_carry (item.Fun k ∷ items) shared (f ∷ fs) ts = both (function_carries f) (items_carry items shared fs ts)
items_carry (item.Task k ∷ items) shared fs [] = no_binders []
items_carry (item.Task k ∷ items) shared fs (t ∷ ts) = both (task_carries t) (items_carry items shared fs ts)

-- those of a script are short where the names among its tokens are
pub script_carries : (s : Script) → Carries (spell s) (site_binders s)
script_carries s = items_carry s.items s.shared s.functions s.tasks
