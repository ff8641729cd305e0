-- Two statements, two blocks and the like have two spellings, and none begins another's.
use Rattle.std.proofs.Common.{◌≡◌, ◌&&◌, inl, inr, ℕ, true, List, [], ◌∷◌, ◌++◌, Option, None, Some, map, refl, sym, ap, ◌∙◌, subst, append_assoc}
use Rattle.std.specs.List.{flat_map, list_all}
use Rattle.std.proofs.lemmas.Bool.{and_parts}
use Rattle.script_tokens.specs.declared.token.Keyword.TheVariants as word
use Rattle.script_tokens.specs.declared.token.Symbol.TheVariants as mark
use Rattle.script_tokens.specs.declared.token.Token.TheVariants.{Mark, Word}
use Rattle.script_grammar.specs.declared.parser.places.Part.{Part}
use Rattle.script_grammar.specs.declared.parser.places.Part.TheVariants as part
use Rattle.script_grammar.specs.declared.parser.places.Place.{Place}
use Rattle.script_grammar.specs.declared.parser.places.Place.TheVariants as place
use Rattle.script_grammar.specs.declared.tree.Block.{Block}
use Rattle.script_grammar.specs.declared.tree.Expr.{Expr}
use Rattle.script_grammar.specs.declared.tree.Stmt.{Stmt}
use Rattle.script_grammar.specs.declared.tree.Stmt.TheFolds.{ind-Stmt, ind-Block, map-Stmt, map-Block}
use Rattle.script_grammar.specs.declared.tree.Stmt.TheOpen.{Stmt-F, Block-F}
use Rattle.script_grammar.specs.declared.tree.Stmt.TheViews.{roll-Stmt, roll-Block, out-roll-Stmt}
use Rattle.script_grammar.specs.ExpressionForms.{BeginsNot, name_form, expr_form, name_expr}
use Rattle.script_grammar.specs.Forms.{Tokens, tok}
use Rattle.script_grammar.specs.Spelling.{spell_stmt}
use Rattle.script_grammar.specs.StatementForms.{NoWord, part_expr, part_form, value_form, assigned_form, stmt_form, stmts_form, block_form, else_form}
use Rattle.script_grammar.specs.Written.{is_written_expr}
use Rattle.script_grammar.specs.WrittenStatements.{is_written_stmt}
use Rattle.script_grammar.proofs.Ends.{apart}
use Rattle.script_grammar.proofs.ExpressionFronts.{begins_expr}
use Rattle.script_grammar.proofs.ExpressionLaws.{lawful_expr}
use Rattle.script_grammar.proofs.Fronts.{first_is}
use Rattle.script_grammar.proofs.Items.{Lawful}
use Rattle.script_grammar.proofs.Places.{lawful_part, place_same, member_part-writing, index_part-writing, bare_is_written}
use Rattle.script_grammar.proofs.StatementRules.{semicolon_form, equal_form, ended_form, value_0, equated_form, assigned_0, open_brace_form, braced_form, braced, block_0, else_0, declared_form, declared, deleted_form, removed, choices_form, if_form, chosen, while_form, repeated, named_block_form, catch_form, try_form, attempted, tail_form, begun_form, begun_by, begun, may_assign, let_may, delete_may, if_may, while_may, try_may, let_0, delete_0, if_0, while_0, return_0, print_0, try_0, begun_0, stmt_is_no_brace, more_stmts_form, first_stmt, row_may, row_0}
use Rattle.script_grammar.proofs.StatementTrees.{Layer, layer_form, layer_may, stmt_0, braces, block-writing}
use Rattle.script_grammar.proofs.TokenLaws.{lawful_name}
use Rattle.script_grammar.proofs.Unique.{UniqueAt, tok_unique, seq_unique, unique_by}

-- Parts that hold no block.

value_unique : (e : Expr) → UniqueAt value_form e
value_unique e b x y m n is =
    let h : ended_form.Tree = (e, tt) in
    unique_by value_form ended_form (ended_form.tokens h ++ x) x (λ b. b.0) h
    (value_0 (ended_form.tokens h ++ x)) ((m, apart mark.Semicolon refl x), tt)
    (seq_unique expr_form (λ _. semicolon_form) e tt (lawful_expr.unique e) (tok_unique (Mark mark.Semicolon))) b y n is

assigned_unique : (e : Expr) → UniqueAt assigned_form e
assigned_unique e b x y m n is =
    let h : equated_form.Tree = (tt, e) in
    unique_by assigned_form equated_form (equated_form.tokens h ++ x) x (λ b. b.1) h
    (assigned_0 (equated_form.tokens h ++ x)) (tt, m)
    (seq_unique equal_form (λ _. value_form) tt e (tok_unique (Mark mark.Equal)) (value_unique e)) b y n is

-- what stands after an expression that begins a statement
tail_unique : (e : Expr) (t : (tail_form e).Tree) → UniqueAt (tail_form e) t
tail_unique e (inl t) (inl u) x y m n is = (refl, cc)
tail_unique e (inl t) (inr q) x y m n is = cc
tail_unique e (inr p) (inl u) x y m n is = cc
tail_unique e (inr p) (inr q) x y m n is =
    let places = place_same p.0 q.0 (sym m.0 ∙ n.0) in
    let values = assigned_unique p.1 q.1 x y m.1 n.1 is in
    let same : p ≡ q =
    ap (λ (z : Place). let w : Place × Expr = (z, p.1) in w) places ∙ ap (λ (z : Expr). let w : Place × Expr = (q.0, z) in w) values.0 in
    (ap inr same, values.1)

-- no word of a statement stands where an expression does
expr_is_no_word : (e : Expr) (post : Tokens) → expr_form.May e post → (ts : Tokens) → ts ≡ expr_form.tokens e ++ post → NoWord ts
expr_is_no_word e post m ts is = record {
  local = λ rest f. begins_expr (Word word.Let) rest post e m.0 (sym f ∙ is);
  delete = λ rest f. begins_expr (Word word.Delete) rest post e m.0 (sym f ∙ is);
  choice = λ rest f. begins_expr (Word word.If) rest post e m.0 (sym f ∙ is);
  loop = λ rest f. begins_expr (Word word.While) rest post e m.0 (sym f ∙ is);
  answer = λ rest f. begins_expr (Word word.Return) rest post e m.0 (sym f ∙ is);
  print = λ rest f. begins_expr (Word word.Print) rest post e m.0 (sym f ∙ is);
  attempt = λ rest f. begins_expr (Word word.Try) rest post e m.0 (sym f ∙ is);
}

-- a statement that begins with an expression
begun_unique : (e : Expr) (t : (tail_form e).Tree) (x : Tokens) → begun_form.May (e, t) x →
    (b : Layer) (y : Tokens) → layer_form.May b y → layer_form.tokens (begun_by e t) ++ x ≡ layer_form.tokens b ++ y →
    (begun_by e t ≡ b) × (x ≡ y)
begun_unique e t x m b y n is =
    let h : begun_form.Tree = (e, t) in
    let ts = begun_form.tokens h ++ x in
    let none = expr_is_no_word e ((tail_form e).tokens t ++ x) m.0 ts (append_assoc (expr_form.tokens e) ((tail_form e).tokens t) x) in
    unique_by layer_form begun_form ts x begun h (begun_0 ts none) m
    (seq_unique expr_form tail_form e t (lawful_expr.unique e) (tail_unique e t)) b y n is

-- a deletion
delete_unique : (p : Part) → UniqueAt layer_form (removed p)
delete_unique p b x y m n is =
    let h : deleted_form.Tree = (p, tt) in
    unique_by layer_form deleted_form (Word word.Delete ∷ (deleted_form.tokens h ++ x)) x (λ q. removed q.0) h
    (delete_0 (deleted_form.tokens h ++ x)) (delete_may p x m)
    (seq_unique part_form (λ _. semicolon_form) p tt (lawful_part.unique p) (tok_unique (Mark mark.Semicolon))) b y n is

-- Statements and blocks, if those within have two spellings.

-- the block that stands after `else`, if one does
abbrev UniqueSome : Option Block → Type 0
UniqueSome None = Unit {0}
UniqueSome (Some b) = UniqueAt block_form b

else_unique : (b : Option Block) → UniqueSome b → UniqueAt else_form b
else_unique None u None x y m n is = (refl, is)
else_unique None u (Some c) x y m n is = absurd (m (block_form.tokens c ++ y) is)
else_unique (Some b) u c x y m n is =
    unique_by else_form block_form (Word word.Else ∷ (block_form.tokens b ++ x)) x Some b (else_0 (block_form.tokens b ++ x)) m u c y n is

if_unique : (test : Expr) (block : Block) (other : Option Block) → UniqueAt block_form block → UniqueSome other →
    UniqueAt layer_form (Stmt-F.If test block other)
if_unique test block other first second b x y m n is =
    let h : if_form.Tree = (test, (block, other)) in
    unique_by layer_form if_form (Word word.If ∷ (if_form.tokens h ++ x)) x chosen h (if_0 (if_form.tokens h ++ x)) (if_may test block other x m)
    (seq_unique expr_form (λ _. choices_form) test (block, other) (lawful_expr.unique test)
    (seq_unique block_form (λ _. else_form) block other first (else_unique other second))) b y n is

while_unique : (test : Expr) (body : Block) → UniqueAt block_form body → UniqueAt layer_form (Stmt-F.While test body)
while_unique test body first b x y m n is =
    let h : while_form.Tree = (test, body) in
    unique_by layer_form while_form (Word word.While ∷ (while_form.tokens h ++ x)) x repeated h (while_0 (while_form.tokens h ++ x)) (while_may test body x m)
    (seq_unique expr_form (λ _. block_form) test body (lawful_expr.unique test) first) b y n is

try_unique : (body : Block) (name : List ℕ) (caught : Block) → UniqueAt block_form body → UniqueAt block_form caught →
    UniqueAt layer_form (Stmt-F.Try body name caught)
try_unique body name caught first second b x y m n is =
    let h : try_form.Tree = (body, (tt, (name, caught))) in
    unique_by layer_form try_form (Word word.Try ∷ (try_form.tokens h ++ x)) x attempted h (try_0 (try_form.tokens h ++ x)) (try_may body name caught x m)
    (seq_unique block_form (λ _. catch_form) body (tt, (name, caught)) first
    (seq_unique (tok (Word word.Catch)) (λ _. named_block_form) tt (name, caught) (tok_unique (Word word.Catch))
    (seq_unique name_form (λ _. block_form) name caught (lawful_name.unique name) second))) b y n is

-- the layers with claims for the blocks within
abbrev UniqueBlock : Type 0
UniqueBlock = (b : Block) × UniqueAt block_form b

abbrev UniqueStmt : Type 0
UniqueStmt = (s : Stmt) × UniqueAt stmt_form s

layer_unique : (x : Stmt-F UniqueStmt UniqueBlock) →
    UniqueAt layer_form (map-Stmt UniqueStmt UniqueBlock Stmt Block (λ s. s.0) (λ b. b.0) x)
layer_unique (Stmt-F.Let name e) b x y m n is =
    let h : declared_form.Tree = (name, e) in
    unique_by layer_form declared_form (Word word.Let ∷ (declared_form.tokens h ++ x)) x declared h
    (let_0 (declared_form.tokens h ++ x)) (let_may name e x m)
    (seq_unique name_form (λ _. assigned_form) name e (lawful_name.unique name) (assigned_unique e)) b y n is
layer_unique (Stmt-F.Assign name e) b x y m n is =
    begun_unique (name_expr name) (inr (place.Name name, e)) x (may_assign (place.Name name) e x (bare_is_written name) m.0) b y n is
layer_unique (Stmt-F.SetMember target name e) b x y m n is =
    let parts = and_parts (is_written_expr target) (is_written_expr e) m.0 in
    let p : Part = part.Member target name in
    begun_unique (part_expr p) (inr (place.Part p, e)) x
    (may_assign (place.Part p) e x (member_part-writing target name ∙ parts.0) parts.1) b y n is
layer_unique (Stmt-F.SetIndex target key e) b x y m n is =
    let parts = and_parts (is_written_expr target && is_written_expr key) (is_written_expr e) m.0 in
    let p : Part = part.Index target key in
    begun_unique (part_expr p) (inr (place.Part p, e)) x
    (may_assign (place.Part p) e x (index_part-writing target key ∙ parts.0) parts.1) b y n is
layer_unique (Stmt-F.DeleteMember target name) b x y m n is = delete_unique (part.Member target name) b x y m n is
layer_unique (Stmt-F.DeleteIndex target key) b x y m n is = delete_unique (part.Index target key) b x y m n is
layer_unique (Stmt-F.If test block None) b x y m n is = if_unique test block.0 None block.1 tt b x y m n is
layer_unique (Stmt-F.If test block (Some other)) b x y m n is = if_unique test block.0 (Some other.0) block.1 other.1 b x y m n is
layer_unique (Stmt-F.While test body) b x y m n is = while_unique test body.0 body.1 b x y m n is
layer_unique (Stmt-F.Return e) b x y m n is =
    unique_by layer_form value_form (Word word.Return ∷ (value_form.tokens e ++ x)) x Stmt-F.Return e
    (return_0 (value_form.tokens e ++ x)) m.0 (value_unique e) b y n is
layer_unique (Stmt-F.Print e) b x y m n is =
    unique_by layer_form value_form (Word word.Print ∷ (value_form.tokens e ++ x)) x Stmt-F.Print e
    (print_0 (value_form.tokens e ++ x)) m.0 (value_unique e) b y n is
layer_unique (Stmt-F.Try body name caught) b x y m n is = try_unique body.0 name caught.0 body.1 caught.1 b x y m n is
layer_unique (Stmt-F.Plain e) b x y m n is =
    begun_unique e (inl tt) x ((m.0, apart mark.Semicolon refl x), tt) b y n is

-- a statement, if what it is made of has two spellings
stmt_by_layer : (x : Layer) → UniqueAt layer_form x → UniqueAt stmt_form (roll-Stmt x)
stmt_by_layer x u b post y m n is =
    let may = layer_may (roll-Stmt x) post m in
    unique_by stmt_form layer_form (layer_form.tokens x ++ post) post roll-Stmt x (stmt_0 (layer_form.tokens x ++ post))
    (subst (λ z. layer_form.May z post) (out-roll-Stmt x) may) u b y n is

-- no row of statements begins with a closing brace
row_is_no_brace : (s : Stmt) (ss : List Stmt) (post : Tokens) → list_all is_written_stmt (s ∷ ss) ≡ true →
    BeginsNot (Mark mark.CloseBrace) (more_stmts_form.tokens (s, ss) ++ post)
row_is_no_brace s ss post w rest e =
    stmt_is_no_brace s (stmts_form.tokens ss ++ post) (row_may s ss post w).0 rest (sym (append_assoc (spell_stmt s) (stmts_form.tokens ss) post) ∙ e)

no_brace : (s : Stmt) (ss : List Stmt) (post : Tokens) → list_all is_written_stmt (s ∷ ss) ≡ true →
    BeginsNot (Mark mark.CloseBrace) (stmts_form.tokens (s ∷ ss) ++ post)
no_brace s ss post w rest e =
    row_is_no_brace s ss post w rest (ap (λ z. z ++ post) (sym (append_assoc (spell_stmt s) (flat_map spell_stmt ss) (Mark mark.CloseBrace ∷ []))) ∙ e)

stmts_unique : (ss : List UniqueStmt) → UniqueAt stmts_form (map (λ (s : UniqueStmt). s.0) ss)
stmts_unique [] [] x y m n e = (refl, cc)
stmts_unique [] (t ∷ ts) x y m n e = absurd (no_brace t ts y n x (sym e))
stmts_unique (s ∷ ss) b x y m n e =
    let rest = map (λ (s : UniqueStmt). s.0) ss in
    let h : more_stmts_form.Tree = (s.0, rest) in
    unique_by stmts_form more_stmts_form (more_stmts_form.tokens h ++ x) x first_stmt h
    (row_0 (more_stmts_form.tokens h ++ x) (row_is_no_brace s.0 rest x m)) (row_may s.0 rest x m)
    (seq_unique stmt_form (λ _. stmts_form) s.0 rest s.1 (stmts_unique ss)) b y n e

block_by_row : (ss : List UniqueStmt) → UniqueAt block_form (braces (map (λ (s : UniqueStmt). s.0) ss))
block_by_row ss c x y m n e =
    let row = map (λ (s : UniqueStmt). s.0) ss in
    let h : braced_form.Tree = (tt, row) in
    unique_by block_form braced_form (braced_form.tokens h ++ x) x braced h (block_0 (braced_form.tokens h ++ x)) (tt, sym (block-writing row) ∙ m)
    (seq_unique open_brace_form (λ _. stmts_form) tt row (tok_unique (Mark mark.OpenBrace)) (stmts_unique ss)) c y n e

stmt_step : (x : Stmt-F Stmt Block) (y : Stmt-F UniqueStmt UniqueBlock) →
    map-Stmt UniqueStmt UniqueBlock Stmt Block (λ s. s.0) (λ b. b.0) y ≡ x → UniqueAt stmt_form (roll-Stmt x)
stmt_step x y is = subst (λ z. UniqueAt stmt_form (roll-Stmt z)) is
    (stmt_by_layer (map-Stmt UniqueStmt UniqueBlock Stmt Block (λ s. s.0) (λ b. b.0) y) (layer_unique y))

block_step : (x : Block-F Stmt Block) (y : Block-F UniqueStmt UniqueBlock) →
    map-Block UniqueStmt UniqueBlock Stmt Block (λ s. s.0) (λ b. b.0) y ≡ x → UniqueAt block_form (roll-Block x)
block_step x y is = subst (λ z. UniqueAt block_form (roll-Block z)) is (block_by_row y.0)

pub lawful_stmt : Lawful stmt_form
lawful_stmt = record {
  unique = ind-Stmt (UniqueAt stmt_form) (UniqueAt block_form) stmt_step block_step;
  local = λ a x y go m. (m.0, λ takes rest e. let f = first_is x y rest (Word word.Else) go e in m.1 takes f.0 f.1);
  ends = λ a x m. (m.0, λ takes rest e. cc);
}

pub lawful_block : Lawful block_form
lawful_block = record {
  unique = ind-Block (UniqueAt stmt_form) (UniqueAt block_form) stmt_step block_step;
  local = λ a x y go m. m;
  ends = λ a x m. m;
}
