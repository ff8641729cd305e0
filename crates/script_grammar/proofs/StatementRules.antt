-- Which form stands where the reading of a statement or a block is.
use Rattle.std.proofs.Common.{◌≡◌, ◌≢◌, inl, inr, ℕ, true, ◌&&◌, List, [], ◌∷◌, ◌++◌, Option, None, Some, refl, sym, ap, ◌∙◌, subst, append_assoc}
use Rattle.std.specs.List.{flat_map, list_all}
use Rattle.std.proofs.lemmas.Bool.{and_from, and_parts}
use Rattle.script_tokens.specs.declared.token.Keyword.TheVariants as word
use Rattle.script_tokens.specs.declared.token.Symbol.TheVariants as mark
use Rattle.script_tokens.specs.declared.token.Token.{Token}
use Rattle.script_tokens.specs.declared.token.Token.TheVariants.{Mark, Name, Word}
use Rattle.script_grammar.specs.declared.parser.places.Part.{Part}
use Rattle.script_grammar.specs.declared.parser.places.Part.TheVariants as part
use Rattle.script_grammar.specs.declared.parser.places.Place.{Place}
use Rattle.script_grammar.specs.declared.parser.places.Place.TheVariants as place
use Rattle.script_grammar.specs.declared.tree.Block.{Block}
use Rattle.script_grammar.specs.declared.tree.Expr.{Expr}
use Rattle.script_grammar.specs.declared.tree.Stmt.{Stmt}
use Rattle.script_grammar.specs.declared.tree.Stmt.TheOpen.{Stmt-F}
use Rattle.script_grammar.specs.declared.tree.Stmt.TheViews.{out-Stmt}
use Rattle.script_grammar.specs.ExpressionForms.{BeginsNot, NoSuffix, name_form, expr_form, name_expr}
use Rattle.script_grammar.specs.Forms.{Tokens, Form, GoesOnAs, Reads, tok, or, seq}
use Rattle.script_grammar.specs.Spelling.{spell_expr, spell_stmt, spell_block, spell_assigned, spell_index, spell_value}
use Rattle.script_grammar.specs.StatementForms.{NoWord, ElseMay, part_expr, place_expr, part_form, value_form, assigned_form, stmt_form, stmts_form, block_form, else_form}
use Rattle.script_grammar.specs.Written.{is_written_expr}
use Rattle.script_grammar.specs.WrittenStatements.{is_written_stmt, is_written_block}
use Rattle.script_grammar.proofs.Ends.{apart}
use Rattle.script_grammar.proofs.ExpressionFronts.{BeginsExpr, begins_expr}
use Rattle.script_grammar.proofs.Fronts.{first_is}
use Rattle.script_grammar.proofs.Items.{At, after_first, branch}
use Rattle.script_grammar.proofs.Places.{member_part-spelling, member_part-writing, index_part-spelling, index_part-writing, bare_is_written}
use Rattle.script_grammar.proofs.Spellings.{bare-spelling}
use Rattle.script_grammar.proofs.StatementTrees.{Layer, layer_form, layer_tokens, layer_may, stmt-spelling, braces, block-spelling, block-writing}

-- Expressions that a token ends.

abbrev pub semicolon_form : Form
semicolon_form = tok (Mark mark.Semicolon)

abbrev pub equal_form : Form
equal_form = tok (Mark mark.Equal)

-- an expression and a semicolon
abbrev pub ended_form : Form
ended_form = seq expr_form (λ _. semicolon_form)

pub value_0 : (r : Tokens) → At value_form r ended_form r (λ b. b.0)
value_0 r = branch value_form ended_form r (λ b. b.0)
    (λ b post m. refl)
    (λ b post m. m.0.0)
    (λ us go a post m e. ((a, tt), (refl, ((m, apart mark.Semicolon refl post), tt))))

-- an equals sign, an expression and a semicolon
abbrev pub equated_form : Form
equated_form = seq equal_form (λ _. value_form)

pub assigned_0 : (r : Tokens) → At assigned_form r equated_form r (λ b. b.1)
assigned_0 r = branch assigned_form equated_form r (λ b. b.1)
    (λ b post m. refl)
    (λ b post m. m.1)
    (λ us go a post m e. ((tt, a), (refl, (tt, m))))

-- Blocks.

abbrev pub open_brace_form : Form
open_brace_form = tok (Mark mark.OpenBrace)

-- an opening brace, statements and the closing one
abbrev pub braced_form : Form
braced_form = seq open_brace_form (λ _. stmts_form)

abbrev pub braced : braced_form.Tree → Block
braced p = braces p.1

pub block_0 : (r : Tokens) → At block_form r braced_form r braced
block_0 r = branch block_form braced_form r braced
    (λ b post m. block-spelling b.1)
    (λ b post m. block-writing b.1 ∙ m.1)
    (λ us go a post m e. ((tt, a.0), (refl, (tt, sym (block-writing a.0) ∙ m))))

-- a block ends the expression before it
pub before_block : (b : Block) (post : Tokens) → NoSuffix (spell_block b ++ post)
before_block b post =
    subst (λ z. NoSuffix (z ++ post)) (sym (block-spelling b.0)) (apart mark.OpenBrace refl (stmts_form.tokens b.0 ++ post))

-- `else` and a block

pub else_0 : (r : Tokens) → At else_form (Word word.Else ∷ r) block_form r Some
else_0 r = after_first else_form block_form (Word word.Else) r Some
    (λ b post m. refl)
    (λ b post m. m)
    only
  where
    only : (us : Tokens) (a : Option Block) (post : Tokens) → ElseMay a post → Word word.Else ∷ us ≡ else_form.tokens a ++ post →
        (b : Block) × ((a ≡ Some b) × (is_written_block b ≡ true))
    only us None post m e = absurd (m us (sym e))
    only us (Some b) post m e = (b, (refl, m))

-- What stands after the word of a statement.

-- after `let`
abbrev pub declared_form : Form
declared_form = seq name_form (λ _. assigned_form)

abbrev pub declared : declared_form.Tree → Layer
declared p = Stmt-F.Let p.0 p.1

-- after `delete`
abbrev pub deleted_form : Form
deleted_form = seq part_form (λ _. semicolon_form)

abbrev pub removed : Part → Layer
removed (part.Member target n) = Stmt-F.DeleteMember target n
removed (part.Index target key) = Stmt-F.DeleteIndex target key

-- after `if`
abbrev pub choices_form : Form
choices_form = seq block_form (λ _. else_form)

abbrev pub if_form : Form
if_form = seq expr_form (λ _. choices_form)

abbrev pub chosen : if_form.Tree → Layer
chosen p = Stmt-F.If p.0 p.1.0 p.1.1

-- after `while`
abbrev pub while_form : Form
while_form = seq expr_form (λ _. block_form)

abbrev pub repeated : while_form.Tree → Layer
repeated p = Stmt-F.While p.0 p.1

-- after `try`
abbrev pub named_block_form : Form
named_block_form = seq name_form (λ _. block_form)

abbrev pub catch_form : Form
catch_form = seq (tok (Word word.Catch)) (λ _. named_block_form)

abbrev pub try_form : Form
try_form = seq block_form (λ _. catch_form)

abbrev pub attempted : try_form.Tree → Layer
attempted p = Stmt-F.Try p.0 p.1.1.0 p.1.1.1

-- What stands after an expression that begins a statement.

-- an equals sign and a value, where the expression can be assigned to
abbrev pub assigning_form : Expr → Form
assigning_form e = record {
  Tree = Place × Expr;
  tokens = λ p. spell_assigned p.1;
  May = λ p post. (e ≡ place_expr p.0) × (is_written_expr p.1 ≡ true);
}

abbrev pub tail_form : Expr → Form
tail_form e = or semicolon_form (assigning_form e)

abbrev pub begun_form : Form
begun_form = seq expr_form tail_form

abbrev pub assigned : Place → Expr → Layer
assigned (place.Name n) e = Stmt-F.Assign n e
assigned (place.Part (part.Member target n)) e = Stmt-F.SetMember target n e
assigned (place.Part (part.Index target key)) e = Stmt-F.SetIndex target key e

abbrev pub begun_by : (e : Expr) → (tail_form e).Tree → Layer
begun_by e (inl t) = Stmt-F.Plain e
begun_by e (inr p) = assigned p.0 p.1

abbrev pub begun : begun_form.Tree → Layer
begun p = begun_by p.0 p.1

assigned-spelling : (p : Place) (e : Expr) → layer_tokens (assigned p e) ≡ spell_expr (place_expr p) ++ spell_assigned e
assigned-spelling (place.Name n) e = ap (λ z. z ++ spell_assigned e) (sym (bare-spelling n))
assigned-spelling (place.Part (part.Member target n)) e =
    let dotted : Tokens = Mark mark.Dot ∷ Name n ∷ [] in
    sym (append_assoc (spell_expr target) dotted (spell_assigned e))
    ∙ ap (λ z. z ++ spell_assigned e) (sym (member_part-spelling target n))
assigned-spelling (place.Part (part.Index target key)) e =
    ap (λ z. z ++ spell_assigned e) (sym (index_part-spelling target key))

begun-spelling : (e : Expr) (t : (tail_form e).Tree) (post : Tokens) → (tail_form e).May t post →
    layer_tokens (begun_by e t) ≡ spell_expr e ++ (tail_form e).tokens t
begun-spelling e (inl t) post m = refl
begun-spelling e (inr p) post m = assigned-spelling p.0 p.1 ∙ ap (λ z. spell_expr z ++ spell_assigned p.1) (sym m.0)

-- a place and a value: where they can be written, the assignment can

assigned_is_written : (p : Place) (e : Expr) (post : Tokens) → is_written_expr (place_expr p) ≡ true →
    is_written_expr e ≡ true → layer_form.May (assigned p e) post
assigned_is_written (place.Name n) e post v w = (w, λ takes. cc)
assigned_is_written (place.Part (part.Member target n)) e post v w =
    (and_from (is_written_expr target) (is_written_expr e) (sym (member_part-writing target n) ∙ v) w, λ takes. cc)
assigned_is_written (place.Part (part.Index target key)) e post v w =
    (and_from (is_written_expr target && is_written_expr key) (is_written_expr e) (sym (index_part-writing target key) ∙ v) w, λ takes. cc)

pub begun_may : (b : begun_form.Tree) (post : Tokens) → begun_form.May b post → layer_form.May (begun b) post
begun_may b post m = by_tail b.0 b.1 m.0.0 m.1
  where
    by_tail : (e : Expr) (t : (tail_form e).Tree) → is_written_expr e ≡ true → (tail_form e).May t post →
        layer_form.May (begun_by e t) post
    by_tail e (inl t) w n = (w, λ takes. cc)
    by_tail e (inr p) w n = assigned_is_written p.0 p.1 post (ap is_written_expr (sym n.0) ∙ w) n.1

pub may_assign : (p : Place) (e : Expr) (post : Tokens) → is_written_expr (place_expr p) ≡ true →
    is_written_expr e ≡ true → begun_form.May (place_expr p, inr (p, e)) post
may_assign p e post v w =
    ((v, apart mark.Equal refl ((spell_expr e ++ Mark mark.Semicolon ∷ []) ++ post)), (refl, w))

-- Each statement by what stands after its word.

pub let_may : (n : List ℕ) (e : Expr) (post : Tokens) → layer_form.May (Stmt-F.Let n e) post → declared_form.May (n, e) post
let_may n e post m = (tt, m.0)

pub delete_may : (p : Part) (post : Tokens) → layer_form.May (removed p) post → deleted_form.May (p, tt) post
delete_may (part.Member target n) post m =
    ((member_part-writing target n ∙ m.0, apart mark.Semicolon refl post), tt)
delete_may (part.Index target key) post m =
    ((index_part-writing target key ∙ m.0, apart mark.Semicolon refl post), tt)

may_delete : (p : Part) (post : Tokens) → deleted_form.May (p, tt) post → layer_form.May (removed p) post
may_delete (part.Member target n) post m = (sym (member_part-writing target n) ∙ m.0.0, λ takes. cc)
may_delete (part.Index target key) post m = (sym (index_part-writing target key) ∙ m.0.0, λ takes. cc)

pub if_may : (test : Expr) (block : Block) (other : Option Block) (post : Tokens) →
    layer_form.May (Stmt-F.If test block other) post → if_form.May (test, (block, other)) post
if_may test block None post m =
    let parts = and_parts (is_written_expr test) (is_written_block block && true) m.0 in
    let blocks = and_parts (is_written_block block) true parts.1 in (
      (parts.0, subst (λ z. NoSuffix z) (sym (append_assoc (spell_block block) [] post)) (before_block block ([] ++ post))),
      (blocks.0, m.1 refl),
    )
if_may test block (Some other) post m =
    let parts = and_parts (is_written_expr test) (is_written_block block && is_written_block other) m.0 in
    let blocks = and_parts (is_written_block block) (is_written_block other) parts.1 in
    let rest : Tokens = Word word.Else ∷ spell_block other in (
      (parts.0, subst (λ z. NoSuffix z) (sym (append_assoc (spell_block block) rest post)) (before_block block (rest ++ post))),
      (blocks.0, blocks.1),
    )

may_if : (test : Expr) (block : Block) (other : Option Block) (post : Tokens) →
    if_form.May (test, (block, other)) post → layer_form.May (Stmt-F.If test block other) post
may_if test block None post m =
    (and_from (is_written_expr test) (is_written_block block && true) m.0.0 (and_from (is_written_block block) true m.1.0 refl), λ takes. m.1.1)
may_if test block (Some other) post m = (
  and_from (is_written_expr test) (is_written_block block && is_written_block other) m.0.0
      (and_from (is_written_block block) (is_written_block other) m.1.0 m.1.1),
  λ takes. cc,
)

pub while_may : (test : Expr) (body : Block) (post : Tokens) → layer_form.May (Stmt-F.While test body) post →
    while_form.May (test, body) post
while_may test body post m =
    let parts = and_parts (is_written_expr test) (is_written_block body) m.0 in
    ((parts.0, before_block body post), parts.1)

pub try_may : (body : Block) (n : List ℕ) (caught : Block) (post : Tokens) → layer_form.May (Stmt-F.Try body n caught) post →
    try_form.May (body, (tt, (n, caught))) post
try_may body n caught post m =
    let parts = and_parts (is_written_block body) (is_written_block caught) m.0 in
    (parts.0, (tt, (tt, parts.1)))

-- What a statement with this first token is: of this form, and built so.

abbrev pub Built : (G : Form) → (G.Tree → Layer) → Layer → Tokens → Type 0
Built G c x post = (b : G.Tree) × ((x ≡ c b) × G.May b post)

abbrev pub LayerAt : Token → Layer → Tokens → Type 0
LayerAt (Word word.Let) x post = Built declared_form declared x post
LayerAt (Word word.Delete) x post = Built deleted_form (λ p. removed p.0) x post
LayerAt (Word word.If) x post = Built if_form chosen x post
LayerAt (Word word.While) x post = Built while_form repeated x post
LayerAt (Word word.Return) x post = Built value_form Stmt-F.Return x post
LayerAt (Word word.Print) x post = Built value_form Stmt-F.Print x post
LayerAt (Word word.Try) x post = Built try_form attempted x post
LayerAt (Word word.Else) x post = ⊥
LayerAt (Mark mark.CloseBrace) x post = ⊥
LayerAt _ x post = Built begun_form begun x post

-- a token that begins an expression begins no other statement
expr_begun : (t : Token) (x : Layer) (post : Tokens) → BeginsExpr t → Built begun_form begun x post → LayerAt t x post
expr_begun (Word word.Let) x post first b = absurd first
expr_begun (Word word.Delete) x post first b = absurd first
expr_begun (Word word.If) x post first b = absurd first
expr_begun (Word word.While) x post first b = absurd first
expr_begun (Word word.Return) x post first b = absurd first
expr_begun (Word word.Print) x post first b = absurd first
expr_begun (Word word.Try) x post first b = absurd first
expr_begun (Word word.Else) x post first b = absurd first
expr_begun (Mark mark.CloseBrace) x post first b = absurd first
expr_begun _ x post first b = b

begun_at : (t : Token) (us post : Tokens) (e : Expr) (tail : (tail_form e).Tree) → begun_form.May (e, tail) post →
    t ∷ us ≡ layer_tokens (begun_by e tail) ++ post → LayerAt t (begun_by e tail) post
begun_at t us post e tail m is =
    expr_begun t (begun_by e tail) post
    (begins_expr t us ((tail_form e).tokens tail ++ post) e m.0.0
    (is ∙ ap (λ z. z ++ post) (begun-spelling e tail post m.1) ∙ append_assoc (spell_expr e) ((tail_form e).tokens tail) post))
    ((e, tail), (refl, m))

-- the statement that begins with this token
pub layer_at : (t : Token) (us post : Tokens) (x : Layer) → layer_form.May x post → t ∷ us ≡ layer_tokens x ++ post →
    LayerAt t x post
layer_at t us post (Stmt-F.Let n e) m is =
    let same : Word word.Let ≡ t = cc in
    subst (λ z. LayerAt z (Stmt-F.Let n e) post) same ((n, e), (refl, let_may n e post m))
layer_at t us post (Stmt-F.Assign n e) m is =
    begun_at t us post (name_expr n) (inr (place.Name n, e)) (may_assign (place.Name n) e post (bare_is_written n) m.0) is
layer_at t us post (Stmt-F.SetMember target n e) m is =
    let parts = and_parts (is_written_expr target) (is_written_expr e) m.0 in
    let p : Part = part.Member target n in
    begun_at t us post (part_expr p) (inr (place.Part p, e))
    (may_assign (place.Part p) e post (member_part-writing target n ∙ parts.0) parts.1) is
layer_at t us post (Stmt-F.SetIndex target key e) m is =
    let parts = and_parts (is_written_expr target && is_written_expr key) (is_written_expr e) m.0 in
    let p : Part = part.Index target key in
    begun_at t us post (part_expr p) (inr (place.Part p, e))
    (may_assign (place.Part p) e post (index_part-writing target key ∙ parts.0) parts.1) is
layer_at t us post (Stmt-F.DeleteMember target n) m is =
    let same : Word word.Delete ≡ t = cc in
    let p : Part = part.Member target n in
    subst (λ z. LayerAt z (removed p) post) same ((p, tt), (refl, delete_may p post m))
layer_at t us post (Stmt-F.DeleteIndex target key) m is =
    let same : Word word.Delete ≡ t = cc in
    let p : Part = part.Index target key in
    subst (λ z. LayerAt z (removed p) post) same ((p, tt), (refl, delete_may p post m))
layer_at t us post (Stmt-F.If test block other) m is =
    let same : Word word.If ≡ t = cc in
    subst (λ z. LayerAt z (Stmt-F.If test block other) post) same ((test, (block, other)), (refl, if_may test block other post m))
layer_at t us post (Stmt-F.While test body) m is =
    let same : Word word.While ≡ t = cc in
    subst (λ z. LayerAt z (Stmt-F.While test body) post) same ((test, body), (refl, while_may test body post m))
layer_at t us post (Stmt-F.Return e) m is =
    let same : Word word.Return ≡ t = cc in
    subst (λ z. LayerAt z (Stmt-F.Return e) post) same (e, (refl, m.0))
layer_at t us post (Stmt-F.Print e) m is =
    let same : Word word.Print ≡ t = cc in
    subst (λ z. LayerAt z (Stmt-F.Print e) post) same (e, (refl, m.0))
layer_at t us post (Stmt-F.Try body n caught) m is =
    let same : Word word.Try ≡ t = cc in
    subst (λ z. LayerAt z (Stmt-F.Try body n caught) post) same ((body, (tt, (n, caught))), (refl, try_may body n caught post m))
layer_at t us post (Stmt-F.Plain e) m is =
    begun_at t us post e (inl tt) ((m.0, apart mark.Semicolon refl post), tt) is

-- The same, where the word was taken.

pub let_0 : (r : Tokens) → At layer_form (Word word.Let ∷ r) declared_form r declared
let_0 r = after_first layer_form declared_form (Word word.Let) r declared
    (λ b post m. refl)
    (λ b post m. (m.1, λ takes. cc))
    (λ us a post m e. layer_at (Word word.Let) us post a m e)

removed-spelling : (p : Part) → layer_tokens (removed p) ≡ Word word.Delete ∷ (spell_expr (part_expr p) ++ Mark mark.Semicolon ∷ [])
removed-spelling (part.Member target n) =
    let dotted : Tokens = Mark mark.Dot ∷ Name n ∷ [] in
    ap (λ z. Word word.Delete ∷ z)
    (sym (append_assoc (spell_expr target) dotted (Mark mark.Semicolon ∷ [])) ∙ ap (λ z. z ++ Mark mark.Semicolon ∷ []) (sym (member_part-spelling target n)))
removed-spelling (part.Index target key) =
    ap (λ z. Word word.Delete ∷ (z ++ Mark mark.Semicolon ∷ [])) (sym (index_part-spelling target key))

pub delete_0 : (r : Tokens) → At layer_form (Word word.Delete ∷ r) deleted_form r (λ p. removed p.0)
delete_0 r = after_first layer_form deleted_form (Word word.Delete) r (λ p. removed p.0)
    (λ b post m. removed-spelling b.0)
    (λ b post m. may_delete b.0 post m)
    (λ us a post m e. layer_at (Word word.Delete) us post a m e)

chosen-spelling : (test : Expr) (block : Block) (other : Option Block) →
    layer_tokens (Stmt-F.If test block other) ≡ Word word.If ∷ if_form.tokens (test, (block, other))
chosen-spelling test block None = ap (λ z. Word word.If ∷ z) (append_assoc (spell_expr test) (spell_block block) [])
chosen-spelling test block (Some other) =
    ap (λ z. Word word.If ∷ z) (append_assoc (spell_expr test) (spell_block block) (Word word.Else ∷ spell_block other))

pub if_0 : (r : Tokens) → At layer_form (Word word.If ∷ r) if_form r chosen
if_0 r = after_first layer_form if_form (Word word.If) r chosen
    (λ b post m. chosen-spelling b.0 b.1.0 b.1.1)
    (λ b post m. may_if b.0 b.1.0 b.1.1 post m)
    (λ us a post m e. layer_at (Word word.If) us post a m e)

pub while_0 : (r : Tokens) → At layer_form (Word word.While ∷ r) while_form r repeated
while_0 r = after_first layer_form while_form (Word word.While) r repeated
    (λ b post m. refl)
    (λ b post m. (and_from (is_written_expr b.0) (is_written_block b.1) m.0.0 m.1, λ takes. cc))
    (λ us a post m e. layer_at (Word word.While) us post a m e)

pub return_0 : (r : Tokens) → At layer_form (Word word.Return ∷ r) value_form r Stmt-F.Return
return_0 r = after_first layer_form value_form (Word word.Return) r Stmt-F.Return
    (λ b post m. refl)
    (λ b post m. (m, λ takes. cc))
    (λ us a post m e. layer_at (Word word.Return) us post a m e)

pub print_0 : (r : Tokens) → At layer_form (Word word.Print ∷ r) value_form r Stmt-F.Print
print_0 r = after_first layer_form value_form (Word word.Print) r Stmt-F.Print
    (λ b post m. refl)
    (λ b post m. (m, λ takes. cc))
    (λ us a post m e. layer_at (Word word.Print) us post a m e)

pub try_0 : (r : Tokens) → At layer_form (Word word.Try ∷ r) try_form r attempted
try_0 r = after_first layer_form try_form (Word word.Try) r attempted
    (λ b post m. refl)
    (λ b post m. (and_from (is_written_block b.0) (is_written_block b.1.1.1) m.0 m.1.1.1, λ takes. cc))
    (λ us a post m e. layer_at (Word word.Try) us post a m e)

-- no statement has no token

some_tokens : (a b : Tokens) (t : Token) (post : Tokens) → (a ++ t ∷ b) ++ post ≢ []
some_tokens [] b t post e = cc
some_tokens (s ∷ a) b t post e = cc

layer_is_some : (x : Layer) (post : Tokens) → layer_tokens x ++ post ≢ []
layer_is_some (Stmt-F.SetMember target n v) post e =
    some_tokens (spell_expr target) (Name n ∷ spell_assigned v) (Mark mark.Dot) post e
layer_is_some (Stmt-F.SetIndex target key v) post e =
    some_tokens (spell_expr target ++ spell_index key) (spell_value v) (Mark mark.Equal) post e
layer_is_some (Stmt-F.Plain v) post e = some_tokens (spell_expr v) [] (Mark mark.Semicolon) post e
layer_is_some _ post e = cc

-- where no word of a statement stands, an expression stands
pub begun_0 : (r : Tokens) → NoWord r → At layer_form r begun_form r begun
begun_0 r none = branch layer_form begun_form r begun
    (λ b post m. begun-spelling b.0 b.1 post m.1)
    begun_may
    only
  where
    by_first : (t : Token) (us post : Tokens) (x : Layer) → GoesOnAs r (t ∷ us) → LayerAt t x post → Built begun_form begun x post
    by_first (Word word.Let) us post x go at = let f = first_is r (Word word.Let ∷ us) us (Word word.Let) go refl in absurd (none.local f.0 f.1)
    by_first (Word word.Delete) us post x go at = let f = first_is r (Word word.Delete ∷ us) us (Word word.Delete) go refl in absurd (none.delete f.0 f.1)
    by_first (Word word.If) us post x go at = let f = first_is r (Word word.If ∷ us) us (Word word.If) go refl in absurd (none.choice f.0 f.1)
    by_first (Word word.While) us post x go at = let f = first_is r (Word word.While ∷ us) us (Word word.While) go refl in absurd (none.loop f.0 f.1)
    by_first (Word word.Return) us post x go at = let f = first_is r (Word word.Return ∷ us) us (Word word.Return) go refl in absurd (none.answer f.0 f.1)
    by_first (Word word.Print) us post x go at = let f = first_is r (Word word.Print ∷ us) us (Word word.Print) go refl in absurd (none.print f.0 f.1)
    by_first (Word word.Try) us post x go at = let f = first_is r (Word word.Try ∷ us) us (Word word.Try) go refl in absurd (none.attempt f.0 f.1)
    by_first (Word word.Else) us post x go at = absurd at
    by_first (Mark mark.CloseBrace) us post x go at = absurd at
    by_first _ us post x go at = at

    by_tokens : (us post : Tokens) (x : Layer) → GoesOnAs r us → layer_form.May x post → us ≡ layer_tokens x ++ post → Built begun_form begun x post
    by_tokens [] post x go m e = absurd (layer_is_some x post (sym e))
    by_tokens (t ∷ us) post x go m e = by_first t us post x go (layer_at t us post x m e)

    only : (us : Tokens) → GoesOnAs r us → (x : Layer) (post : Tokens) → layer_form.May x post → us ≡ layer_tokens x ++ post → Built begun_form begun x post
    only us go x post m e = by_tokens us post x go m e

-- Rows of statements.

-- no statement begins with `else` or a closing brace

pub stmt_is_no_else : (s : Stmt) (post : Tokens) → stmt_form.May s post → BeginsNot (Word word.Else) (spell_stmt s ++ post)
stmt_is_no_else s post m rest e =
    layer_at (Word word.Else) rest post (out-Stmt s) (layer_may s post m) (sym e ∙ ap (λ z. z ++ post) (stmt-spelling s))

pub stmt_is_no_brace : (s : Stmt) (post : Tokens) → stmt_form.May s post → BeginsNot (Mark mark.CloseBrace) (spell_stmt s ++ post)
stmt_is_no_brace s post m rest e =
    layer_at (Mark mark.CloseBrace) rest post (out-Stmt s) (layer_may s post m) (sym e ∙ ap (λ z. z ++ post) (stmt-spelling s))

-- a statement, and more of them
abbrev pub more_stmts_form : Form
more_stmts_form = seq stmt_form (λ _. stmts_form)

abbrev pub first_stmt : more_stmts_form.Tree → List Stmt
first_stmt p = p.0 ∷ p.1

row-spelling : (s : Stmt) (ss : List Stmt) → stmts_form.tokens (s ∷ ss) ≡ more_stmts_form.tokens (s, ss)
row-spelling s ss = append_assoc (spell_stmt s) (flat_map spell_stmt ss) (Mark mark.CloseBrace ∷ [])

-- no row of statements begins with `else`
pub row_is_no_else : (ss : List Stmt) (post : Tokens) → list_all is_written_stmt ss ≡ true →
    BeginsNot (Word word.Else) (stmts_form.tokens ss ++ post)
row_is_no_else [] post w rest e = cc
row_is_no_else (s ∷ ss) post w rest e =
    let parts = and_parts (is_written_stmt s) (list_all is_written_stmt ss) w in
    let row : Tokens = stmts_form.tokens ss in
    stmt_is_no_else s (row ++ post) (parts.0, λ takes. row_is_no_else ss post parts.1) rest
    (sym (append_assoc (spell_stmt s) row post) ∙ ap (λ z. z ++ post) (sym (row-spelling s ss)) ∙ e)

pub row_may : (s : Stmt) (ss : List Stmt) (post : Tokens) → list_all is_written_stmt (s ∷ ss) ≡ true →
    more_stmts_form.May (s, ss) post
row_may s ss post w =
    let parts = and_parts (is_written_stmt s) (list_all is_written_stmt ss) w in
    ((parts.0, λ takes. row_is_no_else ss post parts.1), parts.1)

-- where no brace closes the block, a statement stands
pub row_0 : (r : Tokens) → BeginsNot (Mark mark.CloseBrace) r → At stmts_form r more_stmts_form r first_stmt
row_0 r none = branch stmts_form more_stmts_form r first_stmt
    (λ b post m. row-spelling b.0 b.1)
    (λ b post m. and_from (is_written_stmt b.0) (list_all is_written_stmt b.1) m.0.0 m.1)
    (λ us go a post m e. only us go post a m e)
  where
    only : (us : Tokens) → GoesOnAs r us → (post : Tokens) (a : List Stmt) → list_all is_written_stmt a ≡ true →
        us ≡ stmts_form.tokens a ++ post →
        (b : more_stmts_form.Tree) × ((a ≡ first_stmt b) × more_stmts_form.May b post)
    only us go post [] m e = let f = first_is r us post (Mark mark.CloseBrace) go e in absurd (none f.0 f.1)
    only us go post (s ∷ ss) m e = ((s, ss), (refl, row_may s ss post m))

-- a brace closes the block
pub row_end : (rest : Tokens) → Reads stmts_form (Mark mark.CloseBrace ∷ rest) [] rest
row_end rest = record { split = refl; may = refl }
