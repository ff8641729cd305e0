-- The grammar of statements, blocks, items and scripts, as forms.
use Rattle.std.specs.Prelude.{◌≡◌, ℕ, Bool, true, false, List, [], ◌∷◌, ◌++◌, length, map, Option, None, Some}
use Rattle.std.specs.List.{flat_map, list_all}
use Rattle.script_grammar.specs.declared.parser.items.Declaration.{Declaration}
use Rattle.script_grammar.specs.declared.parser.items.Declaration.TheVariants as declaration
use Rattle.script_grammar.specs.declared.parser.places.Part.{Part}
use Rattle.script_grammar.specs.declared.parser.places.Part.TheVariants as part
use Rattle.script_grammar.specs.declared.parser.places.Place.{Place}
use Rattle.script_grammar.specs.declared.parser.places.Place.TheVariants as place
use Rattle.script_tokens.specs.declared.token.Keyword.TheVariants as word
use Rattle.script_tokens.specs.declared.token.Symbol.TheVariants as mark
use Rattle.script_tokens.specs.declared.token.Token.TheVariants.{Mark, Word}
use Rattle.script_grammar.specs.declared.tree.Block.{Block}
use Rattle.script_grammar.specs.declared.tree.Expr.{Expr}
use Rattle.script_grammar.specs.declared.tree.Item.TheVariants as item
use Rattle.script_grammar.specs.declared.tree.Script.{Script}
use Rattle.script_grammar.specs.declared.tree.Stmt.{Stmt}
use Rattle.script_grammar.specs.declared.tree.Stmt.TheOpen.{Stmt-F}
use Rattle.script_grammar.specs.declared.tree.Stmt.TheVariants as stmt
use Rattle.script_grammar.specs.declared.tree.Stmt.TheViews.{out-Stmt}
use Rattle.script_grammar.specs.declared.tree.Suffix.{Suffix}
use Rattle.script_grammar.specs.declared.tree.Suffix.TheVariants as suffix
use Rattle.script_grammar.specs.ExpressionForms.{BeginsNot, expr_form, name_expr}
use Rattle.script_grammar.specs.Forms.{Form, Tokens}
use Rattle.script_grammar.specs.Spelling.{spell, spell_expr, spell_value, spell_assigned, spell_stmt, spell_block, else_spelling, parts, more_parts, name_tokens, spell_shared, spell_function, spell_task}
use Rattle.script_grammar.specs.Written.{is_written_expr}
use Rattle.script_grammar.specs.WrittenStatements.{is_written_stmt, is_written_block, is_written}

-- the expression with one suffix more
abbrev pub with_last : Expr → Suffix → Expr
with_last e s = record { head = e.head; suffixes = e.suffixes ++ s ∷ [] }

-- the expression that reads this part
abbrev pub part_expr : Part → Expr
part_expr (part.Member target n) = with_last target (suffix.Member n)
part_expr (part.Index target key) = with_last target (suffix.Index key)

-- the expression that reads what can be assigned to
abbrev pub place_expr : Place → Expr
place_expr (place.Name n) = name_expr n
place_expr (place.Part p) = part_expr p

-- the statement that deletes the part
abbrev pub deletion : Part → Stmt
deletion (part.Member target n) = stmt.DeleteMember target n
deletion (part.Index target key) = stmt.DeleteIndex target key

-- the statement that assigns the expression's value
abbrev pub assignment : Place → Expr → Stmt
assignment (place.Name n) e = stmt.Assign n e
assignment (place.Part (part.Member target n)) e = stmt.SetMember target n e
assignment (place.Part (part.Index target key)) e = stmt.SetIndex target key e

-- an expression that ends in a member or an index
abbrev pub part_form : Form
part_form = record {
  Tree = Part;
  tokens = λ p. spell_expr (part_expr p);
  May = λ p post. expr_form.May (part_expr p) post;
}

-- an expression and a semicolon
abbrev pub value_form : Form
value_form = record { Tree = Expr; tokens = spell_value; May = λ e post. is_written_expr e ≡ true }

-- `=`, an expression and a semicolon
abbrev pub assigned_form : Form
assigned_form = record { Tree = Expr; tokens = spell_assigned; May = λ e post. is_written_expr e ≡ true }

-- whether an `else` would belong to the statement
abbrev pub takes_else : Stmt-F Stmt Block → Bool
takes_else (Stmt-F.If test block None) = true
takes_else _ = false

-- a statement; an `if` without `else` is before none
abbrev pub stmt_form : Form
stmt_form = record {
  Tree = Stmt;
  tokens = spell_stmt;
  May = λ s post. (is_written_stmt s ≡ true) × (takes_else (out-Stmt s) ≡ true → BeginsNot (Word word.Else) post);
}

-- the tokens begin with no word that a statement begins with
pub record NoWord (ts : Tokens) : Type 0 where
  pub local : BeginsNot (Word word.Let) ts
  pub delete : BeginsNot (Word word.Delete) ts
  pub choice : BeginsNot (Word word.If) ts
  pub loop : BeginsNot (Word word.While) ts
  pub answer : BeginsNot (Word word.Return) ts
  pub print : BeginsNot (Word word.Print) ts
  pub attempt : BeginsNot (Word word.Try) ts

-- statements, and the brace that closes their block
abbrev pub stmts_form : Form
stmts_form = record {
  Tree = List Stmt;
  tokens = λ ss. flat_map spell_stmt ss ++ Mark mark.CloseBrace ∷ [];
  May = λ ss post. list_all is_written_stmt ss ≡ true;
}

-- statements between braces
abbrev pub block_form : Form
block_form = record { Tree = Block; tokens = spell_block; May = λ b post. is_written_block b ≡ true }

-- the tokens of the block, if there is one
abbrev pub optional_spelling : Option Block → Option Tokens
optional_spelling None = None
optional_spelling (Some b) = Some (spell_block b)

-- the block that stands after `else` can be written, or no `else` follows
abbrev pub ElseMay : Option Block → Tokens → Type 0
ElseMay None post = BeginsNot (Word word.Else) post
ElseMay (Some b) post = is_written_block b ≡ true

-- `else` and a block, or nothing before what is no `else`
abbrev pub else_form : Form
else_form = record { Tree = Option Block; tokens = λ b. else_spelling (optional_spelling b); May = ElseMay }

-- further names, each after a comma, and the parenthesis that closes them
abbrev pub more_names_form : Form
more_names_form = record {
  Tree = List (List ℕ);
  tokens = λ ns. more_parts (map name_tokens ns);
  May = λ ns post. Unit {0};
}

-- names between parentheses
abbrev pub params_form : Form
params_form = record {
  Tree = List (List ℕ);
  tokens = λ ns. Mark mark.OpenParenthesis ∷ parts (map name_tokens ns);
  May = λ ns post. Unit {0};
}

abbrev pub spell_declaration : Declaration → Tokens
spell_declaration (declaration.Shared n) = spell_shared n
spell_declaration (declaration.Fun f) = spell_function f
spell_declaration (declaration.Task t) = spell_task t

abbrev pub is_written_declaration : Declaration → Bool
is_written_declaration (declaration.Shared n) = true
is_written_declaration (declaration.Fun f) = is_written_block f.body
is_written_declaration (declaration.Task t) = is_written_block t.body

-- an item by what it declares, whatever follows it
abbrev pub declaration_form : Form
declaration_form = record {
  Tree = Declaration;
  tokens = spell_declaration;
  May = λ d post. is_written_declaration d ≡ true;
}

-- a script, after which nothing stands
abbrev pub script_form : Form
script_form = record { Tree = Script; tokens = spell; May = λ s post. (is_written s ≡ true) × (post ≡ []) }

-- the script with one item more
abbrev pub with_declaration : Script → Declaration → Script
with_declaration s (declaration.Shared n) = record {
  items = s.items ++ item.Shared (length s.shared) ∷ [];
  shared = s.shared ++ n ∷ [];
  functions = s.functions;
  tasks = s.tasks;
}
with_declaration s (declaration.Fun f) = record {
  items = s.items ++ item.Fun (length s.functions) ∷ [];
  shared = s.shared;
  functions = s.functions ++ f ∷ [];
  tasks = s.tasks;
}
with_declaration s (declaration.Task t) = record {
  items = s.items ++ item.Task (length s.tasks) ∷ [];
  shared = s.shared;
  functions = s.functions;
  tasks = s.tasks ++ t ∷ [];
}
