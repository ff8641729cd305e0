-- The tokens of a script tree.
use Rattle.std.specs.Prelude.{ℕ, List, [], ◌∷◌, ◌++◌, map, Option, None, Some}
use Rattle.std.specs.List.{flat_map}
use Rattle.script_tokens.specs.declared.token.Token.{Token}
use Rattle.script_tokens.specs.declared.token.Token.TheVariants.{Name, Int, Text, Word, Mark}
use Rattle.script_tokens.specs.declared.token.Keyword.TheVariants as word
use Rattle.script_tokens.specs.declared.token.Symbol.TheVariants as mark
use Rattle.script_grammar.specs.declared.tree.Head.TheFolds.{fold-Head, fold-Suffix, fold-Arg, fold-Expr}
use Rattle.script_grammar.specs.declared.tree.Head.TheOpen.{Head-F, Expr-F, Suffix-F, Arg-F}
use Rattle.script_grammar.specs.declared.tree.Stmt.TheFolds.{fold-Block, fold-Stmt}
use Rattle.script_grammar.specs.declared.tree.Stmt.TheOpen.{Stmt-F, Block-F}
use Rattle.script_grammar.specs.declared.tree.Arg.{Arg}
use Rattle.script_grammar.specs.declared.tree.Expr.{Expr}
use Rattle.script_grammar.specs.declared.tree.Head.{Head}
use Rattle.script_grammar.specs.declared.tree.Suffix.{Suffix}
use Rattle.script_grammar.specs.declared.tree.Stmt.{Stmt}
use Rattle.script_grammar.specs.declared.tree.Block.{Block}
use Rattle.script_grammar.specs.declared.tree.Item.{Item}
use Rattle.script_grammar.specs.declared.tree.Item.TheVariants as item
use Rattle.script_grammar.specs.declared.tree.Function.{Function}
use Rattle.script_grammar.specs.declared.tree.Task.{Task}
use Rattle.script_grammar.specs.declared.tree.Script.{Script}
use Rattle.script_grammar.specs.OperatorSymbols.{operator_symbol, unary_symbol, conversion_word}

abbrev pub Tokens : Type 0
Tokens = List Token

-- the further parts of a row, each after a comma, and the parenthesis that closes it
abbrev pub more_parts : List Tokens → Tokens
more_parts [] = Mark mark.CloseParenthesis ∷ []
more_parts (a ∷ rest) = Mark mark.Comma ∷ a ++ more_parts rest

-- the parts of a row, with commas between them, and the parenthesis that closes it
abbrev pub parts : List Tokens → Tokens
parts [] = Mark mark.CloseParenthesis ∷ []
parts (a ∷ rest) = a ++ more_parts rest

abbrev pub head_spelling : Head-F Tokens Tokens Tokens Tokens → Tokens
head_spelling (Head-F.Int n) = Int n ∷ []
head_spelling (Head-F.Text t) = Text t ∷ []
head_spelling Head-F.Nil = Word word.Nil ∷ []
head_spelling Head-F.True = Word word.True ∷ []
head_spelling Head-F.False = Word word.False ∷ []
head_spelling (Head-F.Name n) = Name n ∷ []
head_spelling (Head-F.Unary op e) = Mark mark.OpenParenthesis ∷ Mark (unary_symbol op) ∷ e ++ Mark mark.CloseParenthesis ∷ []
head_spelling (Head-F.Binary op left right) = Mark mark.OpenParenthesis ∷ left ++ Mark (operator_symbol op) ∷ right ++ Mark mark.CloseParenthesis ∷ []
head_spelling Head-F.New = Word word.New ∷ Mark mark.OpenParenthesis ∷ Mark mark.CloseParenthesis ∷ []
head_spelling (Head-F.NewOf target args) = Word word.New ∷ Mark mark.OpenParenthesis ∷ target ++ more_parts args
head_spelling (Head-F.Convert to e) = Word (conversion_word to) ∷ Mark mark.OpenParenthesis ∷ e ++ Mark mark.CloseParenthesis ∷ []

abbrev pub suffix_spelling : Suffix-F Tokens Tokens Tokens Tokens → Tokens
suffix_spelling (Suffix-F.Member n) = Mark mark.Dot ∷ Name n ∷ []
suffix_spelling (Suffix-F.MemberCall n args) = Mark mark.Dot ∷ Name n ∷ Mark mark.OpenParenthesis ∷ parts args
suffix_spelling (Suffix-F.Index key) = Mark mark.OpenBracket ∷ key ++ Mark mark.CloseBracket ∷ []
suffix_spelling (Suffix-F.Call args) = Mark mark.OpenParenthesis ∷ parts args

-- an argument's name, and what stands after it
abbrev pub named_tokens : Option (List ℕ) → Tokens → Tokens
named_tokens None value = value
named_tokens (Some n) value = Name n ∷ Mark mark.Colon ∷ value

abbrev pub arg_spelling : Arg-F Tokens Tokens Tokens Tokens → Tokens
arg_spelling a = named_tokens a.name a.value

abbrev pub expr_spelling : Expr-F Tokens Tokens Tokens Tokens → Tokens
expr_spelling e = e.head ++ flat_map (λ ts. ts) e.suffixes

abbrev pub spell_expr : Expr → Tokens
spell_expr e = fold-Expr Tokens Tokens Tokens Tokens head_spelling suffix_spelling arg_spelling expr_spelling e

abbrev pub spell_head : Head → Tokens
spell_head h = fold-Head Tokens Tokens Tokens Tokens head_spelling suffix_spelling arg_spelling expr_spelling h

abbrev pub spell_suffix : Suffix → Tokens
spell_suffix s = fold-Suffix Tokens Tokens Tokens Tokens head_spelling suffix_spelling arg_spelling expr_spelling s

abbrev pub spell_arg : Arg → Tokens
spell_arg a = fold-Arg Tokens Tokens Tokens Tokens head_spelling suffix_spelling arg_spelling expr_spelling a

-- an expression, and the semicolon that ends its statement
abbrev pub spell_value : Expr → Tokens
spell_value e = spell_expr e ++ Mark mark.Semicolon ∷ []

-- `=`, an expression, and the semicolon that ends its statement
abbrev pub spell_assigned : Expr → Tokens
spell_assigned e = Mark mark.Equal ∷ spell_value e

-- an expression between brackets
abbrev pub spell_index : Expr → Tokens
spell_index e = Mark mark.OpenBracket ∷ spell_expr e ++ Mark mark.CloseBracket ∷ []

abbrev pub else_spelling : Option Tokens → Tokens
else_spelling None = []
else_spelling (Some block) = Word word.Else ∷ block

abbrev pub stmt_spelling : Stmt-F Tokens Tokens → Tokens
stmt_spelling (Stmt-F.Let n e) = Word word.Let ∷ Name n ∷ spell_assigned e
stmt_spelling (Stmt-F.Assign n e) = Name n ∷ spell_assigned e
stmt_spelling (Stmt-F.SetMember target n e) = spell_expr target ++ Mark mark.Dot ∷ Name n ∷ spell_assigned e
stmt_spelling (Stmt-F.SetIndex target key e) = spell_expr target ++ spell_index key ++ spell_assigned e
stmt_spelling (Stmt-F.DeleteMember target n) = Word word.Delete ∷ spell_expr target ++ Mark mark.Dot ∷ Name n ∷ Mark mark.Semicolon ∷ []
stmt_spelling (Stmt-F.DeleteIndex target key) = Word word.Delete ∷ spell_expr target ++ spell_index key ++ Mark mark.Semicolon ∷ []
stmt_spelling (Stmt-F.If test block other) = Word word.If ∷ spell_expr test ++ block ++ else_spelling other
stmt_spelling (Stmt-F.While test body) = Word word.While ∷ spell_expr test ++ body
stmt_spelling (Stmt-F.Return e) = Word word.Return ∷ spell_value e
stmt_spelling (Stmt-F.Print e) = Word word.Print ∷ spell_value e
stmt_spelling (Stmt-F.Try body n caught) = Word word.Try ∷ body ++ Word word.Catch ∷ Name n ∷ caught
stmt_spelling (Stmt-F.Plain e) = spell_value e

abbrev pub block_spelling : Block-F Tokens Tokens → Tokens
block_spelling b = Mark mark.OpenBrace ∷ flat_map (λ ts. ts) b.0 ++ Mark mark.CloseBrace ∷ []

abbrev pub spell_stmt : Stmt → Tokens
spell_stmt s = fold-Stmt Tokens Tokens stmt_spelling block_spelling s

abbrev pub spell_block : Block → Tokens
spell_block b = fold-Block Tokens Tokens stmt_spelling block_spelling b

abbrev pub spell_shared : List ℕ → Tokens
spell_shared n = Word word.Shared ∷ Name n ∷ Mark mark.Semicolon ∷ []

abbrev pub name_tokens : List ℕ → Tokens
name_tokens n = Name n ∷ []

abbrev pub spell_function : Function → Tokens
spell_function f = Word word.Fn ∷ Name f.name ∷ Mark mark.OpenParenthesis ∷ parts (map name_tokens f.params) ++ spell_block f.body

abbrev pub spell_task : Task → Tokens
spell_task t = Word word.Task ∷ Name t.name ∷ spell_block t.body

-- the tokens of items that declare these shared names, functions and tasks, in order
abbrev pub spell_items : List Item → List (List ℕ) → List Function → List Task → Tokens
spell_items (item.Shared k ∷ items) (n ∷ shared) functions tasks = spell_shared n ++ spell_items items shared functions tasks
spell_items (item.Fun k ∷ items) shared (f ∷ functions) tasks = spell_function f ++ spell_items items shared functions tasks
spell_items (item.Task k ∷ items) shared functions (t ∷ tasks) = spell_task t ++ spell_items items shared functions tasks
spell_items _ _ _ _ = []

abbrev pub spell : Script → Tokens
spell s = spell_items s.items s.shared s.functions s.tasks
