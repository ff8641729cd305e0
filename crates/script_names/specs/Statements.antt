-- The names in statements, and what they declare.
use Rattle.std.specs.Prelude.{ℕ, false, not, List, [], ◌∷◌, ◌++◌, Option, None, Some}
use Rattle.script_grammar.specs.declared.tree.Stmt.TheFolds.{fold-Block, fold-Stmt}
use Rattle.script_grammar.specs.declared.tree.Stmt.TheOpen.{Stmt-F, Block-F}
use Rattle.script_grammar.specs.declared.tree.Expr.{Expr}
use Rattle.script_grammar.specs.declared.tree.Stmt.{Stmt}
use Rattle.script_grammar.specs.declared.tree.Block.{Block}
use Rattle.script_names.specs.declared.item_names.ItemNames.{ItemNames}
use Rattle.script_names.specs.Names.{Flags, Names, is_in, is_taken}
use Rattle.script_names.specs.Expressions.{expr_flags}

-- tokens that depend on the locals in scope
abbrev pub Scoped : Type 0
Scoped = Names → Flags

-- a statement: its tokens, and the names that it adds to the scope for the statements after it
pub record Statement : Type 0 where
  pub flags : Scoped
  pub declares : Names

-- an expression, and the semicolon that ends its statement
abbrev pub value_flags : ItemNames → Expr → Scoped
value_flags items e scope = expr_flags items scope e ++ false ∷ []

-- `=`, an expression, and the semicolon that ends its statement
abbrev pub assigned_flags : ItemNames → Expr → Scoped
assigned_flags items e scope = false ∷ value_flags items e scope

-- an expression between brackets
abbrev pub index_flags : ItemNames → Expr → Scoped
index_flags items e scope = false ∷ expr_flags items scope e ++ false ∷ []

abbrev pub else_flags : Option Scoped → Scoped
else_flags None scope = []
else_flags (Some block) scope = false ∷ block scope

-- a `let` name is in scope after its statement, a `catch` name in its block
abbrev pub layer_stmt_flags : ItemNames → Stmt-F Statement Scoped → Scoped
layer_stmt_flags items (Stmt-F.Let n e) scope = false ∷ is_taken items scope n ∷ assigned_flags items e scope
layer_stmt_flags items (Stmt-F.Assign n e) scope = not (is_in scope n) ∷ assigned_flags items e scope
layer_stmt_flags items (Stmt-F.SetMember target n e) scope = expr_flags items scope target ++ false ∷ false ∷ assigned_flags items e scope
layer_stmt_flags items (Stmt-F.SetIndex target key e) scope = expr_flags items scope target ++ index_flags items key scope ++ assigned_flags items e scope
layer_stmt_flags items (Stmt-F.DeleteMember target n) scope = false ∷ expr_flags items scope target ++ false ∷ false ∷ false ∷ []
layer_stmt_flags items (Stmt-F.DeleteIndex target key) scope = false ∷ expr_flags items scope target ++ index_flags items key scope ++ false ∷ []
layer_stmt_flags items (Stmt-F.If test block other) scope = false ∷ expr_flags items scope test ++ block scope ++ else_flags other scope
layer_stmt_flags items (Stmt-F.While test body) scope = false ∷ expr_flags items scope test ++ body scope
layer_stmt_flags items (Stmt-F.Return e) scope = false ∷ value_flags items e scope
layer_stmt_flags items (Stmt-F.Print e) scope = false ∷ value_flags items e scope
layer_stmt_flags items (Stmt-F.Try body n caught) scope = false ∷ body scope ++ false ∷ is_taken items scope n ∷ caught (scope ++ n ∷ [])
layer_stmt_flags items (Stmt-F.Plain e) scope = value_flags items e scope

abbrev pub layer_declares : Stmt-F Statement Scoped → Names
layer_declares (Stmt-F.Let n e) = n ∷ []
layer_declares _ = []

abbrev pub layer_stmt : ItemNames → Stmt-F Statement Scoped → Statement
layer_stmt items s = record { flags = layer_stmt_flags items s; declares = layer_declares s }

-- statements one after the other, each in the scope that those before it leave
abbrev pub stmts_flags : List Statement → Scoped
stmts_flags [] scope = []
stmts_flags (s ∷ ss) scope = s.flags scope ++ stmts_flags ss (scope ++ s.declares)

abbrev pub layer_block : Block-F Statement Scoped → Scoped
layer_block b scope = false ∷ stmts_flags b.0 scope ++ false ∷ []

abbrev pub statement : ItemNames → Stmt → Statement
statement items s = fold-Stmt Statement Scoped (layer_stmt items) layer_block s

-- the tokens of a block in this scope
abbrev pub block_flags : ItemNames → Names → Block → Flags
block_flags items scope b = fold-Block Statement Scoped (layer_stmt items) layer_block b scope
