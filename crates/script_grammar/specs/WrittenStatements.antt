-- The statements, items and scripts that can be written, beyond what their tokens say.
use Rattle.std.specs.Prelude.{ℕ, ◌+◌, Bool, true, false, ◌&&◌, ◌==◌, List, [], ◌∷◌, Option, None, Some}
use Rattle.std.specs.List.{list_all}
use Rattle.script_grammar.specs.declared.tree.Stmt.TheFolds.{fold-Block, fold-Stmt}
use Rattle.script_grammar.specs.declared.tree.Stmt.TheOpen.{Stmt-F, Block-F}
use Rattle.script_grammar.specs.declared.tree.Stmt.{Stmt}
use Rattle.script_grammar.specs.declared.tree.Block.{Block}
use Rattle.script_grammar.specs.declared.tree.Item.{Item}
use Rattle.script_grammar.specs.declared.tree.Item.TheVariants as item
use Rattle.script_grammar.specs.declared.tree.Function.{Function}
use Rattle.script_grammar.specs.declared.tree.Task.{Task}
use Rattle.script_grammar.specs.declared.tree.Script.{Script}
use Rattle.script_grammar.specs.Written.{is_written_expr}

-- no block, or one that can be written
abbrev pub else_writing : Option Bool → Bool
else_writing None = true
else_writing (Some block) = block

abbrev pub stmt_writing : Stmt-F Bool Bool → Bool
stmt_writing (Stmt-F.Let n e) = is_written_expr e
stmt_writing (Stmt-F.Assign n e) = is_written_expr e
stmt_writing (Stmt-F.SetMember target n e) = is_written_expr target && is_written_expr e
stmt_writing (Stmt-F.SetIndex target key e) = (is_written_expr target && is_written_expr key) && is_written_expr e
stmt_writing (Stmt-F.DeleteMember target n) = is_written_expr target
stmt_writing (Stmt-F.DeleteIndex target key) = is_written_expr target && is_written_expr key
stmt_writing (Stmt-F.If test block other) = is_written_expr test && (block && else_writing other)
stmt_writing (Stmt-F.While test body) = is_written_expr test && body
stmt_writing (Stmt-F.Return e) = is_written_expr e
stmt_writing (Stmt-F.Print e) = is_written_expr e
stmt_writing (Stmt-F.Try body n caught) = body && caught
stmt_writing (Stmt-F.Plain e) = is_written_expr e

abbrev pub block_writing : Block-F Bool Bool → Bool
block_writing b = list_all (λ written. written) b.0

abbrev pub is_written_stmt : Stmt → Bool
is_written_stmt s = fold-Stmt Bool Bool stmt_writing block_writing s

abbrev pub is_written_block : Block → Bool
is_written_block b = fold-Block Bool Bool stmt_writing block_writing b

-- Whether items can be written after so many shared names, functions and tasks: each has the next number of its
-- kind and declares the next of its kind, none of which is left over, and their bodies can be written.
abbrev pub are_written_items : ℕ → ℕ → ℕ → List Item → List (List ℕ) → List Function →
    List Task → Bool
are_written_items s f t [] [] [] [] = true
are_written_items s f t (item.Shared k ∷ items) (n ∷ shared) functions tasks =
    (k == s) && are_written_items (s + 1) f t items shared functions tasks
are_written_items s f t (item.Fun k ∷ items) shared (g ∷ functions) tasks =
    (k == f) && (is_written_block g.body && are_written_items s (f + 1) t items shared functions tasks)
are_written_items s f t (item.Task k ∷ items) shared functions (h ∷ tasks) =
    (k == t) && (is_written_block h.body && are_written_items s f (t + 1) items shared functions tasks)
are_written_items _ _ _ _ _ _ _ = false

-- items in order, one for each shared name, function and task, and bodies that can be written
abbrev pub is_written : Script → Bool
is_written s = are_written_items 0 0 0 s.items s.shared s.functions s.tasks
