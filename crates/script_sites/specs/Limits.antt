-- How many of each a script may have.
use Rattle.std.specs.Prelude.{◌≡◌, ℕ, ◌+◌, ◌<◌, Bool, true, false, ◌&&◌, nat_le, Option, None, Some, length, sum}
use Rattle.std.specs.List.{list_all}
use Rattle.std.specs.Set.{distinct_count}
use Rattle.standard_binders.specs.Binders.{is_same_binder}
use Rattle.script_grammar.specs.declared.tree.Stmt.TheFolds.{fold-Block, fold-Stmt}
use Rattle.script_grammar.specs.declared.tree.Stmt.TheOpen.{Stmt-F, Block-F}
use Rattle.script_grammar.specs.declared.tree.Stmt.{Stmt}
use Rattle.script_grammar.specs.declared.tree.Block.{Block}
use Rattle.script_grammar.specs.declared.tree.Function.{Function}
use Rattle.script_grammar.specs.declared.tree.Task.{Task}
use Rattle.script_grammar.specs.declared.tree.Script.{Script}
use Rattle.script_sites.specs.declared.limits.What.{What}
use Rattle.script_sites.specs.declared.limits.What.TheVariants as what
use Rattle.script_sites.specs.Calls.{has_few_arguments}
use Rattle.script_sites.specs.Sites.{site_binders}

abbrev pub else_locals : Option ℕ → ℕ
else_locals None = 0
else_locals (Some block) = block

-- the names that a statement declares by `let` and `catch`
abbrev pub layer_stmt_locals : Stmt-F ℕ ℕ → ℕ
layer_stmt_locals (Stmt-F.Let n e) = 1
layer_stmt_locals (Stmt-F.If test block other) = block + else_locals other
layer_stmt_locals (Stmt-F.While test body) = body
layer_stmt_locals (Stmt-F.Try body n caught) = body + (caught + 1)
layer_stmt_locals _ = 0

abbrev pub layer_block_locals : Block-F ℕ ℕ → ℕ
layer_block_locals b = sum b.0

abbrev pub stmt_locals : Stmt → ℕ
stmt_locals s = fold-Stmt ℕ ℕ layer_stmt_locals layer_block_locals s

abbrev pub block_locals : Block → ℕ
block_locals b = fold-Block ℕ ℕ layer_stmt_locals layer_block_locals b

abbrev pub has_few_parameters : Function → Bool
has_few_parameters f = nat_le (length f.params) 16

-- the locals of a function are its parameters and the names that its body declares
abbrev pub has_few_function_locals : Function → Bool
has_few_function_locals f = nat_le (length f.params + block_locals f.body) 256

abbrev pub has_few_task_locals : Task → Bool
has_few_task_locals t = nat_le (block_locals t.body) 256

-- whether there are no more than may be: of the shared names, of the parameters of each function, and so on
abbrev pub is_within : What → Script → Bool
is_within what.Shared s = nat_le (length s.shared) 64
is_within what.Functions s = nat_le (length s.functions) 256
is_within what.Tasks s = nat_le (length s.tasks) 8
is_within what.Parameters s = list_all has_few_parameters s.functions
is_within what.Arguments s = list_all has_few_arguments (site_binders s)
is_within what.Locals s = list_all has_few_function_locals s.functions && list_all has_few_task_locals s.tasks
is_within what.Sites s = nat_le (length (site_binders s)) 4096
is_within what.Binders s = nat_le (distinct_count is_same_binder (site_binders s)) 1024

-- the order in which the limits are judged
abbrev pub turn_of : What → ℕ
turn_of what.Shared = 0
turn_of what.Functions = 1
turn_of what.Tasks = 2
turn_of what.Parameters = 3
turn_of what.Arguments = 4
turn_of what.Locals = 5
turn_of what.Sites = 6
turn_of what.Binders = 7

abbrev pub IsWithinLimits : Script → Type 0
IsWithinLimits s = (w : What) → is_within w s ≡ true

-- of all that are judged before this turn there are no more than may be
abbrev pub IsWithinBefore : Script → ℕ → Type 0
IsWithinBefore s turn = (w : What) → turn_of w < turn → is_within w s ≡ true

-- the first, in the order in which they are judged, of which there are more than may be
pub record IsTooMany (s : Script) (w : What) : Type 0 where
  pub above : is_within w s ≡ false
  pub first : IsWithinBefore s (turn_of w)
