-- The sites of a script: what each is asked to do, in the order of their tokens.
use Rattle.std.specs.Prelude.{◌≡◌, ℕ, ◌+◌, false, List, [], ◌∷◌, ◌++◌, length, Option, None, Some}
use Rattle.std.specs.List.{flat_map, filter_map}
use Rattle.dyn_value.specs.declared.operator.UnOp.TheVariants as unary
use Rattle.standard_binders.specs.Arguments.{Arguments}
use Rattle.standard_binders.specs.declared.binder.Binder.{Binder}
use Rattle.standard_binders.specs.declared.binder.Binder.TheVariants as binder
use Rattle.script_grammar.specs.declared.tree.Head.TheFolds.{fold-Expr, fold-Head, fold-Suffix, fold-Arg}
use Rattle.script_grammar.specs.declared.tree.Head.TheOpen.{Head-F, Expr-F, Suffix-F, Arg-F}
use Rattle.script_grammar.specs.declared.tree.Stmt.TheFolds.{fold-Block, fold-Stmt}
use Rattle.script_grammar.specs.declared.tree.Stmt.TheOpen.{Stmt-F, Block-F}
use Rattle.script_grammar.specs.declared.tree.Arg.{Arg}
use Rattle.script_grammar.specs.declared.tree.Expr.{Expr}
use Rattle.script_grammar.specs.declared.tree.Head.{Head}
use Rattle.script_grammar.specs.declared.tree.Suffix.{Suffix}
use Rattle.script_grammar.specs.declared.tree.Stmt.{Stmt}
use Rattle.script_grammar.specs.declared.tree.Block.{Block}
use Rattle.script_grammar.specs.declared.tree.Item.{Item}
use Rattle.script_grammar.specs.declared.tree.Item.TheVariants as item
use Rattle.script_grammar.specs.declared.tree.Function.{Function}
use Rattle.script_grammar.specs.declared.tree.Task.{Task}
use Rattle.script_grammar.specs.declared.tree.Script.{Script}

abbrev pub Binders : Type 0
Binders = List Binder

-- an argument of a call: its name, if it has one, and the binders of its value's sites
pub record Argument : Type 0 where
  pub name : Option (List ℕ)
  pub sites : Binders

abbrev pub argument_sites : List Argument → Binders
argument_sites arguments = flat_map (λ a. a.sites) arguments

-- what a call is handed: how many arguments, and the names of the named ones
abbrev pub call_info : List Argument → Arguments
call_info arguments = record { count = length arguments; names = filter_map (λ a. a.name) arguments }

-- an operator before its operand has its site there, one between two operands after the first; `new` before all
abbrev pub head_sites : Head-F Binders Binders Argument Binders → Binders
head_sites (Head-F.Unary op value) = binder.UnaryOperation op ∷ value
head_sites (Head-F.Binary op left right) = left ++ binder.BinaryOperation op ∷ right
head_sites (Head-F.NewOf target arguments) = binder.CreateInstance (call_info arguments) ∷ target ++ argument_sites arguments
head_sites (Head-F.Convert to value) = binder.Convert to ∷ value
head_sites _ = []

-- a member's name has one, and so has `[`; a member call has one at the name and one at `(`, a plain call one at `(`
abbrev pub suffix_sites : Suffix-F Binders Binders Argument Binders → Binders
suffix_sites (Suffix-F.Member n) = binder.GetMember n false ∷ []
suffix_sites (Suffix-F.MemberCall n arguments) = binder.InvokeMember n false (call_info arguments) ∷ binder.Invoke (call_info arguments) ∷ argument_sites arguments
suffix_sites (Suffix-F.Index key) = binder.GetIndex ∷ key
suffix_sites (Suffix-F.Call arguments) = binder.Invoke (call_info arguments) ∷ argument_sites arguments

abbrev pub argument_of : Arg-F Binders Binders Argument Binders → Argument
argument_of a = record { name = a.name; sites = a.value }

abbrev pub layer_sites : Expr-F Binders Binders Argument Binders → Binders
layer_sites e = e.head ++ flat_map (λ bs. bs) e.suffixes

-- the binders of an expression's sites
abbrev pub expr_sites : Expr → Binders
expr_sites e = fold-Expr Binders Binders Argument Binders head_sites suffix_sites argument_of layer_sites e

-- those of what it begins with
abbrev pub sites_of_head : Head → Binders
sites_of_head h = fold-Head Binders Binders Argument Binders head_sites suffix_sites argument_of layer_sites h

-- those of one suffix
abbrev pub sites_of_suffix : Suffix → Binders
sites_of_suffix s = fold-Suffix Binders Binders Argument Binders head_sites suffix_sites argument_of layer_sites s

-- an argument with the binders of its sites
abbrev pub argument : Arg → Argument
argument a = fold-Arg Binders Binders Argument Binders head_sites suffix_sites argument_of layer_sites a

-- those of `else` and its block
abbrev pub else_sites : Option Binders → Binders
else_sites None = []
else_sites (Some block) = block

-- `if` and `while` have one at the word, before those of the test
abbrev pub layer_stmt_sites : Stmt-F Binders Binders → Binders
layer_stmt_sites (Stmt-F.Let n e) = expr_sites e
layer_stmt_sites (Stmt-F.Assign n e) = expr_sites e
layer_stmt_sites (Stmt-F.SetMember target n e) = expr_sites target ++ binder.SetMember n false ∷ expr_sites e
layer_stmt_sites (Stmt-F.SetIndex target key e) = expr_sites target ++ binder.SetIndex ∷ expr_sites key ++ expr_sites e
layer_stmt_sites (Stmt-F.DeleteMember target n) = expr_sites target ++ binder.DeleteMember n false ∷ []
layer_stmt_sites (Stmt-F.DeleteIndex target key) = expr_sites target ++ binder.DeleteIndex ∷ expr_sites key
layer_stmt_sites (Stmt-F.If test block other) = binder.UnaryOperation unary.IsTrue ∷ expr_sites test ++ block ++ else_sites other
layer_stmt_sites (Stmt-F.While test body) = binder.UnaryOperation unary.IsTrue ∷ expr_sites test ++ body
layer_stmt_sites (Stmt-F.Return e) = expr_sites e
layer_stmt_sites (Stmt-F.Print e) = expr_sites e
layer_stmt_sites (Stmt-F.Try body n caught) = body ++ caught
layer_stmt_sites (Stmt-F.Plain e) = expr_sites e

abbrev pub layer_block_sites : Block-F Binders Binders → Binders
layer_block_sites b = flat_map (λ bs. bs) b.0

abbrev pub stmt_sites : Stmt → Binders
stmt_sites s = fold-Stmt Binders Binders layer_stmt_sites layer_block_sites s

abbrev pub block_sites : Block → Binders
block_sites b = fold-Block Binders Binders layer_stmt_sites layer_block_sites b

abbrev pub function_sites : Function → Binders
function_sites f = block_sites f.body

abbrev pub task_sites : Task → Binders
task_sites t = block_sites t.body

-- those of these items, which declare these shared names, functions and tasks, in order
abbrev pub items_sites : List Item → List (List ℕ) → List Function → List Task → Binders
items_sites (item.Shared k ∷ items) (n ∷ shared) functions tasks = items_sites items shared functions tasks
items_sites (item.Fun k ∷ items) shared (f ∷ functions) tasks = function_sites f ++ items_sites items shared functions tasks
items_sites (item.Task k ∷ items) shared functions (t ∷ tasks) = task_sites t ++ items_sites items shared functions tasks
items_sites _ _ _ _ = []

-- the binder of each site of a script, in the order of their tokens
abbrev pub site_binders : Script → Binders
site_binders s = items_sites s.items s.shared s.functions s.tasks

-- the number of the first site of each function that these items declare, where so many sites stand before them
abbrev pub starts_of_functions : ℕ → List Item → List (List ℕ) → List Function → List Task → List ℕ
starts_of_functions before (item.Shared k ∷ items) (n ∷ shared) functions tasks = starts_of_functions before items shared functions tasks
starts_of_functions before (item.Fun k ∷ items) shared (f ∷ functions) tasks = before ∷ starts_of_functions (before + length (function_sites f)) items shared functions tasks
starts_of_functions before (item.Task k ∷ items) shared functions (t ∷ tasks) = starts_of_functions (before + length (task_sites t)) items shared functions tasks
starts_of_functions _ _ _ _ _ = []

-- the same of each task
abbrev pub starts_of_tasks : ℕ → List Item → List (List ℕ) → List Function → List Task → List ℕ
starts_of_tasks before (item.Shared k ∷ items) (n ∷ shared) functions tasks = starts_of_tasks before items shared functions tasks
starts_of_tasks before (item.Fun k ∷ items) shared (f ∷ functions) tasks = starts_of_tasks (before + length (function_sites f)) items shared functions tasks
starts_of_tasks before (item.Task k ∷ items) shared functions (t ∷ tasks) = before ∷ starts_of_tasks (before + length (task_sites t)) items shared functions tasks
starts_of_tasks _ _ _ _ _ = []

-- how many sites stand before each function, which is the number of its first one
abbrev pub function_starts : Script → List ℕ
function_starts s = starts_of_functions 0 s.items s.shared s.functions s.tasks

-- how many stand before each task
abbrev pub task_starts : Script → List ℕ
task_starts s = starts_of_tasks 0 s.items s.shared s.functions s.tasks

-- the part stands in the row after so many others
pub record IsPartAt (row : Binders) (place : ℕ) (part : Binders) : Type 0 where
  pub before : Binders
  pub after : Binders
  pub split : row ≡ before ++ part ++ after
  pub number : length before ≡ place
