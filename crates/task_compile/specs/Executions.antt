-- What statements and blocks do, by recursion on their trees.
use Rattle.std.specs.Prelude.{ℕ, zero, suc, ◌+◌, false, List, [], ◌∷◌, Option, None, Some}
use Rattle.dyn_value.specs.declared.fault.Fault.{Fault}
use Rattle.dyn_value.specs.declared.fault.Fault.TheVariants.{Turns}
use Rattle.dyn_value.specs.declared.operator.UnOp.TheVariants as unary
use Rattle.dyn_value.specs.declared.value.Value.{Value}
use Rattle.dyn_value.specs.declared.value.Value.TheVariants as value
use Rattle.dyn_value.specs.Texts.{plain, fault_text}
use Rattle.standard_binders.specs.declared.binder.Binder.TheVariants as binder
use Rattle.script_grammar.specs.declared.tree.Block.{Block}
use Rattle.script_grammar.specs.declared.tree.Expr.{Expr}
use Rattle.script_grammar.specs.declared.tree.Stmt.{Stmt}
use Rattle.script_grammar.specs.declared.tree.Stmt.TheFolds.{fold-Block, fold-Stmt}
use Rattle.script_grammar.specs.declared.tree.Stmt.TheOpen.{Stmt-F, Block-F}
use Rattle.task_code.specs.declared.frame.Flow.{Flow}
use Rattle.task_code.specs.declared.frame.Flow.TheVariants as flow
use Rattle.task_code.specs.Acts.{Act, Prints, gives, fails, and_then, ends_in, catches, within, chosen}
use Rattle.task_compile.specs.States.{State, Given, declared, assigned, left_scope, counted, asks}
use Rattle.task_compile.specs.Evaluations.{Part, Evaluates, expr_part}

-- a statement or a block, with so many levels left
abbrev pub Executes : Type 0
Executes = Part (ℕ → State → Act State Flow)

-- the next statement comes
abbrev pub next_after : {A : Type 0} → A → State → Act State Flow
next_after v s = gives flow.Next s

abbrev pub on_next : (State → Act State Flow) → Flow → State → Act State Flow
on_next go flow.Next s = go s
on_next go (flow.Returned v) s = gives (flow.Returned v) s

-- a block opens a level, and its locals are in scope up to its end, however it ends
abbrev pub block_act : Executes → ℕ → ℕ → State → Act State Flow
block_act b site levels s = within levels s (λ inner. ends_in (left_scope s) (b.from site inner s))

-- IsTrue is made of a test's value
abbrev pub tests : Evaluates → ℕ → ℕ → State → Act State Value
tests e site levels s =
    and_then (e.from (site + 1) levels s) (λ v after. asks site (binder.UnaryOperation unary.IsTrue) (v ∷ []) after)

-- A loop, by recursion on a number above the turns that are left: a turn is counted before its body is entered.
abbrev pub loops : ℕ → (State → Act State Value) → (State → Act State Flow) → State → Act State Flow
loops zero test body s = fails Turns s
loops (suc more) test body s = and_then (test s) (λ v after.
    chosen v (counted after (λ entered. and_then (body entered) (on_next (loops more test body)))) (gives flow.Next after))

-- a fault is handled in a block, where the name has the fault's text
abbrev pub caught_act : Executes → List ℕ → ℕ → ℕ → Fault → State → Act State Flow
caught_act b name site levels f s =
    within levels s (λ inner. ends_in (left_scope s) (b.from site inner (declared name (value.Text (fault_text f)) s)))

abbrev pub other_sites : Option Executes → ℕ
other_sites None = 0
other_sites (Some b) = b.sites

abbrev pub other_act : Option Executes → ℕ → ℕ → State → Act State Flow
other_act None site levels s = gives flow.Next s
other_act (Some b) site levels s = block_act b site levels s

-- an expression, and what comes after its value
abbrev pub then_part : Evaluates → (Value → State → Act State Flow) → Executes
then_part e next = record { sites = e.sites; from = λ site levels s. and_then (e.from site levels s) next }

-- an expression between brackets, in a level of its own
abbrev pub key_act : Evaluates → ℕ → ℕ → State → Act State Value
key_act key site levels s = within levels s (λ inner. key.from site inner s)

abbrev pub set_member_part : Evaluates → List ℕ → Evaluates → Executes
set_member_part target n e = record {
  sites = target.sites + (1 + e.sites);
  from = λ site levels s.
      and_then (target.from site levels s) (λ object after_target.
      and_then (e.from (site + target.sites + 1) levels after_target) (λ v after_value.
      and_then (asks (site + target.sites) (binder.SetMember n false) (object ∷ v ∷ []) after_value) next_after));
}

abbrev pub set_index_part : Evaluates → Evaluates → Evaluates → Executes
set_index_part target key e = record {
  sites = target.sites + (1 + (key.sites + e.sites));
  from = λ site levels s.
      and_then (target.from site levels s) (λ object after_target.
      and_then (key_act key (site + target.sites + 1) levels after_target) (λ k after_key.
      and_then (e.from (site + target.sites + 1 + key.sites) levels after_key) (λ v after_value.
      and_then (asks (site + target.sites) binder.SetIndex (object ∷ k ∷ v ∷ []) after_value) next_after)));
}

abbrev pub delete_member_part : Evaluates → List ℕ → Executes
delete_member_part target n = record {
  sites = target.sites + 1;
  from = λ site levels s.
      and_then (target.from site levels s) (λ object after_target.
      and_then (asks (site + target.sites) (binder.DeleteMember n false) (object ∷ []) after_target) next_after);
}

abbrev pub delete_index_part : Evaluates → Evaluates → Executes
delete_index_part target key = record {
  sites = target.sites + (1 + key.sites);
  from = λ site levels s.
      and_then (target.from site levels s) (λ object after_target.
      and_then (key_act key (site + target.sites + 1) levels after_target) (λ k after_key.
      and_then (asks (site + target.sites) binder.DeleteIndex (object ∷ k ∷ []) after_key) next_after));
}

abbrev pub if_part : Evaluates → Executes → Option Executes → Executes
if_part test body other = record {
  sites = 1 + (test.sites + (body.sites + other_sites other));
  from = λ site levels s. and_then (tests test site levels s) (λ v after.
      chosen v (block_act body (site + 1 + test.sites) levels after) (other_act other (site + 1 + test.sites + body.sites) levels after));
}

abbrev pub while_part : Evaluates → Executes → Executes
while_part test body = record {
  sites = 1 + (test.sites + body.sites);
  from = λ site levels s.
      loops (suc s.turns) (tests test site levels) (block_act body (site + 1 + test.sites) levels) s;
}

abbrev pub stmt_part : Given → Stmt-F Executes Executes → Executes
stmt_part given (Stmt-F.Let n e) = then_part (expr_part given e) (λ v after. gives flow.Next (declared n v after))
stmt_part given (Stmt-F.Assign n e) = then_part (expr_part given e) (λ v after. gives flow.Next (assigned n v after))
stmt_part given (Stmt-F.SetMember target n e) = set_member_part (expr_part given target) n (expr_part given e)
stmt_part given (Stmt-F.SetIndex target key e) =
    set_index_part (expr_part given target) (expr_part given key) (expr_part given e)
stmt_part given (Stmt-F.DeleteMember target n) = delete_member_part (expr_part given target) n
stmt_part given (Stmt-F.DeleteIndex target key) = delete_index_part (expr_part given target) (expr_part given key)
stmt_part given (Stmt-F.If test body other) = if_part (expr_part given test) body other
stmt_part given (Stmt-F.While test body) = while_part (expr_part given test) body
stmt_part given (Stmt-F.Return e) = then_part (expr_part given e) (λ v after. gives (flow.Returned v) after)
stmt_part given (Stmt-F.Print e) = then_part (expr_part given e) (λ v after. Prints (plain v) (gives flow.Next after))
stmt_part given (Stmt-F.Try body n caught) = record {
  sites = body.sites + caught.sites;
  from = λ site levels s. catches (block_act body site levels s) (caught_act caught n (site + body.sites) levels);
}
stmt_part given (Stmt-F.Plain e) = then_part (expr_part given e) next_after

-- statements, one after another, up to one that returns
abbrev pub stmts_part : List Executes → Executes
stmts_part [] = record { sites = 0; from = λ site levels s. gives flow.Next s }
stmts_part (x ∷ xs) = record {
  sites = x.sites + (stmts_part xs).sites;
  from = λ site levels s. and_then (x.from site levels s) (on_next (λ after.
      (stmts_part xs).from (site + x.sites) levels after));
}

abbrev pub layer_stmts : Block-F Executes Executes → Executes
layer_stmts b = stmts_part b.0

-- what the statements of a block do
abbrev pub block_part : Given → Block → Executes
block_part given b = fold-Block Executes Executes (stmt_part given) layer_stmts b

-- what a statement does
abbrev pub part_of_stmt : Given → Stmt → Executes
part_of_stmt given x = fold-Stmt Executes Executes (stmt_part given) layer_stmts x
