-- The code of a statement, from the code of its parts as they were compiled.
use Rattle.std.proofs.Common.{◌≡◌, ℕ, ◌+◌, ◌≤◌, List, [], ◌∷◌, ◌++◌, length, map, take, get_or, Option, None, Some, Result, refl, sym, ap, ◌∙◌, subst, arith, length-append, append-nil}
use Rattle.std.specs.Prelude.{Ok, Err, OnOk, IfOk}
use Rattle.std.specs.Option.{option_map}
use Rattle.std.proofs.lemmas.List.{take_more}
use Rattle.script_grammar.specs.declared.tree.Block.{Block}
use Rattle.script_grammar.specs.declared.tree.Expr.{Expr}
use Rattle.script_grammar.specs.declared.tree.Stmt.{Stmt}
use Rattle.script_grammar.specs.declared.tree.Stmt.TheVariants as stmt
use Rattle.script_sites.specs.Sites.{Binders, block_sites, else_sites, expr_sites, layer_block_sites, layer_stmt_sites, stmt_sites}
use Rattle.task_code.specs.declared.code.Node.{Node}
use Rattle.task_code.specs.declared.code.Step.{Step}
use Rattle.task_code.specs.declared.code.Step.TheVariants as step
use Rattle.task_code.specs.declared.code.Steps.{Steps}
use Rattle.task_compile.specs.declared.names.ItemNames.{ItemNames}
use Rattle.task_compile.specs.States.{Names}
use Rattle.task_compile.specs.Compiled.{IsNode}
use Rattle.task_compile.specs.CompiledBlocks.{AreSteps, IsOther, IsStep, IsSteps, declares, layer_declares, none_declared}
use Rattle.task_compile.proofs.BlockForms.{is_if, is_try, is_while}
use Rattle.task_compile.proofs.StatementFolds as folds
use Rattle.task_compile.proofs.StepRows.{one_more_step}

pub let_count : (n : List ℕ) (e : Expr) → length (stmt_sites (stmt.Let n e)) ≡ length (expr_sites e)
let_count n e = ap length (folds.stmt-Let Binders Binders layer_stmt_sites layer_block_sites n e)

pub assign_count : (n : List ℕ) (e : Expr) → length (stmt_sites (stmt.Assign n e)) ≡ length (expr_sites e)
assign_count n e = ap length (folds.stmt-Assign Binders Binders layer_stmt_sites layer_block_sites n e)

pub set_member_count : (target : Expr) (n : List ℕ) (e : Expr) → length (stmt_sites (stmt.SetMember target n e)) ≡ length (expr_sites target) + 1 + length (expr_sites e)
set_member_count target n e = ap length (folds.stmt-SetMember Binders Binders layer_stmt_sites layer_block_sites target n e) ∙ simp length-append (omega arith)

pub set_index_count : (target key e : Expr) → length (stmt_sites (stmt.SetIndex target key e)) ≡ length (expr_sites target) + 1 + length (expr_sites key) + length (expr_sites e)
set_index_count target key e = ap length (folds.stmt-SetIndex Binders Binders layer_stmt_sites layer_block_sites target key e) ∙ simp length-append (omega arith)

pub delete_member_count : (target : Expr) (n : List ℕ) → length (stmt_sites (stmt.DeleteMember target n)) ≡ length (expr_sites target) + 1
delete_member_count target n = ap length (folds.stmt-DeleteMember Binders Binders layer_stmt_sites layer_block_sites target n) ∙ simp length-append (omega arith)

pub delete_index_count : (target key : Expr) → length (stmt_sites (stmt.DeleteIndex target key)) ≡ length (expr_sites target) + 1 + length (expr_sites key)
delete_index_count target key = ap length (folds.stmt-DeleteIndex Binders Binders layer_stmt_sites layer_block_sites target key) ∙ simp length-append (omega arith)

pub if_count : (test : Expr) (body : Block) (other : Option Block) → length (stmt_sites (stmt.If test body other)) ≡ 1 + length (expr_sites test) + length (block_sites body) + length (else_sites (option_map block_sites other))
if_count test body other = ap length (folds.stmt-If Binders Binders layer_stmt_sites layer_block_sites test body other) ∙ simp length-append (omega arith)

pub while_count : (test : Expr) (body : Block) → length (stmt_sites (stmt.While test body)) ≡ 1 + length (expr_sites test) + length (block_sites body)
while_count test body = ap length (folds.stmt-While Binders Binders layer_stmt_sites layer_block_sites test body) ∙ simp length-append (omega arith)

pub try_count : (body : Block) (n : List ℕ) (caught : Block) → length (stmt_sites (stmt.Try body n caught)) ≡ length (block_sites body) + length (block_sites caught)
try_count body n caught = ap length (folds.stmt-Try Binders Binders layer_stmt_sites layer_block_sites body n caught) ∙ simp length-append (omega arith)

pub return_count : (e : Expr) → length (stmt_sites (stmt.Return e)) ≡ length (expr_sites e)
return_count e = ap length (folds.stmt-Return Binders Binders layer_stmt_sites layer_block_sites e)

pub print_count : (e : Expr) → length (stmt_sites (stmt.Print e)) ≡ length (expr_sites e)
print_count e = ap length (folds.stmt-Print Binders Binders layer_stmt_sites layer_block_sites e)

pub plain_count : (e : Expr) → length (stmt_sites (stmt.Plain e)) ≡ length (expr_sites e)
plain_count e = ap length (folds.stmt-Plain Binders Binders layer_stmt_sites layer_block_sites e)

-- what is given holds at Ok
pub on_ok_given : {A E P : Type 0} (r : Result A E) → P → OnOk r P
on_ok_given (Ok a) p = p
on_ok_given (Err e) p = tt

module _ (items : ItemNames) where
  expr_at : (scope : Names) (site at : ℕ) (e : Expr) (n : Node) → site ≡ at → IsNode items scope site e n → IsNode items scope at e n
  expr_at scope site at e n p is = subst (λ z. IsNode items scope z e n) p is

  steps_at : (scope : Names) (site at : ℕ) (b : Block) (steps : Steps) → site ≡ at → IsSteps items scope site b steps → IsSteps items scope at b steps
  steps_at scope site at b steps p is = subst (λ z. IsSteps items scope z b steps) p is

  pub while_case : (scope : Names) (site number start next : ℕ) (test : Expr) (body : Block) (n : Node) (steps : Steps) → number ≡ site → start ≡ site + 1 → next ≡ start + length (expr_sites test)
      → IsNode items scope start test n → IsSteps items scope next body steps → IsStep items scope site (stmt.While test body) (step.While number n steps)
  while_case scope site number start next test body n steps p q r one two =
      let at : next ≡ site + 1 + length (expr_sites test) = omega arith in
      subst (λ z. IsStep items scope site (stmt.While test body) (step.While z n steps)) (sym p) (is_while items scope site next test body n steps at (expr_at scope start (site + 1) test n q one) two)

  pub if_case : (scope : Names) (site number start next last : ℕ) (test : Expr) (body : Block) (other : Option Block) (n : Node) (steps : Steps) (others : Option Steps) → number ≡ site → start ≡ site + 1 → next ≡ start + length (expr_sites test)
      → last ≡ next + length (block_sites body) → IsNode items scope start test n → IsSteps items scope next body steps → IsOther items scope last other others
      → IsStep items scope site (stmt.If test body other) (step.If number n steps others)
  if_case scope site number start next last test body other n steps others p q r t one two three =
      let at : next ≡ site + 1 + length (expr_sites test) = omega arith in
      subst (λ z. IsStep items scope site (stmt.If test body other) (step.If z n steps others)) (sym p) (is_if items scope site next last test body other n steps others at t (expr_at scope start (site + 1) test n q one) two three)

  pub try_case : (scope inner : Names) (site next local : ℕ) (body caught : Block) (name : List ℕ) (steps others : Steps) → local ≡ length scope → inner ≡ scope ++ name ∷ [] → next ≡ site + length (block_sites body)
      → IsSteps items scope site body steps → IsSteps items inner next caught others → IsStep items scope site (stmt.Try body name caught) (step.Try steps local others)
  try_case scope inner site next local body caught name steps others p q r one two =
      subst (λ z. IsStep items scope site (stmt.Try body name caught) (step.Try steps z others)) (sym p)
      (is_try items scope site next body caught name steps others r one (subst (λ z. IsSteps items z next caught others) q two))

  pub more_steps : (xs : List Stmt) (i : ℕ) (d : Stmt) (steps more : List Step) (n : Step) (scope : Names) (site next last : ℕ) (after later : Names) → i + 1 ≤ length xs → d ≡ get_or xs i d → more ≡ steps ++ n ∷ []
      → last ≡ next + length (stmt_sites d) → later ≡ after ++ declares d → AreSteps items scope site (take i xs) steps next after → IsStep items after next d n → AreSteps items scope site (take (i + 1) xs) more last later
  more_steps xs i d steps more n scope site next last after later inside at grown moved declared are is =
      let taken : take (i + 1) xs ≡ take i xs ++ d ∷ [] = take_more xs i d (omega arith) ∙ ap (λ z. take i xs ++ z ∷ []) (sym at) in
      let one = one_more_step items (take i xs) steps d n scope site next after are is in
      subst (λ z. AreSteps items scope site (take (i + 1) xs) more last z) (sym declared)
      (subst (λ z. AreSteps items scope site (take (i + 1) xs) more z (after ++ declares d)) (sym moved)
      (subst (λ z. AreSteps items scope site (take (i + 1) xs) z (next + length (stmt_sites d)) (after ++ declares d)) (sym grown)
      (subst (λ z. AreSteps items scope site z (steps ++ n ∷ []) (next + length (stmt_sites d)) (after ++ declares d)) (sym taken) one)))

-- the names that statements declare
pub declares-Let : (n : List ℕ) (e : Expr) → declares (stmt.Let n e) ≡ n ∷ []
declares-Let n e = folds.stmt-Let Names Names layer_declares none_declared n e

pub declares-Assign : (n : List ℕ) (e : Expr) → declares (stmt.Assign n e) ≡ []
declares-Assign n e = folds.stmt-Assign Names Names layer_declares none_declared n e

pub declares-SetMember : (target : Expr) (n : List ℕ) (e : Expr) → declares (stmt.SetMember target n e) ≡ []
declares-SetMember target n e = folds.stmt-SetMember Names Names layer_declares none_declared target n e

pub declares-SetIndex : (target key e : Expr) → declares (stmt.SetIndex target key e) ≡ []
declares-SetIndex target key e = folds.stmt-SetIndex Names Names layer_declares none_declared target key e

pub declares-DeleteMember : (target : Expr) (n : List ℕ) → declares (stmt.DeleteMember target n) ≡ []
declares-DeleteMember target n = folds.stmt-DeleteMember Names Names layer_declares none_declared target n

pub declares-DeleteIndex : (target key : Expr) → declares (stmt.DeleteIndex target key) ≡ []
declares-DeleteIndex target key = folds.stmt-DeleteIndex Names Names layer_declares none_declared target key

pub declares-If : (test : Expr) (body : Block) (other : Option Block) → declares (stmt.If test body other) ≡ []
declares-If test body other = folds.stmt-If Names Names layer_declares none_declared test body other

pub declares-While : (test : Expr) (body : Block) → declares (stmt.While test body) ≡ []
declares-While test body = folds.stmt-While Names Names layer_declares none_declared test body

pub declares-Return : (e : Expr) → declares (stmt.Return e) ≡ []
declares-Return e = folds.stmt-Return Names Names layer_declares none_declared e

pub declares-Print : (e : Expr) → declares (stmt.Print e) ≡ []
declares-Print e = folds.stmt-Print Names Names layer_declares none_declared e

pub declares-Try : (body : Block) (n : List ℕ) (caught : Block) → declares (stmt.Try body n caught) ≡ []
declares-Try body n caught = folds.stmt-Try Names Names layer_declares none_declared body n caught

pub declares-Plain : (e : Expr) → declares (stmt.Plain e) ≡ []
declares-Plain e = folds.stmt-Plain Names Names layer_declares none_declared e
