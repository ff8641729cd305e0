-- What the code of a statement is, form by form.
use Rattle.std.proofs.Common.{◌≡◌, ℕ, suc, ◌+◌, ◌≤◌, false, List, [], ◌∷◌, ◌++◌, length, Option, None, Some, refl, sym, ap, ◌∙◌, subst, arith, length-append, append-nil}
use Rattle.std.specs.List.{position}
use Rattle.std.specs.Str.{bytes_eq}
use Rattle.dyn_value.specs.declared.value.Value.{Value}
use Rattle.dyn_value.specs.Texts.{plain}
use Rattle.standard_binders.specs.Binders.{operand_count_of}
use Rattle.standard_binders.specs.declared.binder.Binder.{Binder}
use Rattle.standard_binders.specs.declared.binder.Binder.TheVariants as binder
use Rattle.script_grammar.specs.declared.tree.Block.{Block}
use Rattle.script_grammar.specs.declared.tree.Expr.{Expr}
use Rattle.script_grammar.specs.declared.tree.Stmt.{Stmt}
use Rattle.script_grammar.specs.declared.tree.Stmt.TheFolds.{fold-Block, fold-Stmt}
use Rattle.script_grammar.specs.declared.tree.Stmt.TheOpen.{Block-F, Stmt-F}
use Rattle.script_grammar.specs.declared.tree.Stmt.TheVariants as stmt
use Rattle.script_grammar.specs.Spelling.{Tokens, block_spelling, spell_block, spell_expr, spell_index, spell_value, stmt_spelling}
use Rattle.script_sites.specs.Sites.{Binders, block_sites, expr_sites, layer_block_sites, layer_stmt_sites}
use Rattle.task_code.specs.declared.code.Node.{Node}
use Rattle.task_code.specs.declared.code.Step.{Step}
use Rattle.task_code.specs.declared.code.Steps.{Steps}
use Rattle.task_code.specs.declared.code.Step.TheFolds.{fold-Step, fold-Steps}
use Rattle.task_code.specs.declared.code.Step.TheOpen.{Step-F, Steps-F}
use Rattle.task_code.specs.declared.code.Step.TheVariants as step
use Rattle.task_code.specs.declared.frame.Flow.{Flow}
use Rattle.task_code.specs.declared.frame.Flow.TheVariants as flow
use Rattle.task_code.specs.declared.frame.Frame.{Frame}
use Rattle.task_code.specs.Acts.{Act, Prints, and_then, gives, within}
use Rattle.task_code.specs.Codes as code
use Rattle.task_code.specs.Codes.{Around, Plan, body_act, node_act, step_step, steps_step, with_put}
use Rattle.task_code.specs.Costs.{Uses, node_cost, node_uses, step_costs, step_used, steps_cost, steps_costs, steps_used, steps_uses}
use Rattle.task_compile.specs.declared.names.ItemNames.{ItemNames}
use Rattle.task_compile.specs.States.{Names, State, Given, asks, assigned, declared}
use Rattle.task_compile.specs.Evaluations.{Part, expr_part}
use Rattle.task_compile.specs.Executions.{Executes, block_part, key_act, layer_stmts, next_after, stmt_part, then_part}
use Rattle.task_compile.specs.Agreements.{Agrees, state_of}
use Rattle.task_compile.specs.Compiled.{Code, HasBinder, HasBinders, IsNode, IsSized, Tree, code_of_node, given_in, tree_of_expr}
use Rattle.task_compile.specs.CompiledBlocks.{Execution, IsExecution, IsStep, code_of_step, declares, layer_declares, none_declared, tree_of_stmt}
use Rattle.task_compile.proofs.Agreement.{agrees_asks, agrees_then, agrees_within}
use Rattle.task_compile.proofs.BlockAgreement.{agrees_before, agrees_declaring}
use Rattle.task_compile.proofs.LocalNumbers.{assigns_at, assigns_none}
use Rattle.task_compile.proofs.StatementFolds as folds
use Rattle.task_compile.proofs.SitePlaces.{evaluates, fits_both, has_at, has_parts, is_site}

-- a statement of this layer
abbrev pub layer_tree : ((A B : Type 0) → (Block → B) → Stmt-F A B) → Execution
layer_tree layer = record {
  part = λ given. stmt_part given (layer Executes Executes (block_part given));
  binders = layer_stmt_sites (layer Binders Binders block_sites);
  tokens = stmt_spelling (layer Tokens Tokens spell_block);
}

abbrev pub layer_code : ((A B : Type 0) → (Steps → B) → Step-F A B) → Code code.Executes
layer_code layer = record {
  act = λ around. step_step around (layer code.Executes code.Executes (body_act around));
  cost = step_costs (layer ℕ ℕ steps_cost);
  uses = step_used (layer Uses Uses steps_uses);
}

abbrev pub declared_by : ((A B : Type 0) → (Block → B) → Stmt-F A B) → Names
declared_by layer = layer_declares (layer Names Names (λ b. fold-Block Names Names layer_declares none_declared b))

abbrev pub Folds : Stmt → ((A B : Type 0) → (Block → B) → Stmt-F A B) → Type 1
Folds x layer = (A B : Type 0) (f : Stmt-F A B → A) (g : Block-F A B → B) → fold-Stmt A B f g x ≡ f (layer A B (λ b. fold-Block A B f g b))

abbrev pub FoldsCode : Step → ((A B : Type 0) → (Steps → B) → Step-F A B) → Type 1
FoldsCode y layer = (A B : Type 0) (f : Step-F A B → A) (g : Steps-F A B → B) → fold-Step A B f g y ≡ f (layer A B (λ b. fold-Steps A B f g b))

module _ (items : ItemNames) (scope : Names) where
  pub step_of : (site : ℕ) (x : Stmt) (y : Step) (layer : (A B : Type 0) → (Block → B) → Stmt-F A B) (coded : (A B : Type 0) → (Steps → B) → Step-F A B) → Folds x layer → FoldsCode y coded
      → IsExecution items scope (scope ++ declared_by layer) site (layer_tree layer) (layer_code coded) → IsStep items scope site x y
  step_of site x y layer coded one two is =
      let tree : tree_of_stmt x ≡ layer_tree layer = λ i. record {
        part = λ given. one Executes Executes (stmt_part given) layer_stmts i;
        binders = one Binders Binders layer_stmt_sites layer_block_sites i;
        tokens = one Tokens Tokens stmt_spelling block_spelling i;
      } in
      let steps : code_of_step y ≡ layer_code coded = λ i. record {
        act = λ around. two code.Executes code.Executes (step_step around) steps_step i;
        cost = two ℕ ℕ step_costs steps_costs i;
        uses = two Uses Uses step_used steps_used i;
      } in
      let names : declares x ≡ declared_by layer = one Names Names layer_declares none_declared in
      subst (λ z. IsExecution items scope (scope ++ z) site (tree_of_stmt x) (code_of_step y)) (sym names)
      (subst (λ z. IsExecution items scope (scope ++ declared_by layer) site z (code_of_step y)) (sym tree)
      (subst (λ z. IsExecution items scope (scope ++ declared_by layer) site (layer_tree layer) z) (sym steps) is))

  -- no name is declared
  pub stays : (site : ℕ) (t : Execution) (c : Code code.Executes) → IsExecution items scope scope site t c → IsExecution items scope (scope ++ []) site t c
  stays site t c is = subst (λ z. IsExecution items scope z site t c) (sym (append-nil scope)) is

  -- what comes after an expression
  then_next : (site : ℕ) (e : Expr) (n : Node) (tokens : Tokens) (next : Value → State → Act State Flow) (goes : Value → Frame → Act Frame Flow) → length (spell_expr e) ≤ length tokens → IsNode items scope site e n
      → ((v : Value) → Agrees scope (next v) (goes v))
      → IsExecution items scope scope site (record { part = λ given. then_part (expr_part given e) next; binders = expr_sites e; tokens = tokens })
      (record { act = λ around levels s. and_then (node_act around n levels s) goes; cost = node_cost n; uses = node_uses n })
  then_next site e n tokens next goes long is agrees = record {
    sized = record { sites = is.sized.sites; fits = is.sized.fits; cost = omega (arith, is.sized.cost) };
    same = λ around has levels. agrees_before scope (λ s. and_then ((expr_part (given_in items around) e).from site levels s) next) (λ s. and_then (node_act around n levels s) goes)
        (agrees_then scope ((expr_part (given_in items around) e).from site levels) (node_act around n levels) next goes (is.same around has levels) agrees);
  }

  value_tokens : (e : Expr) → length (spell_expr e) ≤ length (spell_value e)
  value_tokens e = simp length-append (omega arith)

  pub is_plain : (site : ℕ) (e : Expr) (n : Node) → IsNode items scope site e n → IsStep items scope site (stmt.Plain e) (step.Plain n)
  is_plain site e n is =
      step_of site (stmt.Plain e) (step.Plain n) (λ A B b. Stmt-F.Plain e) (λ A B b. Step-F.Plain n) (λ A B f g. folds.stmt-Plain A B f g e) (λ A B f g. folds.step-Plain A B f g n)
      (stays site (layer_tree (λ A B b. Stmt-F.Plain e)) (layer_code (λ A B b. Step-F.Plain n)) (then_next site e n (spell_value e) next_after code.next_after (value_tokens e) is (λ v s. refl)))

  pub is_return : (site : ℕ) (e : Expr) (n : Node) → IsNode items scope site e n → IsStep items scope site (stmt.Return e) (step.Return n)
  is_return site e n is =
      step_of site (stmt.Return e) (step.Return n) (λ A B b. Stmt-F.Return e) (λ A B b. Step-F.Return n) (λ A B f g. folds.stmt-Return A B f g e) (λ A B f g. folds.step-Return A B f g n)
      (stays site (layer_tree (λ A B b. Stmt-F.Return e)) (layer_code (λ A B b. Step-F.Return n))
      (then_next site e n (stmt_spelling (Stmt-F.Return e)) (λ v after. gives (flow.Returned v) after) (λ v after. gives (flow.Returned v) after) (omega (arith, value_tokens e)) is (λ v s. refl)))

  pub is_print : (site : ℕ) (e : Expr) (n : Node) → IsNode items scope site e n → IsStep items scope site (stmt.Print e) (step.Print n)
  is_print site e n is =
      step_of site (stmt.Print e) (step.Print n) (λ A B b. Stmt-F.Print e) (λ A B b. Step-F.Print n) (λ A B f g. folds.stmt-Print A B f g e) (λ A B f g. folds.step-Print A B f g n)
      (stays site (layer_tree (λ A B b. Stmt-F.Print e)) (layer_code (λ A B b. Step-F.Print n))
      (then_next site e n (stmt_spelling (Stmt-F.Print e)) (λ v after. Prints (plain v) (gives flow.Next after)) (λ v after. Prints (plain v) (gives flow.Next after)) (omega (arith, value_tokens e)) is (λ v s. refl)))

  pub is_assign : (site : ℕ) (name : List ℕ) (e : Expr) (k : ℕ) (n : Node) → position (bytes_eq name) scope ≡ Some k → IsNode items scope site e n → IsStep items scope site (stmt.Assign name e) (step.Set k n)
  is_assign site name e k n found is =
      step_of site (stmt.Assign name e) (step.Set k n) (λ A B b. Stmt-F.Assign name e) (λ A B b. Step-F.Set k n) (λ A B f g. folds.stmt-Assign A B f g name e) (λ A B f g. folds.step-Set A B f g k n)
      (stays site (layer_tree (λ A B b. Stmt-F.Assign name e)) (layer_code (λ A B b. Step-F.Set k n))
      (then_next site e n (stmt_spelling (Stmt-F.Assign name e)) (λ v after. gives flow.Next (assigned name v after)) (λ v after. gives flow.Next (with_put k v after)) (omega (arith, value_tokens e)) is
      (λ v s. λ i. gives flow.Next (record { turns = s.turns; locals = assigns_at name v k scope s.locals found i }))))

  pub is_assign_none : (site : ℕ) (name : List ℕ) (e : Expr) (n : Node) → position (bytes_eq name) scope ≡ None → IsNode items scope site e n → IsStep items scope site (stmt.Assign name e) (step.Plain n)
  is_assign_none site name e n none is =
      step_of site (stmt.Assign name e) (step.Plain n) (λ A B b. Stmt-F.Assign name e) (λ A B b. Step-F.Plain n) (λ A B f g. folds.stmt-Assign A B f g name e) (λ A B f g. folds.step-Plain A B f g n)
      (stays site (layer_tree (λ A B b. Stmt-F.Assign name e)) (layer_code (λ A B b. Step-F.Plain n))
      (then_next site e n (stmt_spelling (Stmt-F.Assign name e)) (λ v after. gives flow.Next (assigned name v after)) code.next_after (omega (arith, value_tokens e)) is
      (λ v s. λ i. gives flow.Next (record { turns = s.turns; locals = assigns_none name v scope s.locals none i }))))

  pub is_let : (site : ℕ) (name : List ℕ) (e : Expr) (n : Node) → IsNode items scope site e n → IsStep items scope site (stmt.Let name e) (step.Set (length scope) n)
  is_let site name e n is =
      step_of site (stmt.Let name e) (step.Set (length scope) n) (λ A B b. Stmt-F.Let name e) (λ A B b. Step-F.Set (length scope) n) (λ A B f g. folds.stmt-Let A B f g name e) (λ A B f g. folds.step-Set A B f g (length scope) n)
      (record {
        sized = record { sites = is.sized.sites; fits = is.sized.fits; cost = omega (arith, is.sized.cost, value_tokens e) };
        same = λ around has levels. agrees_declaring scope name ((expr_part (given_in items around) e).from site levels) (node_act around n levels) (is.same around has levels);
      })

  -- an operation at the end of a statement
  pub asks_next : (plan : Plan) (at site : ℕ) (b : Binder) (operands : List Value) → at ≡ site → HasBinder plan site b → Agrees scope (λ s. and_then (asks at b operands s) next_after) (λ s. and_then (code.asks plan site operands s) code.next_after)
  asks_next plan at site b operands e has =
      subst (λ z. Agrees scope (λ s. and_then (asks z b operands s) next_after) (λ s. and_then (code.asks plan site operands s) code.next_after)) (sym e)
      (agrees_then scope (asks site b operands) (code.asks plan site operands) next_after code.next_after (agrees_asks scope plan site b operands has.same) (λ v s. refl))
