-- What the code of statements in a row is, and of a block.
use Rattle.std.proofs.Common.{◌≡◌, ℕ, ◌+◌, ◌≤◌, List, [], ◌∷◌, ◌++◌, length, map, take, refl, sym, ap, ◌∙◌, subst, arith, length-append, append-nil, append_assoc}
use Rattle.std.specs.Prelude.{sum}
use Rattle.std.specs.List.{flat_map}
use Rattle.script_grammar.specs.declared.tree.Block.{Block}
use Rattle.script_grammar.specs.declared.tree.Stmt.{Stmt}
use Rattle.script_grammar.specs.Spelling.{Tokens, block_spelling, spell_stmt, stmt_spelling}
use Rattle.script_sites.specs.Sites.{Binders, block_sites, layer_block_sites, layer_stmt_sites, stmt_sites}
use Rattle.task_code.specs.declared.code.Step.{Step}
use Rattle.task_code.specs.declared.code.Steps.{Steps}
use Rattle.task_code.specs.Codes as code
use Rattle.task_code.specs.Codes.{Around, Plan, step_act, step_step, steps_act, steps_step}
use Rattle.task_code.specs.Costs.{Uses, all_uses, step_cost, step_costs, step_used, step_uses, steps_costs, steps_used}
use Rattle.task_code.specs.Fits.{Fits}
use Rattle.task_compile.specs.declared.names.ItemNames.{ItemNames}
use Rattle.task_compile.specs.States.{Names, Given}
use Rattle.task_compile.specs.Executions.{Executes, layer_stmts, part_of_stmt, stmt_part, stmts_part}
use Rattle.task_compile.specs.Agreements.{AgreesBefore, AgreesInside}
use Rattle.task_compile.specs.Compiled.{Code, HasBinders, HasItems, given_in}
use Rattle.task_compile.specs.CompiledBlocks.{AreSteps, Execution, IsBody, IsStep, IsSteps, code_of_steps, declares, tree_of_block}
use Rattle.task_compile.proofs.ArgumentForms.{sum_cons}
use Rattle.task_compile.proofs.BlockAgreement.{inside_none}
use Rattle.task_compile.proofs.StatementFolds.{block_is, steps_is}
use Rattle.task_compile.proofs.SitePlaces.{fits_both, has_parts}

abbrev pub rows_sites : List Stmt → Binders
rows_sites xs = flat_map (λ bs. bs) (map stmt_sites xs)

abbrev pub rows_tokens : List Stmt → Tokens
rows_tokens xs = flat_map (λ ts. ts) (map spell_stmt xs)

pub take_front : (scope more : Names) → take (length scope) (scope ++ more) ≡ scope
take_front [] more = refl
take_front (n ∷ scope) more = ap (λ z. n ∷ z) (take_front scope more)

module _ (items : ItemNames) where
  rows_same : (xs : List Stmt) (steps : List Step) (scope : Names) (site next : ℕ) (after : Names) → AreSteps items scope site xs steps next after → (around : Around) (at levels : ℕ) → at ≡ site
      → HasBinders around.plan site (rows_sites xs)
      → AgreesInside scope ((stmts_part (map (part_of_stmt (given_in items around)) xs)).from at levels) (steps_act (map (step_act around) steps) levels)
  rows_same [] [] scope site next after are around at levels e has s = inside_none scope s
  rows_same [] (n ∷ steps) scope site next after are around at levels e has s = absurd are
  rows_same (x ∷ xs) [] scope site next after are around at levels e has s = absurd are
  rows_same (x ∷ xs) (n ∷ steps) scope site next after are around at levels e has s =
      let parts = has_parts around.plan site (stmt_sites x) (rows_sites xs) has in
      let part = part_of_stmt (given_in items around) x in
      let later : at + part.sites ≡ site + length (stmt_sites x) = omega (arith, are.0.sized.sites (given_in items around)) in
      let rest = rows_same xs steps (scope ++ declares x) (site + length (stmt_sites x)) next after are.1 around (at + part.sites) levels later parts.1 in
      subst (λ z. AgreesBefore scope (scope ++ declares x) (part.from z levels) (step_act around n levels)) (sym e) (are.0.same around parts.0 levels)
      ((stmts_part (map (part_of_stmt (given_in items around)) xs)).from (at + part.sites) levels) (steps_act (map (step_act around) steps) levels) rest s

  rows_count : (xs : List Stmt) (steps : List Step) (scope : Names) (site next : ℕ) (after : Names) → AreSteps items scope site xs steps next after → (given : Given)
      → (stmts_part (map (part_of_stmt given) xs)).sites ≡ length (rows_sites xs)
  rows_count [] [] scope site next after are given = refl
  rows_count [] (n ∷ steps) scope site next after are given = absurd are
  rows_count (x ∷ xs) [] scope site next after are given = absurd are
  rows_count (x ∷ xs) (n ∷ steps) scope site next after are given =
      simp length-append (omega (arith, are.0.sized.sites given, rows_count xs steps (scope ++ declares x) (site + length (stmt_sites x)) next after are.1 given))

  rows_next : (xs : List Stmt) (steps : List Step) (scope : Names) (site next : ℕ) (after : Names) → AreSteps items scope site xs steps next after → next ≡ site + length (rows_sites xs)
  rows_next [] [] scope site next after are = omega (arith, are.0)
  rows_next [] (n ∷ steps) scope site next after are = absurd are
  rows_next (x ∷ xs) [] scope site next after are = absurd are
  rows_next (x ∷ xs) (n ∷ steps) scope site next after are = simp length-append (omega (arith, rows_next xs steps (scope ++ declares x) (site + length (stmt_sites x)) next after are.1))

  rows_fits : (xs : List Stmt) (steps : List Step) (scope : Names) (site next : ℕ) (after : Names) → AreSteps items scope site xs steps next after → (plan : Plan) (limit : ℕ)
      → HasBinders plan site (rows_sites xs) → HasItems items plan limit → Fits plan limit (all_uses (map step_uses steps))
  rows_fits [] [] scope site next after are plan limit has its = tt
  rows_fits [] (n ∷ steps) scope site next after are plan limit has its = absurd are
  rows_fits (x ∷ xs) [] scope site next after are plan limit has its = absurd are
  rows_fits (x ∷ xs) (n ∷ steps) scope site next after are plan limit has its =
      let parts = has_parts plan site (stmt_sites x) (rows_sites xs) has in
      fits_both plan limit (step_uses n) (all_uses (map step_uses steps)) (are.0.sized.fits plan limit parts.0 its) (rows_fits xs steps (scope ++ declares x) (site + length (stmt_sites x)) next after are.1 plan limit parts.1 its)

  rows_cost : (xs : List Stmt) (steps : List Step) (scope : Names) (site next : ℕ) (after : Names) → AreSteps items scope site xs steps next after → sum (map step_cost steps) ≤ length (rows_tokens xs)
  rows_cost [] [] scope site next after are = omega arith
  rows_cost [] (n ∷ steps) scope site next after are = absurd are
  rows_cost (x ∷ xs) [] scope site next after are = absurd are
  rows_cost (x ∷ xs) (n ∷ steps) scope site next after are =
      simp (sum_cons, length-append) (omega (arith, are.0.sized.cost, rows_cost xs steps (scope ++ declares x) (site + length (stmt_sites x)) next after are.1))

  -- the names in scope after them are those before and more
  rows_scope : (xs : List Stmt) (steps : List Step) (scope : Names) (site next : ℕ) (after : Names) → AreSteps items scope site xs steps next after → (more : Names) × (after ≡ scope ++ more)
  rows_scope [] [] scope site next after are = ([], are.1 ∙ sym (append-nil scope))
  rows_scope [] (n ∷ steps) scope site next after are = absurd are
  rows_scope (x ∷ xs) [] scope site next after are = absurd are
  rows_scope (x ∷ xs) (n ∷ steps) scope site next after are =
      let rest = rows_scope xs steps (scope ++ declares x) (site + length (stmt_sites x)) next after are.1 in
      (declares x ++ rest.0, rest.1 ∙ append_assoc scope (declares x) rest.0)

  -- so the block is left with those before
  pub scope_left : (xs : List Stmt) (steps : List Step) (scope : Names) (site next : ℕ) (after : Names) → AreSteps items scope site xs steps next after → take (length scope) after ≡ scope
  scope_left xs steps scope site next after are =
      let grown = rows_scope xs steps scope site next after are in
      ap (take (length scope)) grown.1 ∙ take_front scope grown.0

  pub scope_within : (xs : List Stmt) (steps : List Step) (scope : Names) (site next : ℕ) (after : Names) → AreSteps items scope site xs steps next after → length scope ≤ length after
  scope_within xs steps scope site next after are =
      let grown = rows_scope xs steps scope site next after are in
      omega (arith, ap length grown.1, length-append scope grown.0)

  -- one more statement
  pub one_more_step : (xs : List Stmt) (steps : List Step) (x : Stmt) (n : Step) (scope : Names) (site next : ℕ) (after : Names) → AreSteps items scope site xs steps next after → IsStep items after next x n
      → AreSteps items scope site (xs ++ x ∷ []) (steps ++ n ∷ []) (next + length (stmt_sites x)) (after ++ declares x)
  one_more_step [] [] x n scope site next after are is =
      (subst (λ z. IsStep items z site x n) are.1 (subst (λ z. IsStep items after z x n) are.0 is), (ap (λ z. z + length (stmt_sites x)) are.0, ap (λ z. z ++ declares x) are.1))
  one_more_step [] (m ∷ steps) x n scope site next after are is = absurd are
  one_more_step (y ∷ xs) [] x n scope site next after are is = absurd are
  one_more_step (y ∷ xs) (m ∷ steps) x n scope site next after are is = (are.0, one_more_step xs steps x n (scope ++ declares y) (site + length (stmt_sites y)) next after are.1 is)

  abbrev pub block_tree : Block → Execution
  block_tree b = record {
    part = λ given. stmts_part (map (part_of_stmt given) b.0);
    binders = rows_sites b.0;
    tokens = block_spelling (record { 0 = map spell_stmt b.0 });
  }

  abbrev pub steps_code : List Step → Code code.Executes
  steps_code steps = record { act = λ around. steps_act (map (step_act around) steps); cost = sum (map step_cost steps); uses = all_uses (map step_uses steps) }

  tree_block : (b : Block) → tree_of_block b ≡ block_tree b
  tree_block b = λ i. record {
    part = λ given. block_is Executes Executes (stmt_part given) layer_stmts b i;
    binders = block_is Binders Binders layer_stmt_sites layer_block_sites b i;
    tokens = block_is Tokens Tokens stmt_spelling block_spelling b i;
  }

  code_steps : (b : Steps) → code_of_steps b ≡ steps_code b.0
  code_steps b = λ i. record {
    act = λ around. steps_is code.Executes code.Executes (step_step around) steps_step b i;
    cost = steps_is ℕ ℕ step_costs steps_costs b i;
    uses = steps_is Uses Uses step_used steps_used b i;
  }

  pub block_next : (b : Block) (steps : List Step) (scope : Names) (site next : ℕ) (after : Names) → AreSteps items scope site b.0 steps next after → next ≡ site + length (block_sites b)
  block_next b steps scope site next after are = omega (arith, rows_next b.0 steps scope site next after are, ap (λ t. length t.binders) (tree_block b))

  body_of : (b : Block) (steps : List Step) (scope : Names) (site next : ℕ) (after : Names) → AreSteps items scope site b.0 steps next after → IsBody items scope site (block_tree b) (steps_code steps)
  body_of b steps scope site next after are = record {
    sized = record {
      sites = rows_count b.0 steps scope site next after are;
      fits = λ plan limit has its. rows_fits b.0 steps scope site next after are plan limit has its;
      cost = simp length-append (omega (arith, rows_cost b.0 steps scope site next after are));
    };
    same = λ around has levels. rows_same b.0 steps scope site next after are around site levels refl has;
  }

  pub is_steps : (b : Block) (steps : List Step) (scope : Names) (site next : ℕ) (after : Names) → AreSteps items scope site b.0 steps next after → IsSteps items scope site b (record { 0 = steps })
  is_steps b steps scope site next after are =
      subst (λ z. IsBody items scope site (tree_of_block b) z) (sym (code_steps (record { 0 = steps }))) (subst (λ z. IsBody items scope site z (steps_code steps)) (sym (tree_block b)) (body_of b steps scope site next after are))
