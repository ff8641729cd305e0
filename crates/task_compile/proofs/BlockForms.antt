-- What the code of statements with blocks is, form by form.
use Rattle.std.proofs.Common.{◌≡◌, ℕ, suc, ◌+◌, ◌≤◌, List, [], ◌∷◌, ◌++◌, length, Option, None, Some, refl, sym, ap, ◌∙◌, subst, arith, length-append}
use Rattle.std.specs.Option.{option_map}
use Rattle.dyn_value.specs.declared.fault.Fault.{Fault}
use Rattle.dyn_value.specs.declared.operator.UnOp.TheVariants as unary
use Rattle.dyn_value.specs.declared.value.Value.{Value}
use Rattle.dyn_value.specs.declared.value.Value.TheVariants as value
use Rattle.dyn_value.specs.Texts.{fault_text}
use Rattle.standard_binders.specs.declared.binder.Binder.{Binder}
use Rattle.standard_binders.specs.declared.binder.Binder.TheVariants as binder
use Rattle.script_grammar.specs.declared.tree.Block.{Block}
use Rattle.script_grammar.specs.declared.tree.Expr.{Expr}
use Rattle.script_grammar.specs.declared.tree.Stmt.TheOpen.{Stmt-F}
use Rattle.script_grammar.specs.declared.tree.Stmt.TheVariants as stmt
use Rattle.script_grammar.specs.Spelling.{Tokens, else_spelling, spell_block}
use Rattle.script_sites.specs.Sites.{Binders, block_sites, else_sites, expr_sites}
use Rattle.task_code.specs.declared.code.Node.{Node}
use Rattle.task_code.specs.declared.code.Steps.{Steps}
use Rattle.task_code.specs.declared.code.Step.TheOpen.{Step-F}
use Rattle.task_code.specs.declared.code.Step.TheVariants as step
use Rattle.task_code.specs.declared.frame.Flow.{Flow}
use Rattle.task_code.specs.declared.frame.Flow.TheVariants as flow
use Rattle.task_code.specs.declared.frame.Frame.{Frame}
use Rattle.task_code.specs.Acts.{Act, and_then, catches, chosen, ends_in, gives, within}
use Rattle.task_code.specs.Codes as code
use Rattle.task_code.specs.Codes.{Around, Plan, body_act, node_act, with_put}
use Rattle.task_code.specs.Costs.{node_cost, node_uses, other_cost, other_uses, steps_cost, steps_uses}
use Rattle.task_code.specs.Fits.{Fits}
use Rattle.task_compile.specs.declared.names.ItemNames.{ItemNames}
use Rattle.task_compile.specs.States.{Names, State, Given, asks, declared, left_scope}
use Rattle.task_compile.specs.Evaluations.{expr_part}
use Rattle.task_compile.specs.Executions.{block_act, block_part, caught_act, loops, other_act, other_sites, tests}
use Rattle.task_compile.specs.Agreements.{Agrees, AgreesInside}
use Rattle.task_compile.specs.Compiled.{HasBinder, HasBinders, HasItems, IsNode, code_of_node, given_in, tree_of_expr}
use Rattle.task_compile.specs.CompiledBlocks.{IsOther, IsStep, IsSteps}
use Rattle.task_compile.proofs.Agreement.{agrees_asks, agrees_catches, agrees_chosen, agrees_then}
use Rattle.task_compile.proofs.BlockAgreement.{agrees_before, agrees_block, agrees_caught, agrees_loops}
use Rattle.task_compile.proofs.StatementFolds as folds
use Rattle.task_compile.proofs.StatementForms.{layer_code, layer_tree, stays, step_of}
use Rattle.task_compile.proofs.SitePlaces.{fits_both, has_at, has_parts, is_site}

abbrev is_true : Binder
is_true = binder.UnaryOperation unary.IsTrue

module _ (items : ItemNames) (scope : Names) where
  block_agrees : (site : ℕ) (b : Block) (steps : Steps) → IsSteps items scope site b steps → (around : Around) (at levels : ℕ) → at ≡ site → HasBinders around.plan site (block_sites b)
      → Agrees scope (block_act (block_part (given_in items around) b) at levels) (code.block_act (body_act around steps) levels)
  block_agrees site b steps is around at levels e has =
      subst (λ z. Agrees scope (block_act (block_part (given_in items around) b) z levels) (code.block_act (body_act around steps) levels)) (sym e)
      (agrees_block scope levels (λ inner. (block_part (given_in items around) b).from site inner) (body_act around steps) (is.same around has))

  test_agrees : (site : ℕ) (test : Expr) (n : Node) → IsNode items scope (site + 1) test n → (around : Around) (levels : ℕ) → HasBinders around.plan site (is_true ∷ expr_sites test)
      → Agrees scope (tests (expr_part (given_in items around) test) site levels) (code.tests around site n levels)
  test_agrees site test n is around levels has =
      agrees_then scope ((expr_part (given_in items around) test).from (site + 1) levels) (node_act around n levels) (λ v after. asks site is_true (v ∷ []) after) (λ v after. code.asks around.plan site (v ∷ []) after)
      (is.same around has.1 levels) (λ v. agrees_asks scope around.plan site is_true (v ∷ []) has.0.same)

  pub is_while : (site next : ℕ) (test : Expr) (body : Block) (n : Node) (steps : Steps) → next ≡ site + 1 + length (expr_sites test) → IsNode items scope (site + 1) test n → IsSteps items scope next body steps
      → IsStep items scope site (stmt.While test body) (step.While site n steps)
  is_while site next test body n steps e one two =
      step_of items scope site (stmt.While test body) (step.While site n steps) (λ A B b. Stmt-F.While test (b body)) (λ A B b. Step-F.While site n (b steps))
      (λ A B f g. folds.stmt-While A B f g test body) (λ A B f g. folds.step-While A B f g site n steps)
      (stays items scope site (layer_tree (λ A B b. Stmt-F.While test (b body))) (layer_code (λ A B b. Step-F.While site n (b steps))) (record {
        sized = record {
          sites = λ given. simp length-append (omega (arith, one.sized.sites given, two.sized.sites given));
          fits = λ plan limit has its.
              let p = has_parts plan site (is_true ∷ expr_sites test) (block_sites body) has in
              let at : site + length (is_true ∷ expr_sites test) ≡ next = omega arith in
              (is_site plan site 1 is_true p.0.0 refl, fits_both plan limit (node_uses n) (steps_uses steps) (one.sized.fits plan limit p.0.1 its) (two.sized.fits plan limit (has_at plan (site + length (is_true ∷ expr_sites test)) next (block_sites body) at p.1) its));
          cost = simp length-append (omega (arith, one.sized.cost, two.sized.cost));
        };
        same = λ around has levels.
            let p = has_parts around.plan site (is_true ∷ expr_sites test) (block_sites body) has in
            let at : site + length (is_true ∷ expr_sites test) ≡ next = omega arith in
            let tree = expr_part (given_in items around) test in
            let later : site + 1 + tree.sites ≡ next = omega (arith, one.sized.sites (given_in items around)) in
            agrees_before scope
            (λ s. loops (suc s.turns) (tests tree site levels) (block_act (block_part (given_in items around) body) (site + 1 + tree.sites) levels) s)
            (λ s. code.loops (suc s.turns) (code.tests around site n levels) (code.block_act (body_act around steps) levels) s)
            (λ s. agrees_loops scope (suc s.turns) (tests tree site levels) (code.tests around site n levels) (block_act (block_part (given_in items around) body) (site + 1 + tree.sites) levels) (code.block_act (body_act around steps) levels)
            (test_agrees site test n one around levels p.0)
            (block_agrees next body steps two around (site + 1 + tree.sites) levels later (has_at around.plan (site + length (is_true ∷ expr_sites test)) next (block_sites body) at p.1)) s);
      }))

  other_agrees : (site : ℕ) (o : Option Block) (p : Option Steps) → IsOther items scope site o p → (around : Around) (at levels : ℕ) → at ≡ site → HasBinders around.plan site (else_sites (option_map block_sites o))
      → Agrees scope (other_act (option_map (block_part (given_in items around)) o) at levels) (code.other_act (option_map (body_act around) p) levels)
  other_agrees site None None is around at levels e has s = refl
  other_agrees site None (Some steps) is around at levels e has s = absurd is
  other_agrees site (Some b) None is around at levels e has s = absurd is
  other_agrees site (Some b) (Some steps) is around at levels e has s = block_agrees site b steps is around at levels e has s

  other_count : (site : ℕ) (o : Option Block) (p : Option Steps) → IsOther items scope site o p → (given : Given) → other_sites (option_map (block_part given) o) ≡ length (else_sites (option_map block_sites o))
  other_count site None None is given = refl
  other_count site None (Some steps) is given = absurd is
  other_count site (Some b) None is given = absurd is
  other_count site (Some b) (Some steps) is given = is.sized.sites given

  other_fits : (site : ℕ) (o : Option Block) (p : Option Steps) → IsOther items scope site o p → (plan : Plan) (limit : ℕ) → HasBinders plan site (else_sites (option_map block_sites o)) → HasItems items plan limit
      → Fits plan limit (other_uses (option_map steps_uses p))
  other_fits site None None is plan limit has its = tt
  other_fits site None (Some steps) is plan limit has its = absurd is
  other_fits site (Some b) None is plan limit has its = absurd is
  other_fits site (Some b) (Some steps) is plan limit has its = is.sized.fits plan limit has its

  other_costs : (site : ℕ) (o : Option Block) (p : Option Steps) → IsOther items scope site o p → other_cost (option_map steps_cost p) ≤ length (else_spelling (option_map spell_block o))
  other_costs site None None is = omega arith
  other_costs site None (Some steps) is = absurd is
  other_costs site (Some b) None is = absurd is
  other_costs site (Some b) (Some steps) is = omega (arith, is.sized.cost)

  pub is_if : (site next last : ℕ) (test : Expr) (body : Block) (other : Option Block) (n : Node) (steps : Steps) (others : Option Steps) → next ≡ site + 1 + length (expr_sites test) → last ≡ next + length (block_sites body)
      → IsNode items scope (site + 1) test n → IsSteps items scope next body steps → IsOther items scope last other others → IsStep items scope site (stmt.If test body other) (step.If site n steps others)
  is_if site next last test body other n steps others e ended one two three =
      step_of items scope site (stmt.If test body other) (step.If site n steps others) (λ A B b. Stmt-F.If test (b body) (option_map b other)) (λ A B b. Step-F.If site n (b steps) (option_map b others))
      (λ A B f g. folds.stmt-If A B f g test body other) (λ A B f g. folds.step-If A B f g site n steps others)
      (stays items scope site (layer_tree (λ A B b. Stmt-F.If test (b body) (option_map b other))) (layer_code (λ A B b. Step-F.If site n (b steps) (option_map b others))) (record {
        sized = record {
          sites = λ given. simp length-append (omega (arith, one.sized.sites given, two.sized.sites given, other_count last other others three given));
          fits = λ plan limit has its.
              let w = placed plan has in (
                is_site plan site 1 is_true w.0.0 refl,
                fits_both plan limit (node_uses n) (steps_uses steps ++ other_uses (option_map steps_uses others)) (one.sized.fits plan limit w.0.1 its)
                    (fits_both plan limit (steps_uses steps) (other_uses (option_map steps_uses others)) (two.sized.fits plan limit w.1 its) (other_fits last other others three plan limit w.2 its)),
              );
          cost = simp length-append (omega (arith, one.sized.cost, two.sized.cost, other_costs last other others three));
        };
        same = λ around has levels.
            let w = placed around.plan has in
            let tree = expr_part (given_in items around) test in
            let block = block_part (given_in items around) body in
            let later : site + 1 + tree.sites ≡ next = omega (arith, one.sized.sites (given_in items around)) in
            let latest : site + 1 + tree.sites + block.sites ≡ last = omega (arith, one.sized.sites (given_in items around), two.sized.sites (given_in items around)) in
            agrees_before scope
            (λ s. and_then (tests tree site levels s) (λ v after. chosen v (block_act block (site + 1 + tree.sites) levels after) (other_act (option_map (block_part (given_in items around)) other) (site + 1 + tree.sites + block.sites) levels after)))
            (λ s. and_then (code.tests around site n levels s) (λ v after. chosen v (code.block_act (body_act around steps) levels after) (code.other_act (option_map (body_act around) others) levels after)))
            (agrees_then scope (tests tree site levels) (code.tests around site n levels)
            (λ v after. chosen v (block_act block (site + 1 + tree.sites) levels after) (other_act (option_map (block_part (given_in items around)) other) (site + 1 + tree.sites + block.sites) levels after))
            (λ v after. chosen v (code.block_act (body_act around steps) levels after) (code.other_act (option_map (body_act around) others) levels after))
            (test_agrees site test n one around levels w.0)
            (λ v. agrees_chosen scope v (block_act block (site + 1 + tree.sites) levels) (other_act (option_map (block_part (given_in items around)) other) (site + 1 + tree.sites + block.sites) levels)
            (code.block_act (body_act around steps) levels) (code.other_act (option_map (body_act around) others) levels)
            (block_agrees next body steps two around (site + 1 + tree.sites) levels later w.1)
            (other_agrees last other others three around (site + 1 + tree.sites + block.sites) levels latest w.2)));
      }))
    where
      placed : (plan : Plan) → HasBinders plan site (is_true ∷ expr_sites test ++ block_sites body ++ else_sites (option_map block_sites other))
          → HasBinders plan site (is_true ∷ expr_sites test) × HasBinders plan next (block_sites body) × HasBinders plan last (else_sites (option_map block_sites other))
      placed plan has =
          let p = has_parts plan site (is_true ∷ expr_sites test ++ block_sites body) (else_sites (option_map block_sites other)) has in
          let q = has_parts plan site (is_true ∷ expr_sites test) (block_sites body) p.0 in
          let at : site + length (is_true ∷ expr_sites test) ≡ next = omega arith in
          let end : site + length (is_true ∷ expr_sites test ++ block_sites body) ≡ last = omega (arith, length-append (is_true ∷ expr_sites test) (block_sites body)) in
          (q.0, has_at plan (site + length (is_true ∷ expr_sites test)) next (block_sites body) at q.1, has_at plan (site + length (is_true ∷ expr_sites test ++ block_sites body)) last (else_sites (option_map block_sites other)) end p.1)

  pub is_try : (site next : ℕ) (body caught : Block) (name : List ℕ) (steps others : Steps) → next ≡ site + length (block_sites body) → IsSteps items scope site body steps → IsSteps items (scope ++ name ∷ []) next caught others
      → IsStep items scope site (stmt.Try body name caught) (step.Try steps (length scope) others)
  is_try site next body caught name steps others e one two =
      step_of items scope site (stmt.Try body name caught) (step.Try steps (length scope) others) (λ A B b. Stmt-F.Try (b body) name (b caught)) (λ A B b. Step-F.Try (b steps) (length scope) (b others))
      (λ A B f g. folds.stmt-Try A B f g body name caught) (λ A B f g. folds.step-Try A B f g steps (length scope) others)
      (stays items scope site (layer_tree (λ A B b. Stmt-F.Try (b body) name (b caught))) (layer_code (λ A B b. Step-F.Try (b steps) (length scope) (b others))) (record {
        sized = record {
          sites = λ given. simp length-append (omega (arith, one.sized.sites given, two.sized.sites given));
          fits = λ plan limit has its.
              let p = has_parts plan site (block_sites body) (block_sites caught) has in
              fits_both plan limit (steps_uses steps) (steps_uses others) (one.sized.fits plan limit p.0 its) (two.sized.fits plan limit (has_at plan (site + length (block_sites body)) next (block_sites caught) (sym e) p.1) its);
          cost = simp length-append (omega (arith, one.sized.cost, two.sized.cost));
        };
        same = λ around has levels.
            let p = has_parts around.plan site (block_sites body) (block_sites caught) has in
            let block = block_part (given_in items around) body in
            let handler = block_part (given_in items around) caught in
            let later : site + block.sites ≡ next = omega (arith, one.sized.sites (given_in items around)) in
            agrees_before scope (λ s. catches (block_act block site levels s) (caught_act handler name (site + block.sites) levels))
            (λ s. catches (code.block_act (body_act around steps) levels s) (λ f after. code.block_act (body_act around others) levels (with_put (length scope) (value.Text (fault_text f)) after)))
            (agrees_catches scope (block_act block site levels) (code.block_act (body_act around steps) levels) (caught_act handler name (site + block.sites) levels)
            (λ f after. code.block_act (body_act around others) levels (with_put (length scope) (value.Text (fault_text f)) after))
            (block_agrees site body steps one around site levels refl p.0)
            (λ f. agrees_caught scope name (value.Text (fault_text f)) levels (handler.from (site + block.sites)) (body_act around others)
            (subst (λ z. (inner : ℕ) → AgreesInside (scope ++ name ∷ []) (handler.from z inner) (body_act around others inner)) (sym later)
            (two.same around (has_at around.plan (site + length (block_sites body)) next (block_sites caught) (sym e) p.1)))));
      }))
