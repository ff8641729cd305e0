-- What the code of statements on a target's members is, form by form.
use Rattle.std.proofs.Common.{◌≡◌, ℕ, suc, ◌+◌, ◌≤◌, false, List, [], ◌∷◌, ◌++◌, length, refl, sym, ap, ◌∙◌, subst, arith, length-append}
use Rattle.dyn_value.specs.declared.value.Value.{Value}
use Rattle.standard_binders.specs.declared.binder.Binder.{Binder}
use Rattle.standard_binders.specs.declared.binder.Binder.TheVariants as binder
use Rattle.script_grammar.specs.declared.tree.Expr.{Expr}
use Rattle.script_grammar.specs.declared.tree.Stmt.TheOpen.{Stmt-F}
use Rattle.script_grammar.specs.declared.tree.Stmt.TheVariants as stmt
use Rattle.script_sites.specs.Sites.{expr_sites}
use Rattle.task_code.specs.declared.code.Node.{Node}
use Rattle.task_code.specs.declared.code.Step.TheOpen.{Step-F}
use Rattle.task_code.specs.declared.code.Step.TheVariants as step
use Rattle.task_code.specs.declared.frame.Flow.{Flow}
use Rattle.task_code.specs.declared.frame.Frame.{Frame}
use Rattle.task_code.specs.Acts.{Act, and_then, within}
use Rattle.task_code.specs.Codes as code
use Rattle.task_code.specs.Codes.{Around, Plan, node_act}
use Rattle.task_code.specs.Costs.{node_cost, node_uses}
use Rattle.task_compile.specs.declared.names.ItemNames.{ItemNames}
use Rattle.task_compile.specs.States.{Names, State, asks}
use Rattle.task_compile.specs.Evaluations.{expr_part}
use Rattle.task_compile.specs.Executions.{key_act, next_after}
use Rattle.task_compile.specs.Agreements.{Agrees}
use Rattle.task_compile.specs.Compiled.{HasBinder, HasBinders, IsNode, code_of_node, given_in, tree_of_expr}
use Rattle.task_compile.specs.CompiledBlocks.{IsStep}
use Rattle.task_compile.proofs.Agreement.{agrees_then, agrees_within}
use Rattle.task_compile.proofs.BlockAgreement.{agrees_before}
use Rattle.task_compile.proofs.StatementFolds as folds
use Rattle.task_compile.proofs.StatementForms.{asks_next, layer_code, layer_tree, stays, step_of}
use Rattle.task_compile.proofs.SitePlaces.{evaluates, fits_both, has_at, has_parts, is_site}

module _ (items : ItemNames) (scope : Names) where
  pub is_delete_member : (first site : ℕ) (target : Expr) (n : List ℕ) (m : Node) → site ≡ first + length (expr_sites target) → IsNode items scope first target m → IsStep items scope first (stmt.DeleteMember target n) (step.DeleteMember site m)
  is_delete_member first site target n m e is =
      step_of items scope first (stmt.DeleteMember target n) (step.DeleteMember site m) (λ A B b. Stmt-F.DeleteMember target n) (λ A B b. Step-F.DeleteMember site m)
      (λ A B f g. folds.stmt-DeleteMember A B f g target n) (λ A B f g. folds.step-DeleteMember A B f g site m)
      (stays items scope first (layer_tree (λ A B b. Stmt-F.DeleteMember target n)) (layer_code (λ A B b. Step-F.DeleteMember site m)) (record {
        sized = record {
          sites = λ given. simp length-append (omega (arith, is.sized.sites given));
          fits = λ plan limit has its.
              let p = has_parts plan first (expr_sites target) (binder.DeleteMember n false ∷ []) has in
              let at = has_at plan (first + length (expr_sites target)) site (binder.DeleteMember n false ∷ []) (sym e) p.1 in
              (is_site plan site 1 (binder.DeleteMember n false) at.0 refl, is.sized.fits plan limit p.0 its);
          cost = simp length-append (omega (arith, is.sized.cost));
        };
        same = λ around has levels.
            let p = has_parts around.plan first (expr_sites target) (binder.DeleteMember n false ∷ []) has in
            let at = has_at around.plan (first + length (expr_sites target)) site (binder.DeleteMember n false ∷ []) (sym e) p.1 in
            let tree = expr_part (given_in items around) target in
            let counted : first + tree.sites ≡ site = omega (arith, is.sized.sites (given_in items around)) in
            agrees_before scope
            (λ s. and_then (tree.from first levels s) (λ object after_target. and_then (asks (first + tree.sites) (binder.DeleteMember n false) (object ∷ []) after_target) next_after))
            (λ s. and_then (node_act around m levels s) (λ object after_target. and_then (code.asks around.plan site (object ∷ []) after_target) code.next_after))
            (agrees_then scope (tree.from first levels) (node_act around m levels)
            (λ object after_target. and_then (asks (first + tree.sites) (binder.DeleteMember n false) (object ∷ []) after_target) next_after)
            (λ object after_target. and_then (code.asks around.plan site (object ∷ []) after_target) code.next_after)
            (is.same around p.0 levels)
            (λ object. asks_next items scope around.plan (first + tree.sites) site (binder.DeleteMember n false) (object ∷ []) counted at.0));
      }))

  pub is_set_member : (first site : ℕ) (target : Expr) (n : List ℕ) (e : Expr) (m v : Node) → site ≡ first + length (expr_sites target) → IsNode items scope first target m → IsNode items scope (site + 1) e v
      → IsStep items scope first (stmt.SetMember target n e) (step.SetMember site m v)
  is_set_member first site target n e m v same one two =
      step_of items scope first (stmt.SetMember target n e) (step.SetMember site m v) (λ A B b. Stmt-F.SetMember target n e) (λ A B b. Step-F.SetMember site m v)
      (λ A B f g. folds.stmt-SetMember A B f g target n e) (λ A B f g. folds.step-SetMember A B f g site m v)
      (stays items scope first (layer_tree (λ A B b. Stmt-F.SetMember target n e)) (layer_code (λ A B b. Step-F.SetMember site m v)) (record {
        sized = record {
          sites = λ given. simp length-append (omega (arith, one.sized.sites given, two.sized.sites given));
          fits = λ plan limit has its.
              let p = has_parts plan first (expr_sites target) (binder.SetMember n false ∷ expr_sites e) has in
              let at = has_at plan (first + length (expr_sites target)) site (binder.SetMember n false ∷ expr_sites e) (sym same) p.1 in
              (is_site plan site 2 (binder.SetMember n false) at.0 refl, fits_both plan limit (node_uses m) (node_uses v) (one.sized.fits plan limit p.0 its) (two.sized.fits plan limit at.1 its));
          cost = simp length-append (omega (arith, one.sized.cost, two.sized.cost));
        };
        same = λ around has levels.
            let p = has_parts around.plan first (expr_sites target) (binder.SetMember n false ∷ expr_sites e) has in
            let at = has_at around.plan (first + length (expr_sites target)) site (binder.SetMember n false ∷ expr_sites e) (sym same) p.1 in
            let tree = expr_part (given_in items around) target in
            let given = expr_part (given_in items around) e in
            let counted : first + tree.sites ≡ site = omega (arith, one.sized.sites (given_in items around)) in
            let later : first + tree.sites + 1 ≡ site + 1 = omega (arith, one.sized.sites (given_in items around)) in
            agrees_before scope
            (λ s. and_then (tree.from first levels s) (λ object after_target. and_then (given.from (first + tree.sites + 1) levels after_target) (λ w after_value.
            and_then (asks (first + tree.sites) (binder.SetMember n false) (object ∷ w ∷ []) after_value) next_after)))
            (λ s. and_then (node_act around m levels s) (λ object after_target. and_then (node_act around v levels after_target) (λ w after_value.
            and_then (code.asks around.plan site (object ∷ w ∷ []) after_value) code.next_after)))
            (agrees_then scope (tree.from first levels) (node_act around m levels)
            (λ object after_target. and_then (given.from (first + tree.sites + 1) levels after_target) (λ w after_value.
            and_then (asks (first + tree.sites) (binder.SetMember n false) (object ∷ w ∷ []) after_value) next_after))
            (λ object after_target. and_then (node_act around v levels after_target) (λ w after_value. and_then (code.asks around.plan site (object ∷ w ∷ []) after_value) code.next_after))
            (one.same around p.0 levels)
            (λ object. agrees_then scope (given.from (first + tree.sites + 1) levels) (node_act around v levels)
            (λ w after_value. and_then (asks (first + tree.sites) (binder.SetMember n false) (object ∷ w ∷ []) after_value) next_after)
            (λ w after_value. and_then (code.asks around.plan site (object ∷ w ∷ []) after_value) code.next_after)
            (evaluates items scope (site + 1) (tree_of_expr e) (code_of_node v) two around (first + tree.sites + 1) levels later at.1)
            (λ w. asks_next items scope around.plan (first + tree.sites) site (binder.SetMember n false) (object ∷ w ∷ []) counted at.0)));
      }))

  -- a key, in a level of its own
  key_agrees : (site : ℕ) (key : Expr) (k : Node) → IsNode items scope site key k → (around : Around) (at levels : ℕ) → at ≡ site → HasBinders around.plan site (expr_sites key)
      → Agrees scope (key_act (expr_part (given_in items around) key) at levels) (λ s. within levels s (λ inner. node_act around k inner s))
  key_agrees site key k is around at levels e has =
      agrees_within scope levels ((expr_part (given_in items around) key).from at) (node_act around k) (λ inner. evaluates items scope site (tree_of_expr key) (code_of_node k) is around at inner e has)

  pub is_delete_index : (first site : ℕ) (target key : Expr) (m k : Node) → site ≡ first + length (expr_sites target) → IsNode items scope first target m → IsNode items scope (site + 1) key k
      → IsStep items scope first (stmt.DeleteIndex target key) (step.DeleteIndex site m k)
  is_delete_index first site target key m k same one two =
      step_of items scope first (stmt.DeleteIndex target key) (step.DeleteIndex site m k) (λ A B b. Stmt-F.DeleteIndex target key) (λ A B b. Step-F.DeleteIndex site m k)
      (λ A B f g. folds.stmt-DeleteIndex A B f g target key) (λ A B f g. folds.step-DeleteIndex A B f g site m k)
      (stays items scope first (layer_tree (λ A B b. Stmt-F.DeleteIndex target key)) (layer_code (λ A B b. Step-F.DeleteIndex site m k)) (record {
        sized = record {
          sites = λ given. simp length-append (omega (arith, one.sized.sites given, two.sized.sites given));
          fits = λ plan limit has its.
              let p = has_parts plan first (expr_sites target) (binder.DeleteIndex ∷ expr_sites key) has in
              let at = has_at plan (first + length (expr_sites target)) site (binder.DeleteIndex ∷ expr_sites key) (sym same) p.1 in
              (is_site plan site 2 binder.DeleteIndex at.0 refl, fits_both plan limit (node_uses m) (node_uses k) (one.sized.fits plan limit p.0 its) (two.sized.fits plan limit at.1 its));
          cost = simp length-append (omega (arith, one.sized.cost, two.sized.cost));
        };
        same = λ around has levels.
            let p = has_parts around.plan first (expr_sites target) (binder.DeleteIndex ∷ expr_sites key) has in
            let at = has_at around.plan (first + length (expr_sites target)) site (binder.DeleteIndex ∷ expr_sites key) (sym same) p.1 in
            let tree = expr_part (given_in items around) target in
            let counted : first + tree.sites ≡ site = omega (arith, one.sized.sites (given_in items around)) in
            let later : first + tree.sites + 1 ≡ site + 1 = omega (arith, one.sized.sites (given_in items around)) in
            agrees_before scope
            (λ s. and_then (tree.from first levels s) (λ object after_target. and_then (key_act (expr_part (given_in items around) key) (first + tree.sites + 1) levels after_target) (λ w after_key.
            and_then (asks (first + tree.sites) binder.DeleteIndex (object ∷ w ∷ []) after_key) next_after)))
            (λ s. and_then (node_act around m levels s) (λ object after_target. and_then (within levels after_target (λ inner. node_act around k inner after_target)) (λ w after_key.
            and_then (code.asks around.plan site (object ∷ w ∷ []) after_key) code.next_after)))
            (agrees_then scope (tree.from first levels) (node_act around m levels)
            (λ object after_target. and_then (key_act (expr_part (given_in items around) key) (first + tree.sites + 1) levels after_target) (λ w after_key.
            and_then (asks (first + tree.sites) binder.DeleteIndex (object ∷ w ∷ []) after_key) next_after))
            (λ object after_target. and_then (within levels after_target (λ inner. node_act around k inner after_target)) (λ w after_key. and_then (code.asks around.plan site (object ∷ w ∷ []) after_key) code.next_after))
            (one.same around p.0 levels)
            (λ object. agrees_then scope (key_act (expr_part (given_in items around) key) (first + tree.sites + 1) levels) (λ s. within levels s (λ inner. node_act around k inner s))
            (λ w after_key. and_then (asks (first + tree.sites) binder.DeleteIndex (object ∷ w ∷ []) after_key) next_after)
            (λ w after_key. and_then (code.asks around.plan site (object ∷ w ∷ []) after_key) code.next_after)
            (key_agrees (site + 1) key k two around (first + tree.sites + 1) levels later at.1)
            (λ w. asks_next items scope around.plan (first + tree.sites) site binder.DeleteIndex (object ∷ w ∷ []) counted at.0)));
      }))

  pub is_set_index : (first site last : ℕ) (target key e : Expr) (m k v : Node) → site ≡ first + length (expr_sites target) → last ≡ site + 1 + length (expr_sites key)
      → IsNode items scope first target m → IsNode items scope (site + 1) key k → IsNode items scope last e v → IsStep items scope first (stmt.SetIndex target key e) (step.SetIndex site m k v)
  is_set_index first site last target key e m k v same ended one two three =
      step_of items scope first (stmt.SetIndex target key e) (step.SetIndex site m k v) (λ A B b. Stmt-F.SetIndex target key e) (λ A B b. Step-F.SetIndex site m k v)
      (λ A B f g. folds.stmt-SetIndex A B f g target key e) (λ A B f g. folds.step-SetIndex A B f g site m k v)
      (stays items scope first (layer_tree (λ A B b. Stmt-F.SetIndex target key e)) (layer_code (λ A B b. Step-F.SetIndex site m k v)) (record {
        sized = record {
          sites = λ given. simp length-append (omega (arith, one.sized.sites given, two.sized.sites given, three.sized.sites given));
          fits = λ plan limit has its.
              let w = placed plan has in (
                is_site plan site 3 binder.SetIndex w.1.0 refl,
                fits_both plan limit (node_uses m) (node_uses k ++ node_uses v) (one.sized.fits plan limit w.0 its)
                    (fits_both plan limit (node_uses k) (node_uses v) (two.sized.fits plan limit w.1.1 its) (three.sized.fits plan limit w.2 its)),
              );
          cost = simp length-append (omega (arith, one.sized.cost, two.sized.cost, three.sized.cost));
        };
        same = λ around has levels.
            let w = placed around.plan has in
            let tree = expr_part (given_in items around) target in
            let key_tree = expr_part (given_in items around) key in
            let given = expr_part (given_in items around) e in
            let counted : first + tree.sites ≡ site = omega (arith, one.sized.sites (given_in items around)) in
            let later : first + tree.sites + 1 ≡ site + 1 = omega (arith, one.sized.sites (given_in items around)) in
            let latest : first + tree.sites + 1 + key_tree.sites ≡ last = omega (arith, one.sized.sites (given_in items around), two.sized.sites (given_in items around)) in
            agrees_before scope
            (λ s. and_then (tree.from first levels s) (λ object after_target. and_then (key_act key_tree (first + tree.sites + 1) levels after_target) (λ x after_key.
            and_then (given.from (first + tree.sites + 1 + key_tree.sites) levels after_key) (λ y after_value.
            and_then (asks (first + tree.sites) binder.SetIndex (object ∷ x ∷ y ∷ []) after_value) next_after))))
            (λ s. and_then (node_act around m levels s) (λ object after_target. and_then (within levels after_target (λ inner. node_act around k inner after_target)) (λ x after_key.
            and_then (node_act around v levels after_key) (λ y after_value. and_then (code.asks around.plan site (object ∷ x ∷ y ∷ []) after_value) code.next_after))))
            (agrees_then scope (tree.from first levels) (node_act around m levels)
            (λ object after_target. and_then (key_act key_tree (first + tree.sites + 1) levels after_target) (λ x after_key.
            and_then (given.from (first + tree.sites + 1 + key_tree.sites) levels after_key) (λ y after_value.
            and_then (asks (first + tree.sites) binder.SetIndex (object ∷ x ∷ y ∷ []) after_value) next_after)))
            (λ object after_target. and_then (within levels after_target (λ inner. node_act around k inner after_target)) (λ x after_key.
            and_then (node_act around v levels after_key) (λ y after_value. and_then (code.asks around.plan site (object ∷ x ∷ y ∷ []) after_value) code.next_after)))
            (one.same around w.0 levels)
            (λ object. agrees_then scope (key_act key_tree (first + tree.sites + 1) levels) (λ s. within levels s (λ inner. node_act around k inner s))
            (λ x after_key. and_then (given.from (first + tree.sites + 1 + key_tree.sites) levels after_key) (λ y after_value.
            and_then (asks (first + tree.sites) binder.SetIndex (object ∷ x ∷ y ∷ []) after_value) next_after))
            (λ x after_key. and_then (node_act around v levels after_key) (λ y after_value. and_then (code.asks around.plan site (object ∷ x ∷ y ∷ []) after_value) code.next_after))
            (key_agrees (site + 1) key k two around (first + tree.sites + 1) levels later w.1.1)
            (λ x. agrees_then scope (given.from (first + tree.sites + 1 + key_tree.sites) levels) (node_act around v levels)
            (λ y after_value. and_then (asks (first + tree.sites) binder.SetIndex (object ∷ x ∷ y ∷ []) after_value) next_after)
            (λ y after_value. and_then (code.asks around.plan site (object ∷ x ∷ y ∷ []) after_value) code.next_after)
            (evaluates items scope last (tree_of_expr e) (code_of_node v) three around (first + tree.sites + 1 + key_tree.sites) levels latest w.2)
            (λ y. asks_next items scope around.plan (first + tree.sites) site binder.SetIndex (object ∷ x ∷ y ∷ []) counted w.1.0))));
      }))
    where
      placed : (plan : Plan) → HasBinders plan first (expr_sites target ++ binder.SetIndex ∷ expr_sites key ++ expr_sites e)
          → HasBinders plan first (expr_sites target) × (HasBinder plan site binder.SetIndex × HasBinders plan (site + 1) (expr_sites key)) × HasBinders plan last (expr_sites e)
      placed plan has =
          let p = has_parts plan first (expr_sites target ++ binder.SetIndex ∷ expr_sites key) (expr_sites e) has in
          let q = has_parts plan first (expr_sites target) (binder.SetIndex ∷ expr_sites key) p.0 in
          let at = has_at plan (first + length (expr_sites target)) site (binder.SetIndex ∷ expr_sites key) (sym same) q.1 in
          let e_at : first + length (expr_sites target ++ binder.SetIndex ∷ expr_sites key) ≡ last = omega (arith, length-append (expr_sites target) (binder.SetIndex ∷ expr_sites key)) in
          (q.0, (at.0, at.1), has_at plan (first + length (expr_sites target ++ binder.SetIndex ∷ expr_sites key)) last (expr_sites e) e_at p.1)
