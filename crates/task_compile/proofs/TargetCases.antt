-- The code of a statement on a target, from the code of its parts as they were compiled.
use Rattle.std.proofs.Common.{◌≡◌, ℕ, ◌+◌, List, length, refl, sym, ap, ◌∙◌, subst, arith}
use Rattle.script_grammar.specs.declared.tree.Expr.{Expr}
use Rattle.script_grammar.specs.declared.tree.Stmt.TheVariants as stmt
use Rattle.script_sites.specs.Sites.{expr_sites}
use Rattle.task_code.specs.declared.code.Node.{Node}
use Rattle.task_code.specs.declared.code.Step.TheVariants as step
use Rattle.task_compile.specs.declared.names.ItemNames.{ItemNames}
use Rattle.task_compile.specs.States.{Names}
use Rattle.task_compile.specs.Compiled.{IsNode}
use Rattle.task_compile.specs.CompiledBlocks.{IsStep}
use Rattle.task_compile.proofs.TargetForms.{is_delete_index, is_delete_member, is_set_index, is_set_member}

module _ (items : ItemNames) (scope : Names) where
  moved : (site at : ℕ) (e : Expr) (n : Node) → site ≡ at → IsNode items scope site e n → IsNode items scope at e n
  moved site at e n p is = subst (λ z. IsNode items scope z e n) p is

  pub delete_member_case : (first number after : ℕ) (target : Expr) (n : List ℕ) (m : Node) → number ≡ after → after ≡ first + length (expr_sites target) → IsNode items scope first target m
      → IsStep items scope first (stmt.DeleteMember target n) (step.DeleteMember number m)
  delete_member_case first number after target n m p e one = is_delete_member items scope first number target n m (p ∙ e) one

  pub set_member_case : (first number after start : ℕ) (target : Expr) (n : List ℕ) (e : Expr) (m v : Node) → number ≡ after → start ≡ after + 1 → after ≡ first + length (expr_sites target)
      → IsNode items scope first target m → IsNode items scope start e v → IsStep items scope first (stmt.SetMember target n e) (step.SetMember number m v)
  set_member_case first number after start target n e m v p q r one two =
      is_set_member items scope first number target n e m v (p ∙ r) one (moved start (number + 1) e v (q ∙ ap (λ z. z + 1) (sym p)) two)

  pub delete_index_case : (first number after start : ℕ) (target key : Expr) (m k : Node) → number ≡ after → start ≡ after + 1 → after ≡ first + length (expr_sites target)
      → IsNode items scope first target m → IsNode items scope start key k → IsStep items scope first (stmt.DeleteIndex target key) (step.DeleteIndex number m k)
  delete_index_case first number after start target key m k p q r one two =
      is_delete_index items scope first number target key m k (p ∙ r) one (moved start (number + 1) key k (q ∙ ap (λ z. z + 1) (sym p)) two)

  pub set_index_case : (first number after start last : ℕ) (target key e : Expr) (m k v : Node) → number ≡ after → start ≡ after + 1 → after ≡ first + length (expr_sites target) → last ≡ start + length (expr_sites key)
      → IsNode items scope first target m → IsNode items scope start key k → IsNode items scope last e v → IsStep items scope first (stmt.SetIndex target key e) (step.SetIndex number m k v)
  set_index_case first number after start last target key e m k v p q r t one two three =
      let at : last ≡ number + 1 + length (expr_sites key) = omega arith in
      is_set_index items scope first number last target key e m k v (p ∙ r) at one (moved start (number + 1) key k (q ∙ ap (λ z. z + 1) (sym p)) two) three
