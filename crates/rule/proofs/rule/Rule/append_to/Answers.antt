-- The parts of the text, one after the other.
use Rattle.std.proofs.Common.{◌≡◌, ℕ, List, [], ◌∷◌, ◌++◌, sym, ◌∙◌}
use Rattle.std.specs.Prelude.{codes}
use Rattle.expr_tree.specs.Texts.{form, tree_text}
use Rattle.expr_tree.proofs.Appending.{ends, renamed}
use Rattle.rule.specs.Texts.{rule_text}
use Rattle.rule.proofs.rule.Rule.append_to.Goals as goal

pub returns : goal.returns
returns c =
    let test : List ℕ = tree_text c.test.result.now in
    let body : List ℕ = tree_text c.tree.result.now in
    let text : List ℕ = codes "(if " ++ (test ++ (codes " " ++ (body ++ codes " update)"))) in
    let same : rule_text c.args.self.now ≡ text = (λ i. form (codes "if") (tree_text (sym c.test.ensures i) ∷ tree_text (sym (c.tree.ensures.tree ∙ c.body.ensures) i) ∷ codes "update" ∷ [])) in
    renamed _ _ _ text (rule_text c.args.self.now) (
    ends _ _ _ _ (codes "(if ") (test ++ (codes " " ++ (body ++ codes " update)"))) c.in_ok-push_word.ensures (
    ends _ _ _ _ test (codes " " ++ (body ++ codes " update)")) c.in_ok-print_to.ensures.appended (
    ends _ _ _ _ (codes " ") (body ++ codes " update)") c.in_ok-push_word-2.ensures (
    ends _ _ _ _ body (codes " update)") c.in_ok-print_to-2.ensures.appended (
    c.push_word-3.ensures)))))
    same
