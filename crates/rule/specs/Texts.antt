-- The text of a rule.
use Rattle.std.specs.Prelude.{ℕ, List, [], ◌∷◌, codes}
use Rattle.expr_tree.specs.Texts.{form, tree_text}
use Rattle.rule.specs.declared.rule.Rule.{Rule}
use Rattle.rule.specs.Rules.{test_of, body_of}

-- where its test is true its body answers, and else it leads to the update
abbrev pub rule_text : Rule → List ℕ
rule_text r = form (codes "if") (tree_text (test_of r) ∷ tree_text (body_of r) ∷ codes "update" ∷ [])
