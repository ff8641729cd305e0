-- Meanings of the nodes of a tree, from left to right: each by the meanings of those before it.
use Rattle.std.specs.Prelude.{List, [], ◌∷◌, ◌++◌}
use Rattle.expr_tree.specs.declared.node.Node.{Node}

-- the meanings of the nodes before, and then those of these nodes
abbrev pub in_order : {A : Type 0} → (List A → Node → A) → List A → List Node → List A
in_order of before [] = before
in_order of before (n ∷ ns) = in_order of (before ++ of before n ∷ []) ns
