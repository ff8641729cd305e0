-- Nodes of a tree by their numbers.
use Rattle.std.proofs.Common.{◌≡◌, ℕ, ◌+◌, List, [], ◌∷◌, length, arith, get_or, refl, zero, suc}
use Rattle.std.specs.Prelude.{Some, slice_get}
use Rattle.std.proofs.lemmas.Option.{slice_get_read}
use Rattle.expr_tree.specs.declared.node.Node.{Node}
use Rattle.expr_tree.specs.Trees.{root}

-- the node of the last number is the root
pub root_at : (nodes : List Node) (i : ℕ) (n : Node) → i + 1 ≡ length nodes → slice_get nodes i ≡ Some n → n ≡ root nodes
root_at [] i n last here = grind (arith, last, here)
root_at (m ∷ []) zero n last here = grind (arith, here)
root_at (m ∷ []) (suc i) n last here = absurd (omega (arith, last))
root_at (m ∷ k ∷ ns) zero n last here = absurd (omega (arith, last))
root_at (m ∷ k ∷ ns) (suc i) n last here = root_at (k ∷ ns) i n (omega (arith, last)) here

-- the same of an element that was read
pub root_read : (nodes : List Node) (i : ℕ) (n : Node) → i + 1 ≡ length nodes → n ≡ get_or nodes i n → n ≡ root nodes
root_read nodes i n last here = root_at nodes i n last (slice_get_read nodes (length nodes) i n refl (omega (arith, last)) here)
