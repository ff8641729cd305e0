use Rattle.std.proofs.Common.{◌≡◌, ◌<◌, ℕ, IsTrue}
use Rattle.std.specs.Prelude.{Some, slice_get}
use Rattle.expr_tree.specs.declared.node.Node.{Node}
use Rattle.expr_tree.specs.Trees.{fits}
use Rattle.expr_tree.proofs.tree.first_unfit.Given as goal

abbrev pub invariant-loop-number : goal.invariant-loop-number
invariant-loop-number l = (j : ℕ) (n : Node) → j < l.number → slice_get l.nodes j ≡ Some n → IsTrue (fits j n)
