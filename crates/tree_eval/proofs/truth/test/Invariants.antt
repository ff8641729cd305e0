use Rattle.std.proofs.Common.{◌≡◌, [], take}
use Rattle.expr_tree.specs.Meanings.{tests}
use Rattle.tree_eval.proofs.truth.test.Given as goal

abbrev pub invariant-loop-number : goal.invariant-loop-number
invariant-loop-number l = take l.number l.truths ≡ tests l.operands l.class [] (take l.number l.nodes)
