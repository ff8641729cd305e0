use Rattle.std.proofs.Common.{ap, arith, ◌-◌, ◌∙◌}
use Rattle.expr_tree.specs.Trees.{root}
use Rattle.expr_tree.proofs.Orders.{root_read}
use Rattle.expr_tree.proofs.tree.Tree.root.Goals as goal

pub returns-clause-root : goal.returns-clause-root
returns-clause-root c =
    root_read c.self.inside.nodes.items (c.len.result - 1) c.index.result.now (omega (arith, c.len.ensures, c.self.invariant.some_node)) c.index.ensures
    ∙ ap root c.self.view_is
