use Rattle.std.proofs.Common.{sym, ap, ◌∙◌, subst}
use Rattle.expr_tree.specs.Trees.{IsTree}
use Rattle.expr_tree.specs.Meanings.{passes}
use Rattle.restrictions.proofs.Nested.{tree_of_is_tree, passes_tree_of}
use Rattle.restrictions.proofs.set.Restrictions.to_tree.Goals as goal

pub unreachable-requires : goal.unreachable-requires
unreachable-requires c = cc (c.in-Err.ensures.ok.1 (subst IsTree (sym c.in_ok-nodes.ensures.nodes) (tree_of_is_tree c.args.self.now c.in_ok-nodes.ensures.set)))

pub returns-clause-meaning : goal.returns-clause-meaning
returns-clause-meaning c ops class =
    ap (λ t. passes t ops class) (c.in-Ok.ensures.tree ∙ c.in_ok-nodes.ensures.nodes) ∙ passes_tree_of ops class c.args.self.now
