-- The node of a row answers, and names the first two operands alone.
use Rattle.std.proofs.Common.{map, IsTrue, sym, subst}
use Rattle.expr_tree.specs.declared.node.Node.{Node}
use Rattle.expr_tree.specs.Trees.{answers, fits}
use Rattle.meta_object.specs.Metas.{known_in}
use Rattle.fallback.proofs.OwnNodes.{own_answers, own_fits}
use Rattle.fallback.proofs.rows.row_bound.Goals as goal

pub single-requires-clause-answers : goal.single-requires-clause-answers
single-requires-clause-answers c =
    subst (λ (n : Node). IsTrue (answers n)) (sym c.in_ok-node.ensures) (own_answers c.args.functions.now.params c.args.binder.now (map known_in c.args.metas.now))

pub single-requires-clause-fits : goal.single-requires-clause-fits
single-requires-clause-fits c =
    subst (λ (n : Node). IsTrue (fits 0 n)) (sym c.in_ok-node.ensures) (own_fits c.args.functions.now.params c.args.binder.now (map known_in c.args.metas.now))
