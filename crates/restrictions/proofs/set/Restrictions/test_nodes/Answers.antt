use Rattle.std.proofs.Common.{◌≡◌, [], ◌∙◌, ap, take, arith}
use Rattle.std.specs.List.{fold}
use Rattle.std.proofs.lemmas.Bool.Decides.{nat_tests}
use Rattle.std.proofs.lemmas.List.{take_all}
use Rattle.restrictions.specs.TestTrees.{with_test}
use Rattle.restrictions.proofs.Nested.{nodes_of_some, nodes_of_none}
use Rattle.restrictions.proofs.set.Restrictions.test_nodes.Goals as goal
use Rattle.restrictions.proofs.set.Restrictions.test_nodes.Goals.{then-is_empty+in_ok-push, else-is_empty}

pub returns-clause-nodes : goal.returns-clause-nodes
returns-clause-nodes c =
    let nodes = c.loop-restriction.nodes.items in
    let ended : take c.loop-restriction.restriction-index c.items-restriction-items.result.now ≡ c.items-restriction-items.result.now = take_all c.loop-restriction.restriction-index c.items-restriction-items.result.now (omega arith) in
    let so_far : nodes ≡ fold with_test [] c.args.self.now = c.loop-restriction.invariant.nodes_so_far ∙ ap (fold with_test []) (ended ∙ c.items-restriction-items.ensures.items) in
    elim c.if-is_empty.branch [
      | then-is_empty+in_ok-push w ↦ ap (λ v. v.items) w.nodes-is ∙ w.in_ok-push.ensures.items ∙ nodes_of_none c.args.self.now nodes so_far (grind (arith, nat_tests, c.is_empty.ensures, w.if-is_empty.true))
      | else-is_empty w ↦ ap (λ v. v.items) w.nodes-is ∙ nodes_of_some c.args.self.now nodes so_far (grind (arith, nat_tests, c.is_empty.ensures, w.if-is_empty.false))
    ]
