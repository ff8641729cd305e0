use Rattle.std.proofs.Common.{◌≡◌, ◌≤◌, ◌*◌, [], length, take}
use Rattle.std.specs.List.{fold}
use Rattle.restrictions.specs.TestTrees.{with_test}
use Rattle.restrictions.proofs.set.Restrictions.test_nodes.Given as goal

abbrev pub invariant-loop-restriction : goal.invariant-loop-restriction
invariant-loop-restriction l = record {
  nodes_so_far : l.nodes.items ≡ fold with_test [] (take l.restriction-index l.restriction-items);
  few : length l.nodes.items ≤ 2 * l.restriction-index;
}
