use Rattle.expando_object.specs.State.{names_in}
use Rattle.tree_eval.proofs.tests.prepared.gives.Goals as goal

-- src/tests/prepared.rt:78:18
pub answered-requires-clause-after : goal.answered-requires-clause-after
answered-requires-clause-after g c = c.requires.after (names_in c.in_ok-state.state)
