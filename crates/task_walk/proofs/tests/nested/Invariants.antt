-- the block so far asks for nothing
use Rattle.std.proofs.Common.{◌≡◌, []}
use Rattle.task_code.specs.Costs.{steps_cost, steps_uses}
use Rattle.task_walk.proofs.tests.nested.Given as goal

abbrev pub invariant-nesting : goal.invariant-nesting
invariant-nesting l = record {
  uses : steps_uses l.block ≡ [];
  cost : steps_cost l.block ≡ 0;
}
