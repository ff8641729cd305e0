-- every nesting opens a level
use Rattle.std.proofs.Common.{ℕ, suc, ◌+◌, ◌*◌, ◌<◌, [], drop, map, sum}
use Rattle.task_code.specs.Codes.{operands_act, node_act, suffixes_act, tests, block_act, body_act, loops, step_act, steps_act}
use Rattle.task_code.specs.Costs.{node_cost, steps_cost, step_cost}
use Rattle.task_walk.specs.Comings.{told}
use Rattle.task_walk.specs.Goings.{Going}
use Rattle.task_walk.specs.Parts.{AreValues, AreAfter, part_act, part_cost, suffix_act, suffix_cost}
use Rattle.task_walk.specs.Tales.{IsProperValue}
use Rattle.task_walk.proofs.+walk.Given as goal

abbrev pub decreases-calls::call : goal.decreases-calls::call
decreases-calls::call g l = 16 * l.levels

abbrev pub decreases-calls::create : goal.decreases-calls::create
decreases-calls::create g l = 16 * l.levels + 1

abbrev pub decreases-calls::invoke : goal.decreases-calls::invoke
decreases-calls::invoke g l = 16 * l.levels + 1

abbrev pub decreases-calls::new_of : goal.decreases-calls::new_of
decreases-calls::new_of g l = 16 * l.levels + 2

abbrev pub decreases-expressions::called_with : goal.decreases-expressions::called_with
decreases-expressions::called_with g l = 16 * l.levels

abbrev pub decreases-expressions::head_value : goal.decreases-expressions::head_value
decreases-expressions::head_value g l = 16 * l.levels + 3

abbrev pub decreases-expressions::operation : goal.decreases-expressions::operation
decreases-expressions::operation g l = 16 * l.levels + 6

abbrev pub decreases-expressions::suffix_value : goal.decreases-expressions::suffix_value
decreases-expressions::suffix_value g l = 16 * l.levels + 2

abbrev pub decreases-expressions::suffixed : goal.decreases-expressions::suffixed
decreases-expressions::suffixed g l = 16 * l.levels + 3

abbrev pub decreases-expressions::value_of : goal.decreases-expressions::value_of
decreases-expressions::value_of g l = 16 * l.levels + 4

abbrev pub decreases-expressions::values_of_parts : goal.decreases-expressions::values_of_parts
decreases-expressions::values_of_parts g l = 16 * l.levels + 5

abbrev pub decreases-expressions::with_arguments : goal.decreases-expressions::with_arguments
decreases-expressions::with_arguments g l = 16 * l.levels + 5

abbrev pub decreases-statements::run_block : goal.decreases-statements::run_block
decreases-statements::run_block g l = 16 * l.levels

abbrev pub decreases-statements::run_caught : goal.decreases-statements::run_caught
decreases-statements::run_caught g l = 16 * l.levels + 1

abbrev pub decreases-statements::run_if : goal.decreases-statements::run_if
decreases-statements::run_if g l = 16 * l.levels + 6

abbrev pub decreases-statements::run_step : goal.decreases-statements::run_step
decreases-statements::run_step g l = 16 * l.levels + 7

abbrev pub decreases-statements::run_steps : goal.decreases-statements::run_steps
decreases-statements::run_steps g l = 16 * l.levels + 8

abbrev pub decreases-statements::run_try : goal.decreases-statements::run_try
decreases-statements::run_try g l = 16 * l.levels + 2

abbrev pub decreases-statements::run_while : goal.decreases-statements::run_while
decreases-statements::run_while g l = 16 * l.levels + 6

abbrev pub decreases-statements::test_of : goal.decreases-statements::test_of
decreases-statements::test_of g l = 16 * l.levels + 5

abbrev pub invariant-expressions::suffixed-loop-suffix : goal.invariant-expressions::suffixed-loop-suffix
invariant-expressions::suffixed-loop-suffix g l = record {
  value : IsProperValue (g.W.World.tale l.world).by l.value;
  going : Going (g.W.World.tale l.fn.world).by l.code.functions.now l.levels
      (λ a. suffixes_act (map (suffix_act a) l.suffixes) l.levels l.fn.target l.fn.frame) (sum (map suffix_cost l.suffixes))
      l.fn.frame (told (g.W.World.tale l.fn.world) l.fn.printed) (g.W.World.answered l.fn.world)
      (λ a. suffixes_act (map (suffix_act a) (drop l.suffix-index l.suffixes)) l.levels l.value l.frame)
      (sum (map suffix_cost (drop l.suffix-index l.suffixes)))
      l.frame (told (g.W.World.tale l.world) l.printed) (g.W.World.answered l.world);
}

abbrev pub invariant-expressions::values_of_parts-loop-part : goal.invariant-expressions::values_of_parts-loop-part
invariant-expressions::values_of_parts-loop-part g l = record {
  values : AreValues l.part-index (g.W.World.tale l.world).by l.operands;
  going : Going (g.W.World.tale l.fn.world).by l.code.functions.now l.levels
      (λ a. operands_act [] (map (part_act a) l.parts) l.levels l.fn.frame) (sum (map part_cost l.parts))
      l.fn.frame (told (g.W.World.tale l.fn.world) l.fn.printed) (g.W.World.answered l.fn.world)
      (λ a. operands_act l.operands (map (part_act a) (drop l.part-index l.parts)) l.levels l.frame) (sum (map part_cost (drop l.part-index l.parts)))
      l.frame (told (g.W.World.tale l.world) l.printed) (g.W.World.answered l.world);
}

abbrev pub invariant-expressions::with_arguments-loop-arg : goal.invariant-expressions::with_arguments-loop-arg
invariant-expressions::with_arguments-loop-arg g l = record {
  values : AreAfter l.fn.operands l.arg-index (g.W.World.tale l.world).by l.values;
  going : Going (g.W.World.tale l.fn.world).by l.code.functions.now l.levels
      (λ a. operands_act l.fn.operands (map (node_act a) l.args) l.levels l.fn.frame) (sum (map node_cost l.args))
      l.fn.frame (told (g.W.World.tale l.fn.world) l.fn.printed) (g.W.World.answered l.fn.world)
      (λ a. operands_act l.values (map (node_act a) (drop l.arg-index l.args)) l.levels l.frame) (sum (map node_cost (drop l.arg-index l.args)))
      l.frame (told (g.W.World.tale l.world) l.printed) (g.W.World.answered l.world);
}

abbrev pub invariant-statements::run_steps-loop-step : goal.invariant-statements::run_steps-loop-step
invariant-statements::run_steps-loop-step g l = record {
  going : Going (g.W.World.tale l.fn.world).by l.code.functions.now l.levels
      (λ a. steps_act (map (step_act a) l.steps) l.levels l.fn.frame) (sum (map step_cost l.steps))
      l.fn.frame (told (g.W.World.tale l.fn.world) l.fn.printed) (g.W.World.answered l.fn.world)
      (λ a. steps_act (map (step_act a) (drop l.step-index l.steps)) l.levels l.frame) (sum (map step_cost (drop l.step-index l.steps)))
      l.frame (told (g.W.World.tale l.world) l.printed) (g.W.World.answered l.world);
}

abbrev pub invariant-statements::run_while-rounds : goal.invariant-statements::run_while-rounds
invariant-statements::run_while-rounds g l = record {
  going : (n : ℕ) × ((l.frame.turns < n) × Going (g.W.World.tale l.fn.world).by l.code.functions.now l.levels
      (λ a. loops (suc l.fn.frame.turns) (tests a l.site l.test l.levels) (block_act (body_act a l.body) l.levels) l.fn.frame)
      (node_cost l.test + 1 + steps_cost l.body)
      l.fn.frame (told (g.W.World.tale l.fn.world) l.fn.printed) (g.W.World.answered l.fn.world)
      (λ a. loops n (tests a l.site l.test l.levels) (block_act (body_act a l.body) l.levels) l.frame) (node_cost l.test + 1 + steps_cost l.body)
      l.frame (told (g.W.World.tale l.world) l.printed) (g.W.World.answered l.world));
}

abbrev pub decreases-statements::run_while-rounds : goal.decreases-statements::run_while-rounds
decreases-statements::run_while-rounds g l = l.frame.turns
