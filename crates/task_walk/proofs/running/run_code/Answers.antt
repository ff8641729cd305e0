use Rattle.std.proofs.Common.{map, sum, arith}
use Rattle.task_code.specs.Costs.{step_cost}
use Rattle.task_walk.proofs.CodeRuns.{block_cheap, ready_task, task_came, task_counted, task_lost}
use Rattle.task_walk.proofs.running.run_code.Goals as goal

pub run_steps-requires : goal.run_steps-requires
run_steps-requires g c = record {
  ready = ready_task c.args.code.now c.args.body.now c.as_slice.result.now c.args.turns c.new.result (g.W.World.tale c.args.world.now) c.as_slice.ensures
      c.new.ensures
      c.requires.world c.requires.fits c.requires.cheap c.requires.few (omega (arith, c.ranges.turns.fits));
}

pub returns-in-Ok-clause-ran : goal.returns-in-Ok-clause-ran
returns-in-Ok-clause-ran g c =
    task_came c.args.code.now c.args.body.now c.as_slice.result.now c.args.turns (sum (map step_cost c.as_slice.result.now)) c.new.result _ _ _ _ _ _
    c.as_slice.ensures c.new.ensures c.in-Ok.ensures

pub returns-in-Err-Fault-clause-ran : goal.returns-in-Err-Fault-clause-ran
returns-in-Err-Fault-clause-ran g c =
    task_came c.args.code.now c.args.body.now c.as_slice.result.now c.args.turns (sum (map step_cost c.as_slice.result.now)) c.new.result _ _ _ _ _ _
    c.as_slice.ensures c.new.ensures
    (rw c.in-Err-Fault.field-0-is at c.in-Err-Fault.ensures)

pub returns-clause-ran : goal.returns-clause-ran
returns-clause-ran g c =
    task_lost c.args.code.now c.args.body.now c.as_slice.result.now c.args.turns (sum (map step_cost c.as_slice.result.now)) 256 _ _ _ _ _ _ _
    c.run_steps.ensures

pub returns-in-Ok-clause-count : goal.returns-in-Ok-clause-count
returns-in-Ok-clause-count g c =
    task_counted _ _ (sum (map step_cost c.as_slice.result.now)) c.args.turns c.run_steps.new.frame.turns c.run_steps.ensures.count
    (block_cheap c.args.body.now c.as_slice.result.now c.as_slice.ensures c.requires.cheap)

pub returns-in-Err-Fault-clause-count : goal.returns-in-Err-Fault-clause-count
returns-in-Err-Fault-clause-count g c =
    task_counted _ _ (sum (map step_cost c.as_slice.result.now)) c.args.turns c.run_steps.new.frame.turns c.run_steps.ensures.count
    (block_cheap c.args.body.now c.as_slice.result.now c.as_slice.ensures c.requires.cheap)

pub returns-clause-count : goal.returns-clause-count
returns-clause-count g c =
    task_counted _ _ (sum (map step_cost c.as_slice.result.now)) c.args.turns c.run_steps.new.frame.turns c.run_steps.ensures.count
    (block_cheap c.args.body.now c.as_slice.result.now c.as_slice.ensures c.requires.cheap)
