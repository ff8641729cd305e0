use Rattle.std.proofs.Common.{◌≡◌, ◌≤◌, ◌*◌, ◌^◌}
use Rattle.dlr_engine.specs.Engines.{run_of}
use Rattle.dlr_engine.specs.Passes.{made_in, number_of, program_in}
use Rattle.engine_tasks.specs.TaskRuns.{AreRunIn}
use Rattle.engine_tasks.proofs.serial.run_in_order.Given as goal

abbrev pub invariant-loop-task : goal.invariant-loop-task
invariant-loop-task g l = record {
  engine : run_of l.world.engine.now ≡ run_of l.engine;
  number : number_of l.world.pass ≡ 0;
  made : made_in l.world.pass ≡ 1;
  few : l.world.count ≤ l.task * 2 ^ 53;
  run : AreRunIn (program_in (run_of l.engine)) l.options l.task l.tasks l.world.pass;
}
