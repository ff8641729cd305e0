use denote.Param.Send.{sendable}
use mir.Syntax.{named}
use Rattle.std.proofs.Crossing.{crosses}
use Rattle.dlr_engine.proofs.Crossing.{pass_send}
use Rattle.engine_tasks.proofs.Crossing.{finished_send, runner_sync}
use Rattle.engine_tasks.proofs.beside.run_all.Goals as goal

pub run_jobs-requires-send-J : goal.run_jobs-requires-send-J
run_jobs-requires-send-J g c κs within = search (pass_send, sendable) depth 20

pub run_jobs-requires-send-D : goal.run_jobs-requires-send-D
run_jobs-requires-send-D g c κs within = search (finished_send, sendable, crosses) depth 20

pub run_jobs-requires-sync-W : goal.run_jobs-requires-sync-W
run_jobs-requires-sync-W g c κs within = record {
  shared = (runner_sync (record { mir = named 6; lft = κs.1.1.1.1.1.1.0 }) (record { mir = named 2; lft = κs.1.1.0 }) _
      c.type_bounds.sync-G).shared;
}
