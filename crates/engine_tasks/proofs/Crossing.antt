-- What of a run of tasks may cross threads.
use denote.Param.Send.{IsSend, IsSync, sendable}
use denote.Param.SendFields.{as_row_sync, declared_send, declared_sync}
use denote.RattleType.{RattleType}
use denote.Ref.{NamedLft}
use Rattle.std.proofs.Crossing as heap
use Rattle.std.proofs.Crossing.{crosses}
use Rattle.dlr_engine.proofs.Crossing.{engine_sync, pass_send}
use Rattle.fallback.specs.contracts.script.Script as Script
use Rattle.engine_tasks.specs.contracts.beside.Finished as Finished
use Rattle.engine_tasks.specs.contracts.beside.Runner as Runner
use Rattle.engine_tasks.specs.contracts.report.TaskEnd as TaskEnd

script_sync : IsSync Script.the_row
script_sync = search (sendable, crosses) depth 80 fits 20000

end_send : IsSend TaskEnd.the_row
end_send = search (sendable, crosses) depth 80 fits 20000

pub finished_send : (p : NamedLft) → IsSend (Finished.the_row p)
finished_send p = declared_send (Finished.the_type p) (end_send, (pass_send p, tt))

pub runner_sync : (a p : NamedLft) (G : RattleType) → IsSync G → IsSync (Runner.the_row a p G)
runner_sync a p G s = declared_sync (Runner.the_type a p G) (
  search (engine_sync, script_sync, as_row_sync, sendable) depth 20,
  (search (s, sendable) depth 20, (search (sendable, crosses) depth 20, (heap.sync, tt))),
)
