use Rattle.task_run.proofs.Growth.{events_grow}
use Rattle.task_run.proofs.laws.what_was_done_is_added.Goals as goal

pub returns : goal.returns
returns c = events_grow
