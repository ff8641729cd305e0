-- What a pass tells while it answers for a task.
use Rattle.std.specs.Prelude.{ℕ, nat_lt, if◌then◌else◌, List, []}
use Rattle.dyn_value.specs.declared.entry.Entry.{Entry}
use Rattle.task_walk.specs.Tales.{Tale, Teller}
use Rattle.dlr_engine.specs.declared.pass.Pass.{Pass}
use Rattle.dlr_engine.specs.Passes.{mine_of}
use Rattle.dlr_engine.specs.Passes.{numbers_of}

-- the entries that it made on an object; there is no object past the limit
abbrev pub made_below : ℕ → Pass → ℕ → List Entry
made_below limit p object = if nat_lt object limit then mine_of p object else []

-- what it tells, where it answered and drew so often
abbrev pub tale_of : Teller → ℕ → Pass → Tale
tale_of by count p = record { by = by; entries = made_below by.limit p; drawn = numbers_of p; count = count }
