use Rattle.std.proofs.Common.{◌≡◌, ◌≤◌, map, take, vec_capacity}
use Rattle.object_history.specs.Rows.{journal_of}
use Rattle.dlr_engine.proofs.run.journals_of.Given as goal

abbrev pub invariant-loop-state : goal.invariant-loop-state
invariant-loop-state l = (l.journals.items ≡ map journal_of (take l.count l.yielded)) × (l.count ≤ vec_capacity l.journals)
