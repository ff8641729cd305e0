-- What the run of a task's code comes to.
use Rattle.std.specs.Prelude.{ℕ, List, Result, Ok, Err, Option, None, Some}
use Rattle.task_code.specs.declared.code.Steps.{Steps}
use Rattle.task_code.specs.Acts.{Ending, Gives, Fails}
use Rattle.task_code.specs.Codes.{task_code_act}
use Rattle.task_walk.specs.declared.code.Code.{Code}
use Rattle.task_walk.specs.declared.ended.Ended.{Ended}
use Rattle.task_walk.specs.declared.ended.Ended.TheVariants as ended
use Rattle.task_walk.specs.Comings.{Told, Came}
use Rattle.task_walk.specs.Deeds.{deeds_of}
use Rattle.task_walk.specs.Tales.{Asked, IsProperFault}

-- want of memory is no end
abbrev pub end_of : {E : Type 0} → Result Ended E → Option (Ending (Unit {0}))
end_of (Ok ended.Done) = Some (Gives tt)
end_of (Ok (ended.Faulted f)) = Some (Fails f)
end_of (Err e) = None

-- From one moment to another the code of a task did what it does with so many turns, as far as its end, where there is
-- one; and the operations came after those that were answered before.
abbrev pub CameToEnd : {E H : Type 0} → Code → Steps → ℕ → Result Ended E → Told → Told
    → (H → List Asked → Type 0) → (H → List Asked → Type 0) → Type 0
CameToEnd code body turns result old new before now =
    Came old.world.by.plan
    (deeds_of (task_code_act old.world.by.plan old.world.by.limit code.functions.now body turns))
    (end_of result) tt old new before now

-- a fault that ended a task has short names
abbrev pub IsProperEnd : Ended → Type 0
IsProperEnd ended.Done = Unit {0}
IsProperEnd (ended.Faulted f) = IsProperFault f
