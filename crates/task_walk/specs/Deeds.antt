-- What a task does, whatever it does it with.
use Rattle.std.specs.Prelude.{Option, None, Some}
use Rattle.task_code.specs.Acts.{Ending, Gives, Fails, Act, Ends, bind}
use Rattle.task_walk.specs.declared.ended.Ended.{Ended}
use Rattle.task_walk.specs.declared.ended.Ended.TheVariants as ended

-- acts of which the last value and state do not count
abbrev pub Deeds : Type 0
Deeds = Act (Unit {0}) (Unit {0})

abbrev pub forgotten : {A : Type 0} → Ending A → Ending (Unit {0})
forgotten (Gives a) = Gives tt
forgotten (Fails f) = Fails f

-- the acts, whose last value and state are let go
abbrev pub deeds_of : {S A : Type 0} → Act S A → Deeds
deeds_of act = bind act (λ e s. Ends (forgotten e) tt)

-- how a task ended by what its acts came to
abbrev pub ended_of : Option (Ending (Unit {0}) × Unit {0}) → Option Ended
ended_of None = None
ended_of (Some c) = elim c.0 [ Gives a ↦ Some ended.Done | Fails f ↦ Some (ended.Faulted f) ]
