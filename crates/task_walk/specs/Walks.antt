-- What the walk over code needs, and what it does.
use Rattle.std.specs.Prelude.{◌≡◌, ℕ, ◌+◌, ◌*◌, ◌^◌, ◌<◌, ◌≤◌, List, length, Result, Ok, Err, Option, None, Some}
use Rattle.std.specs.Prelude.{IfSome}
use Rattle.std.specs.List.{AllByRecursion}
use Rattle.task_code.specs.declared.code.FunctionCode.{FunctionCode}
use Rattle.task_code.specs.declared.frame.Flow.{Flow}
use Rattle.task_code.specs.declared.frame.Flow.TheVariants.{Next, Returned}
use Rattle.task_code.specs.declared.frame.Frame.{Frame}
use Rattle.task_code.specs.Acts.{Ending, Gives, Fails, Act}
use Rattle.task_code.specs.Codes.{Plan, Around, around_of}
use Rattle.task_code.specs.Costs.{Uses, steps_uses, steps_cost}
use Rattle.task_code.specs.Fits.{Fits}
use Rattle.task_walk.specs.declared.code.Code.{Code}
use Rattle.task_walk.specs.declared.stop.Stop.{Stop}
use Rattle.task_walk.specs.declared.stop.Stop.TheVariants as stop
use Rattle.task_walk.specs.Comings.{Told, Came}
use Rattle.task_walk.specs.Plans.{plan_of}
use Rattle.task_walk.specs.Tales.{Teller, Tale, Asked, IsProperFault, IsProperValue, AreProper}

-- want of memory is no ending
abbrev pub stopped : {A : Type 0} → Stop → Option (Ending A)
stopped (stop.Fault f) = Some (Fails f)
stopped stop.Memory = None

abbrev pub ending_of : {A : Type 0} → Result A Stop → Option (Ending A)
ending_of (Ok a) = Some (Gives a)
ending_of (Err e) = stopped e

-- the most that a world is asked for one turn
abbrev pub most_asked : ℕ
most_asked = 2097152

-- a function's code fits, and asks few operations without a turn
pub record IsBody (plan : Plan) (limit : ℕ) (f : FunctionCode) : Type 0 where
  pub fits : Fits plan limit (steps_uses f.body)
  pub cost : steps_cost f.body ≤ most_asked

-- The world answers for the code, whose functions can be called.
pub record IsFor (code : Code) (by : Teller) : Type 0 where
  pub plan : by.plan ≡ plan_of code
  pub sites : length by.plan.sites < 2 ^ 32
  pub bodies : AllByRecursion (IsBody by.plan by.limit) code.functions.now
  pub limit : by.limit ≤ 4096

-- The walk over code that uses this and asks so much without a turn may go on from this frame: the world was not asked
-- too often.
pub record IsReady (code : Code) (tale : Tale) (uses : Uses) (cost : ℕ) (frame : Frame) : Type 0 where
  pub world : IsFor code tale.by
  pub fits : Fits tale.by.plan tale.by.limit uses
  pub cheap : cost ≤ most_asked
  pub room : tale.count + cost + frame.turns * most_asked < 2 ^ 60
  pub proper : AreProper tale.by frame.locals

abbrev pub IsProperFlow : Teller → Flow → Type 0
IsProperFlow by Next = Unit {0}
IsProperFlow by (Returned v) = IsProperValue by v

abbrev pub IsProperEnding : {A : Type 0} → (A → Type 0) → Ending A → Type 0
IsProperEnding P (Gives a) = P a
IsProperEnding P (Fails f) = IsProperFault f

-- The walk did an act from one frame to another: the world answers for the same code; for each turn that was counted,
-- it was asked at most so often more, beside the cost; what it came to is proper; and what came is what the act does.
pub record Walked {A H : Type 0} (by : Teller) (functions : List FunctionCode) (levels : ℕ) (act : Around → Act Frame A)
    (P : Teller → A → Type 0) (cost : ℕ) (ending : Option (Ending A)) (first last : Frame) (old new : Told)
    (before now : H → List Asked → Type 0) : Type 0 where
  pub same : new.world.by ≡ by
  pub fewer : last.turns ≤ first.turns
  pub count : new.world.count + last.turns * most_asked ≤ old.world.count + cost + first.turns * most_asked
  pub proper : IfSome ending (IsProperEnding (P by))
  pub locals : AreProper by last.locals
  pub comes : (more : ℕ) → levels ≤ more
      → Came by.plan (act (around_of by.plan by.limit functions more)) ending last old new before now
