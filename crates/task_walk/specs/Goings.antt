-- A walk that is under way.
use Rattle.std.specs.Prelude.{◌≡◌, ℕ, ◌+◌, ◌*◌, ◌≤◌, List, ◌++◌}
use Rattle.task_code.specs.declared.code.FunctionCode.{FunctionCode}
use Rattle.task_code.specs.declared.frame.Frame.{Frame}
use Rattle.task_code.specs.Acts.{Ending, Act}
use Rattle.task_code.specs.Codes.{Plan, Around, around_of}
use Rattle.task_walk.specs.Comings.{Event, Told, after, asked_in, Does}
use Rattle.task_walk.specs.Tales.{Teller, Asked, AreProper, Onto}
use Rattle.task_walk.specs.Walks.{most_asked}

-- From one moment to another the whole was done as far as this act, which is what is left of it.
pub record Onward {S A H : Type 0} (plan : Plan) (whole : Act S A) (old : Told) (before : H → List Asked → Type 0)
    (act : Act S A) (now : Told) (during : H → List Asked → Type 0) : Type 0 where
  pub events : List Event
  pub is : now ≡ after events old
  pub asked : Onto before during (asked_in events)
  pub goes : (more : List Event) (e : Ending A) (last : S) → Does plan act more e last
      → Does plan whole (events ++ more) e last

-- The walk did a whole as far as this rest, which costs so much.
pub record Going {A H : Type 0} (by : Teller) (functions : List FunctionCode) (levels : ℕ)
    (whole : Around → Act Frame A)
    (cost : ℕ) (first : Frame) (old : Told) (before : H → List Asked → Type 0)
    (rest : Around → Act Frame A) (rest_cost : ℕ) (frame : Frame) (now : Told)
    (during : H → List Asked → Type 0) : Type 0 where
  pub same : now.world.by ≡ by
  pub fewer : frame.turns ≤ first.turns
  pub count : now.world.count + rest_cost + frame.turns * most_asked ≤ old.world.count + cost + first.turns * most_asked
  pub locals : AreProper by frame.locals
  pub goes : (more : ℕ) → levels ≤ more
      → Onward by.plan (whole (around_of by.plan by.limit functions more)) old before
      (rest (around_of by.plan by.limit functions more)) now during
