-- How a device in memory answers its calls.
use Rattle.std.specs.Prelude.{◌≡◌, ◌↔◌, ℕ, ◌+◌, ◌-◌, ◌^◌, min, max, List, Contains, Result, IsErr, OnOk, OnErr}
use Rattle.byte_devices.specs.declared.call_plan.CallPlan.{CallPlan}

-- one more; a count at the end of its type stays there
abbrev pub one_more : ℕ → ℕ
one_more count = max count (min (count + 1) (2 ^ 64 - 1))

-- a plan with this piece and these calls that fail, of which no call was made yet
pub record IsUnused (plan : CallPlan) (piece : ℕ) (fails : List ℕ) : Type 0 where
  pub same_piece : plan.piece ≡ piece
  pub same_fails : plan.fails.items ≡ fails
  pub no_call : plan.calls ≡ 0
  pub no_fault : plan.faults ≡ 0

-- how many of these bytes one call moves
abbrev pub most_of : CallPlan → ℕ → ℕ
most_of plan bytes = min bytes plan.piece

-- the number of the next call is among those that fail
abbrev pub FailsNext : CallPlan → Type 0
FailsNext plan = Contains plan.fails.items plan.calls

-- One call more was made: it failed exactly where the plan says so, it is counted, and so is its failure.
pub record MakesCall {T E : Type 0} (before after : CallPlan) (result : Result T E) : Type 0 where
  pub fails : IsErr result ↔ FailsNext before
  pub counted : after.calls ≡ one_more before.calls
  pub faulted : OnErr result (after.faults ≡ one_more before.faults)
  pub passed : OnOk result (after.faults ≡ before.faults)
  pub same_piece : after.piece ≡ before.piece
  pub same_fails : after.fails ≡ before.fails
