-- Whether what code uses is there.
use Rattle.std.specs.Prelude.{◌≡◌, ℕ, ◌<◌, length, get_or}
use Rattle.std.specs.List.{AllByRecursion}
use Rattle.dyn_value.specs.Proper.{IsProperIn}
use Rattle.standard_binders.specs.Binders.{operand_count_of}
use Rattle.task_code.specs.Codes.{Plan, binder_at}
use Rattle.task_code.specs.Costs.{Use, AtSite, OfValue, Uses}

-- a site of the plan whose binder has so many operands
pub record IsSite (plan : Plan) (site count : ℕ) : Type 0 where
  pub inside : site < length plan.sites
  pub known : get_or plan.sites site 0 < length plan.binders
  pub operands : operand_count_of (binder_at plan site) ≡ count

-- a use that a run of so many objects allows
abbrev pub IsAllowed : Plan → ℕ → Use → Type 0
IsAllowed plan limit (AtSite site count) = IsSite plan site count
IsAllowed plan limit (OfValue v) = IsProperIn (length plan.functions) limit v

-- each use is allowed
abbrev pub Fits : Plan → ℕ → Uses → Type 0
Fits plan limit uses = AllByRecursion (IsAllowed plan limit) uses
