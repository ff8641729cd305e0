use Rattle.std.proofs.Common.{◌≡◌, ◌≤◌, ℕ, List, length, take}
use Rattle.task_compile.proofs.names.shorten.Given as goal

-- no fewer are left than are to stay, and those are the first ones
pub record IsShortened {A : Type 0} (count : ℕ) (before now : List A) : Type 0 where
  pub enough : count ≤ length now
  pub same : take count now ≡ take count before

abbrev pub invariant-names : goal.invariant-names
invariant-names l = IsShortened l.count l.initial.names l.names

abbrev pub decreases-names : goal.decreases-names
decreases-names l = length l.names
