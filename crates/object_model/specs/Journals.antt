-- Journals of objects.
use Rattle.std.specs.Prelude.{◌≡◌, ℕ, List, [], ◌∷◌, Option, None, Some, slice_get}
use Rattle.std.specs.Option.{option_and_then, option_map}
use Rattle.dyn_value.specs.declared.entry.Entry.{Entry}
use Rattle.dyn_value.specs.declared.outcome.Outcome.{Outcome}
use Rattle.dyn_value.specs.declared.value.Value.{Value}
use Rattle.standard_binders.specs.declared.binder.Binder.{Binder}
use Rattle.object_model.specs.Members.{Members}
use Rattle.object_model.specs.Steps.{Step, object_step}

-- the step by the binder of this number among these
abbrev pub step_of : List Binder → Members → ℕ → List Value → Option Step
step_of binders ms number operands = option_and_then (λ b. object_step ms b operands) (slice_get binders number)

-- the step of an entry's operation
abbrev pub entry_step : List Binder → Members → Entry → Option Step
entry_step binders ms e = step_of binders ms e.binder e.operands

-- the members that a step leaves; without one they stay
abbrev pub left_by : Members → Option Step → Members
left_by ms None = ms
left_by ms (Some step) = step.members

-- the outcome of a step
abbrev pub outcome_by : Option Step → Option Outcome
outcome_by step = option_map (λ s. s.outcome) step

-- the members after the entries, which come one after the other from these members on
abbrev pub members_after : List Binder → Members → List Entry → Members
members_after binders ms [] = ms
members_after binders ms (e ∷ es) = members_after binders (left_by ms (entry_step binders ms e)) es

-- Each entry is an operation: its number names a binder on members, and its operands suit that. Its outcome is what the
-- operation gives on the members after the entries before it.
abbrev pub IsLegal : List Binder → Members → List Entry → Type 0
IsLegal binders ms [] = Unit {0}
IsLegal binders ms (e ∷ es) = (outcome_by (entry_step binders ms e) ≡ Some e.outcome) × IsLegal binders (left_by ms (entry_step binders ms e)) es
