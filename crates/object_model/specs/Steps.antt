-- What an operation on an object's members gives.
use Rattle.std.specs.Prelude.{ℕ, Bool, true, false, if◌then◌else◌, List, [], ◌∷◌, ◌++◌, length, Option, None, Some, nat_eq}
use Rattle.std.specs.Option.{option_map}
use Rattle.dyn_value.specs.declared.value.Value.{Value}
use Rattle.dyn_value.specs.declared.value.Value.TheVariants as value
use Rattle.dyn_value.specs.declared.fault.Fault.{Fault as ValueFault}
use Rattle.dyn_value.specs.declared.fault.Fault.TheVariants.{NoMember, NoIndex, MembersFull}
use Rattle.dyn_value.specs.declared.outcome.Outcome.{Outcome}
use Rattle.dyn_value.specs.declared.outcome.Outcome.TheVariants as outcome
use Rattle.standard_binders.specs.declared.binder.Binder.{Binder}
use Rattle.standard_binders.specs.Binders.{is_on_members}
use Rattle.object_model.specs.Accesses.{Access, Reads, Writes, Deletes, NoKey, access_of}
use Rattle.object_model.specs.Members.{Members, value_of, replaced, removed}

-- what an operation on an object leaves of its members, and its outcome
pub record Step : Type 0 where
  pub members : Members
  pub outcome : Outcome

-- the members after the operation, whose value is nil
abbrev pub changes : Members → Step
changes ms = record { members = ms; outcome = outcome.Value value.Nil }

-- the operation's fault, which changes no member
abbrev pub fails : ValueFault → Members → Step
fails f ms = record { members = ms; outcome = outcome.Fault f }

abbrev pub read_member : List ℕ → Option Value → Members → Step
read_member name None ms = fails (NoMember name) ms
read_member name (Some v) ms = record { members = ms; outcome = outcome.Value v }

abbrev pub write_member : List ℕ → Value → Option Value → Members → Step
write_member name v (Some old) ms = changes (replaced name v ms)
write_member name v None ms = if nat_eq (length ms) 64 then fails MembersFull ms else changes (ms ++ record { name = name; value = v } ∷ [])

abbrev pub delete_member : List ℕ → Option Value → Members → Step
delete_member name None ms = fails (NoMember name) ms
delete_member name (Some v) ms = changes (removed name ms)

-- what an access gives on these members
abbrev pub step_by : Access → Members → Step
step_by (Reads name) ms = read_member name (value_of name ms) ms
step_by (Writes name v) ms = write_member name v (value_of name ms) ms
step_by (Deletes name) ms = delete_member name (value_of name ms) ms
step_by NoKey ms = fails NoIndex ms

-- The step of an object by an operation, by its binder and the operands after the target; where the binder is one on
-- members and the operands suit it.
abbrev pub object_step : Members → Binder → List Value → Option Step
object_step ms b operands = option_map (λ access. step_by access ms) (access_of b operands)

-- an operation on an object: the object's number, and the operands after it
pub record OnObject : Type 0 where
  pub object : ℕ
  pub operands : List Value

abbrev pub if_on_members : Bool → OnObject → Option OnObject
if_on_members true o = Some o
if_on_members false o = None

-- the operation on an object, where the operation is one: a binder of members, and an object as the target
abbrev pub on_object : Binder → List Value → Option OnObject
on_object b (value.Obj o ∷ operands) = if_on_members (is_on_members b) (record { object = o; operands = operands })
on_object b _ = None
