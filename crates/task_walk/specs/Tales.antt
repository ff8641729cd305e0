-- What a world tells: for whom it answers, and what it answered.
use Rattle.std.specs.Prelude.{◌≡◌, ℕ, ◌+◌, ◌^◌, ◌<◌, ◌≤◌, nat_eq, true, if◌then◌else◌, List, [], ◌∷◌, ◌++◌, length}
use Rattle.std.specs.Prelude.{get_or, encode_utf8_all, Option, None, Some}
use Rattle.std.specs.List.{AllByRecursion}
use Rattle.std.proofs.Math.Utf8.{scalars}
use Rattle.dyn_value.specs.declared.entry.Entry.{Entry}
use Rattle.dyn_value.specs.declared.fault.Fault.{Fault}
use Rattle.dyn_value.specs.declared.fault.Fault.TheVariants.{NoMember, NoParameter, WrongCount}
use Rattle.dyn_value.specs.declared.outcome.Outcome.{Outcome}
use Rattle.dyn_value.specs.declared.outcome.Outcome.TheVariants as outcome
use Rattle.dyn_value.specs.declared.value.Value.{Value}
use Rattle.dyn_value.specs.Proper.{IsProperIn}
use Rattle.standard_binders.specs.declared.binder.Binder.{Binder}
use Rattle.object_model.specs.Plain.{plain_step}
use Rattle.object_model.specs.Steps.{OnObject, on_object}
use Rattle.task_code.specs.Codes.{Plan, binder_at}

-- for whom a world answers, and how many objects there may be: no call changes it
pub record Teller : Type 0 where
  pub plan : Plan
  pub pass : ℕ
  pub task : ℕ
  pub limit : ℕ

-- what a world tells: for each object the entries that it added, the numbers that it drew, and how often it answered
-- and drew
pub record Tale : Type 0 where
  pub by : Teller
  pub entries : ℕ → List Entry
  pub drawn : List ℕ
  pub count : ℕ

-- an operation that a world answered
pub record Asked : Type 0 where
  pub site : ℕ
  pub operands : List Value

abbrev pub asked : ℕ → List Value → Asked
asked site operands = record { site = site; operands = operands }

-- the function with this value at one number
abbrev pub updated : {A : Type 0} → (ℕ → A) → ℕ → A → ℕ → A
updated f k a n = if nat_eq n k then a else f n

-- the entry of an operation at a site, whose binder goes by its number
abbrev pub entry_of : Teller → ℕ → OnObject → Outcome → Entry
entry_of by site x o =
    record { pass = by.pass; task = by.task; binder = get_or by.plan.sites site 0; operands = x.operands; outcome = o }

-- an operation on an object adds its entry at the end of that object's; others add none
abbrev pub entries_after : Teller → ℕ → Option OnObject → Outcome → (ℕ → List Entry) → ℕ → List Entry
entries_after by site None o entries = entries
entries_after by site (Some x) o entries = updated entries x.object (entries x.object ++ entry_of by site x o ∷ [])

-- what a world tells after an operation that it answered
abbrev pub tale_answered : ℕ → Binder → List Value → Outcome → Tale → Tale
tale_answered site b operands o t = record {
  by = t.by;
  entries = entries_after t.by site (on_object b operands) o t.entries;
  drawn = t.drawn;
  count = t.count + 1;
}

-- what it tells after a draw
abbrev pub tale_drawn : ℕ → Tale → Tale
tale_drawn n t = record { by = t.by; entries = t.entries; drawn = t.drawn ++ n ∷ []; count = t.count + 1 }

-- an outcome that the operation may have: one that looks at no object has its own
abbrev pub Suits : Plan → Binder → List Value → Outcome → Type 0
Suits plan b operands o = on_object b operands ≡ None → o ≡ plain_step plan.functions b operands

-- the operation of a site was answered
pub record Answers (site : ℕ) (operands : List Value) (o : Outcome) (old new : Tale) : Type 0 where
  pub suits : Suits old.by.plan (binder_at old.by.plan site) operands o
  pub tale : new ≡ tale_answered site (binder_at old.by.plan site) operands o old

-- a text of at most 64 bytes
abbrev pub IsName : List ℕ → Type 0
IsName name = (scalars name ≡ true) × (length (encode_utf8_all name) ≤ 64)

-- a fault whose text fits in a value: its names are short
abbrev pub IsProperFault : Fault → Type 0
IsProperFault (NoMember name) = IsName name
IsProperFault (NoParameter name) = IsName name
IsProperFault (WrongCount parameters count) = (parameters < 2 ^ 32) × (count < 2 ^ 32)
IsProperFault _ = Unit {0}

abbrev pub IsProperValue : Teller → Value → Type 0
IsProperValue by v = IsProperIn (length by.plan.functions) by.limit v

abbrev pub AreProper : Teller → List Value → Type 0
AreProper by vs = AllByRecursion (IsProperValue by) vs

-- a proper value or fault, or the number of a function
abbrev pub IsProperAnswer : Teller → Outcome → Type 0
IsProperAnswer by (outcome.Value v) = IsProperValue by v
IsProperAnswer by (outcome.Call f) = f < length by.plan.functions
IsProperAnswer by (outcome.Make f) = f < length by.plan.functions
IsProperAnswer by (outcome.Fault f) = IsProperFault f

-- What a world answered in a home, and these operations after it.
abbrev pub Onto : {H : Type 0} → (H → List Asked → Type 0) → (H → List Asked → Type 0) → List Asked → Type 0
Onto {H} before now more = (home : H) (ops : List Asked) → before home ops → now home (ops ++ more)

-- what a world answered stays
abbrev pub Stays : {H : Type 0} → (H → List Asked → Type 0) → (H → List Asked → Type 0) → Type 0
Stays {H} before now = (home : H) (ops : List Asked) → before home ops → now home ops
