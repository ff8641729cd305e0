-- What the code of a task goes on with, and the operations and calls that it makes.
use Rattle.std.specs.Prelude.{ℕ, zero, suc, if◌then◌else◌, List, [], ◌∷◌, ◌++◌, length, take, Option, None, Some}
use Rattle.std.specs.List.{position}
use Rattle.std.specs.Str.{bytes_eq}
use Rattle.dyn_value.specs.declared.fault.Fault.TheVariants.{Turns, NoOperator}
use Rattle.dyn_value.specs.declared.outcome.Outcome.{Outcome}
use Rattle.dyn_value.specs.declared.outcome.Outcome.TheVariants as outcome
use Rattle.dyn_value.specs.declared.value.Value.{Value}
use Rattle.dyn_value.specs.declared.value.Value.TheVariants as value
use Rattle.standard_binders.specs.declared.binder.Binder.{Binder}
use Rattle.standard_binders.specs.declared.binder.Binder.TheVariants as binder
use Rattle.standard_binders.specs.Arguments.{Arguments}
use Rattle.object_model.specs.Steps.{OnObject, on_object}
use Rattle.task_code.specs.Acts.{Ending, Act, Ends, Asks, gives, fails, bind, and_then, within, answered, draws_object, Calls, with_object}

abbrev pub Names : Type 0
Names = List (List ℕ)

-- a local: its name and its value
pub record Local : Type 0 where
  pub name : List ℕ
  pub value : Value

-- the turns that are left, and the locals in scope, in the order in which they were declared
pub record State : Type 0 where
  pub turns : ℕ
  pub locals : List Local

-- what a run is given beside the tree: the names that items declare, the limit on objects, and what functions do
pub record Given : Type 0 where
  pub shared : Names
  pub functions : Names
  pub limit : ℕ
  pub calls : Calls

-- the locals of these names with these values; one with no value is nil
abbrev pub locals_of : Names → List Value → List Local
locals_of [] values = []
locals_of (n ∷ ns) [] = record { name = n; value = value.Nil } ∷ locals_of ns []
locals_of (n ∷ ns) (v ∷ vs) = record { name = n; value = v } ∷ locals_of ns vs

-- the value of a local, by its name
abbrev pub local_value : List ℕ → List Local → Option Value
local_value name [] = None
local_value name (l ∷ ls) = if bytes_eq name l.name then Some l.value else local_value name ls

-- the locals, where the one of this name has this value
abbrev pub with_local : List ℕ → Value → List Local → List Local
with_local name v [] = []
with_local name v (l ∷ ls) =
    if bytes_eq name l.name then record { name = l.name; value = v } ∷ ls else l ∷ with_local name v ls

-- a local in scope, or else a function, or else a shared object; one of them is there, by the rules for names
abbrev pub first_named : Option Value → Option ℕ → Option ℕ → Value
first_named (Some v) function object = v
first_named None (Some f) object = value.Fun f
first_named None None (Some k) = value.Obj k
first_named None None None = value.Nil

-- what a name stands for
abbrev pub named : Given → List ℕ → State → Value
named given name s =
    first_named (local_value name s.locals) (position (bytes_eq name) given.functions) (position (bytes_eq name) given.shared)

-- the state with one local more
abbrev pub declared : List ℕ → Value → State → State
declared name v s = record { turns = s.turns; locals = s.locals ++ record { name = name; value = v } ∷ [] }

-- the state where the local of this name has this value
abbrev pub assigned : List ℕ → Value → State → State
assigned name v s = record { turns = s.turns; locals = with_local name v s.locals }

-- the locals that were in scope before, with the values that they have now
abbrev pub left_scope : State → State → State
left_scope before s = record { turns = s.turns; locals = take (length before.locals) s.locals }

-- a turn is counted, where one is left
abbrev pub counted : {A : Type 0} → State → (State → Act State A) → Act State A
counted s go = elim s.turns [
  | zero ↦ fails Turns s
  | suc turns ↦ go (record { turns = turns; locals = s.locals })
]

abbrev pub asks_on : Option OnObject → ℕ → Binder → List Value → State → Act State Value
asks_on None site b operands s = Asks site b operands (answered s)
asks_on (Some x) site b operands s = counted s (λ after. Asks site b operands (answered after))

-- an operation at a site; one on an object counts a turn before
abbrev pub asks : ℕ → Binder → List Value → State → Act State Value
asks site b operands s = asks_on (on_object b operands) site b operands s

-- the caller goes on with its own locals, and with the turns that the call left
abbrev pub back_to : State → Ending Value → ℕ → Act State Value
back_to s e turns = Ends e (record { turns = turns; locals = s.locals })

-- a function is called: a turn is counted, and then its level is opened
abbrev pub calls_on : Given → ℕ → Arguments → List Value → ℕ → State → Act State Value
calls_on given f info args levels s =
    counted s (λ after. within levels after (λ inner. bind (given.calls f info args inner after.turns) (back_to s)))

-- what Invoke goes on with: the function's call; a value only where a handler gave it
abbrev pub invoked : Given → Arguments → List Value → ℕ → State → Outcome → Act State Value
invoked given info args levels s (outcome.Value v) = gives v s
invoked given info args levels s (outcome.Call f) = calls_on given f info args levels s
invoked given info args levels s (outcome.Make f) = fails NoOperator s
invoked given info args levels s (outcome.Fault f) = fails f s

-- a value is invoked at a site
abbrev pub invokes : Given → ℕ → Arguments → Value → List Value → ℕ → State → Act State Value
invokes given site info f args levels s = Asks site (binder.Invoke info) (f ∷ args) (invoked given info args levels s)

-- what CreateInstance goes on with: an object is drawn, and the function called with it; the value is the object
abbrev pub created : Given → Arguments → List Value → ℕ → State → Outcome → Act State Value
created given info args levels s (outcome.Make f) = draws_object given.limit s (λ n.
    and_then (calls_on given f (with_object info) (value.Obj n ∷ args) levels s) (λ v after. gives (value.Obj n) after))
created given info args levels s (outcome.Fault f) = fails f s
created given info args levels s _ = fails NoOperator s
