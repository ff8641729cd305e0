-- What a part of a task does, act by act.
use Rattle.std.specs.Prelude.{ℕ, zero, suc, ◌+◌, ◌-◌, Bool, true, false, nat_lt, if◌then◌else◌, List, [], ◌∷◌, length, take, drop, get_or, Option, None, Some}
use Rattle.std.specs.List.{position}
use Rattle.std.specs.Str.{bytes_eq}
use Rattle.dyn_value.specs.declared.fault.Fault.{Fault}
use Rattle.dyn_value.specs.declared.fault.Fault.TheVariants.{Turns, Depth, HeapFull, NoOperator}
use Rattle.dyn_value.specs.declared.outcome.Outcome.{Outcome}
use Rattle.dyn_value.specs.declared.outcome.Outcome.TheVariants as outcome
use Rattle.dyn_value.specs.declared.value.Value.{Value}
use Rattle.dyn_value.specs.declared.value.Value.TheVariants as value
use Rattle.standard_binders.specs.declared.binder.Binder.{Binder}
use Rattle.standard_binders.specs.Arguments.{Arguments}

-- what a part came to
pub data Ending (A : Type 0) : Type 0 where
  Gives : A → Ending A
  Fails : Fault → Ending A

-- What a part does, from a state: it ends, in a state; or it prints a line; or it asks for an operation at a site, or
-- for an object's number, and goes on by the answer.
pub data Act (S A : Type 0) : Type 0 where
  Ends : Ending A → S → Act S A
  Prints : List ℕ → Act S A → Act S A
  Asks : ℕ → Binder → List Value → (Outcome → Act S A) → Act S A
  Draws : (ℕ → Act S A) → Act S A

abbrev pub gives : {S A : Type 0} → A → S → Act S A
gives a s = Ends (Gives a) s

abbrev pub fails : {S A : Type 0} → Fault → S → Act S A
fails f s = Ends (Fails f) s

-- one part, and then another by what the first came to
abbrev pub bind : {S T A B : Type 0} → Act S A → (Ending A → S → Act T B) → Act T B
bind (Ends e s) next = next e s
bind (Prints line act) next = Prints line (bind act next)
bind (Asks site binder operands act) next = Asks site binder operands (λ o. bind (act o) next)
bind (Draws act) next = Draws (λ n. bind (act n) next)

abbrev pub on_value : {S A B : Type 0} → (A → S → Act S B) → Ending A → S → Act S B
on_value next (Gives a) s = next a s
on_value next (Fails f) s = Ends (Fails f) s

-- one part after another, which comes where the first gave a value
abbrev pub and_then : {S A B : Type 0} → Act S A → (A → S → Act S B) → Act S B
and_then act next = bind act (on_value next)

-- the state is changed at each ending
abbrev pub ends_in : {S T A : Type 0} → (S → T) → Act S A → Act T A
ends_in f act = bind act (λ e s. Ends e (f s))

-- every fault is caught but Turns and Depth
abbrev pub is_caught : Fault → Bool
is_caught Turns = false
is_caught Depth = false
is_caught f = true

abbrev pub on_fault : {S A : Type 0} → (Fault → S → Act S A) → Ending A → S → Act S A
on_fault handler (Gives a) s = Ends (Gives a) s
on_fault handler (Fails f) s = if is_caught f then handler f s else Ends (Fails f) s

-- a part whose faults are handled
abbrev pub catches : {S A : Type 0} → Act S A → (Fault → S → Act S A) → Act S A
catches act handler = bind act (on_fault handler)

-- a level is opened, where one is left
abbrev pub within : {S A : Type 0} → ℕ → S → (ℕ → Act S A) → Act S A
within zero s go = fails Depth s
within (suc levels) s go = go levels

-- the value or fault of an operation; only those that call ask for a call
abbrev pub answered : {S : Type 0} → S → Outcome → Act S Value
answered s (outcome.Value v) = gives v s
answered s (outcome.Fault f) = fails f s
answered s _ = fails NoOperator s

-- an object is drawn, of a number below the limit
abbrev pub draws_object : {S : Type 0} → ℕ → S → (ℕ → Act S Value) → Act S Value
draws_object limit s go = Draws (λ n. if nat_lt n limit then go n else fails HeapFull s)

-- a truth value as the way to go
abbrev pub chosen : {A : Type 0} → Value → A → A → A
chosen (value.Bool true) go other = go
chosen _ go other = other

-- What a call of a function does, with so many levels and turns: its number, the form of the call, and the arguments.
-- It has locals of its own, so only its turns go on.
abbrev pub Calls : Type 0
Calls = ℕ → Arguments → List Value → ℕ → ℕ → Act ℕ Value

-- the new object stands before the arguments
abbrev pub with_object : Arguments → Arguments
with_object a = record { count = a.count + 1; names = a.names }

-- the value of the argument of a name, by its place among the named ones
abbrev pub at_name : Option ℕ → List Value → Value
at_name None named = value.Nil
at_name (Some k) named = get_or named k value.Nil

abbrev pub placed : List (List ℕ) → List (List ℕ) → List Value → List Value → List Value
placed [] names positional named = []
placed (p ∷ ps) names (v ∷ vs) named = v ∷ placed ps names vs named
placed (p ∷ ps) names [] named = at_name (position (bytes_eq p) names) named ∷ placed ps names [] named

-- for each parameter the value of a call's argument: a positional one by its place, else the one of its name; the named
-- ones stand last
abbrev pub values_of : List (List ℕ) → Arguments → List Value → List Value
values_of params a args = placed params a.names (take (length args - length a.names) args) (drop (length args - length a.names) args)
