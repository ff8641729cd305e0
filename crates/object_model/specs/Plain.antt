-- What an operation gives that looks at no object.
use Rattle.std.specs.Prelude.{ℕ, Bool, ◌+◌, ◌-◌, ◌<◌, pos, not, if◌then◌else◌, List, drop, length, Option, None, Some, find, codes, nat_eq}
use Rattle.std.specs.List.{list_any}
use Rattle.std.specs.Str.{bytes_eq}
use Rattle.dyn_value.specs.declared.value.Value.{Value}
use Rattle.dyn_value.specs.declared.value.Value.TheVariants as value
use Rattle.dyn_value.specs.declared.fault.Fault.TheVariants.{NoMember, NotIndexable, NotCallable, WrongCount, NoParameter, NotCreatable}
use Rattle.dyn_value.specs.declared.outcome.Outcome.{Outcome}
use Rattle.dyn_value.specs.declared.outcome.Outcome.TheVariants as outcome
use Rattle.dyn_value.specs.Conversions.{convert_of}
use Rattle.dyn_value.specs.Kinds.{kind_of}
use Rattle.dyn_value.specs.Operations.{unary_of, binary_of, char_of}
use Rattle.dyn_value.specs.Outcomes.{at, outcome_of}
use Rattle.dyn_value.specs.Proper.{IsProperIn}
use Rattle.standard_binders.specs.Arguments.{Arguments}
use Rattle.standard_binders.specs.Functions.{Functions, parameters_of}
use Rattle.standard_binders.specs.declared.binder.Binder.{Binder}
use Rattle.standard_binders.specs.declared.binder.Binder.TheVariants.{GetMember, SetMember, DeleteMember, GetIndex, SetIndex, DeleteIndex, Invoke, InvokeMember, CreateInstance, Convert, UnaryOperation, BinaryOperation}

-- a value that is no object has no member, but that a text has `length`
abbrev pub member_of : Value → List ℕ → Outcome
member_of (value.Text t) name = if bytes_eq name (codes "length") then outcome.Value (value.Int (pos (length t))) else outcome.Fault (NoMember name)
member_of _ name = outcome.Fault (NoMember name)

-- a text is read at a place; no other value that is no object is indexed
abbrev pub index_of : Value → Value → Outcome
index_of (value.Text t) key = outcome_of (char_of (value.Text t) key)
index_of target key = outcome.Fault (NotIndexable (kind_of target))

-- whether a name is one of these parameters
abbrev pub is_parameter : List (List ℕ) → List ℕ → Bool
is_parameter parameters name = list_any (bytes_eq name) parameters

-- the first of these names that is no parameter
abbrev pub first_stray : List (List ℕ) → List (List ℕ) → Option (List ℕ)
first_stray parameters names = find (λ name. not (is_parameter parameters name)) names

abbrev pub called_by : Option (List ℕ) → Outcome → Outcome
called_by None call = call
called_by (Some name) call = outcome.Fault (NoParameter name)

-- What comes of a call with these arguments after so many others: as many as there are parameters, and each named one is
-- a parameter that no argument by place fills.
abbrev pub called : List (List ℕ) → ℕ → Arguments → Outcome → Outcome
called parameters before a call =
    if nat_eq (before + a.count) (length parameters)
    then called_by (first_stray (drop (before + (a.count - length a.names)) parameters) a.names) call
    else outcome.Fault (WrongCount (length parameters) (before + a.count))

-- a function is called
abbrev pub invoked : Functions → Arguments → Value → Outcome
invoked functions a (value.Fun f) = called (parameters_of functions f) 0 a (outcome.Call f)
invoked functions a target = outcome.Fault (NotCallable (kind_of target))

-- an object is made by a function, which is handed it as its first argument
abbrev pub created : Functions → Arguments → Value → Outcome
created functions a (value.Fun f) = called (parameters_of functions f) 1 a (outcome.Make f)
created functions a target = outcome.Fault (NotCreatable (kind_of target))

-- The outcome of an operation that looks at no object, by its binder and its operands, the target first, which suit the
-- binder: they are as many as it has.
abbrev pub plain_step : Functions → Binder → List Value → Outcome
plain_step functions (GetMember name ignore_case) operands = member_of (at operands 0) name
plain_step functions (SetMember name ignore_case) operands = outcome.Fault (NoMember name)
plain_step functions (DeleteMember name ignore_case) operands = outcome.Fault (NoMember name)
plain_step functions GetIndex operands = index_of (at operands 0) (at operands 1)
plain_step functions SetIndex operands = outcome.Fault (NotIndexable (kind_of (at operands 0)))
plain_step functions DeleteIndex operands = outcome.Fault (NotIndexable (kind_of (at operands 0)))
plain_step functions (Invoke info) operands = invoked functions info (at operands 0)
plain_step functions (InvokeMember name ignore_case info) operands = outcome.Fault (NoMember name)
plain_step functions (CreateInstance info) operands = created functions info (at operands 0)
plain_step functions (Convert to) operands = outcome_of (convert_of (at operands 0) to)
plain_step functions (UnaryOperation op) operands = outcome_of (unary_of op (at operands 0))
plain_step functions (BinaryOperation op) operands = outcome_of (binary_of op (at operands 0) (at operands 1))

-- An answer in a run of so many functions and objects: a value that is proper in it, a call or a creation by a function
-- of it, or a fault.
abbrev pub IsAnswerIn : ℕ → ℕ → Outcome → Type 0
IsAnswerIn functions objects (outcome.Value v) = IsProperIn functions objects v
IsAnswerIn functions objects (outcome.Call f) = f < functions
IsAnswerIn functions objects (outcome.Make f) = f < functions
IsAnswerIn functions objects (outcome.Fault f) = Unit {0}
