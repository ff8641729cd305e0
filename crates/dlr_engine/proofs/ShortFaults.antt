-- What faults name is short: a name of a binder, or a key that may be a name.
use Rattle.std.proofs.Common.{◌≡◌, ℕ, ◌≤◌, Bool, true, false, List, [], ◌∷◌, Option, None, Some, refl, subst, cond}
use Rattle.std.specs.Prelude.{IfSome, encode_utf8_all, find, length, nat_eq, nat_le, if◌then◌else◌}
use Rattle.std.proofs.Math.Utf8.{scalars}
use Rattle.std.specs.List.{list_all}
use Rattle.std.specs.Option.{option_map}
use Rattle.std.proofs.lemmas.Bool.{and_parts, leb-true}
use Rattle.dyn_value.specs.declared.fault.Fault.{Fault}
use Rattle.dyn_value.specs.declared.fault.Fault.TheVariants.{NoMember, NoParameter, WrongCount}
use Rattle.dyn_value.specs.declared.outcome.Outcome.{Outcome}
use Rattle.dyn_value.specs.declared.outcome.Outcome.TheVariants as outcome
use Rattle.dyn_value.specs.declared.value.Value.{Value}
use Rattle.dyn_value.specs.declared.value.Value.TheVariants as value
use Rattle.standard_binders.specs.declared.binder.Binder.{Binder}
use Rattle.standard_binders.specs.declared.binder.Binder.TheVariants as binder
use Rattle.object_model.specs.Accesses.{Access, Reads, Writes, Deletes, NoKey, access_of, is_key, keyed}
use Rattle.object_model.specs.Journals.{outcome_by}
use Rattle.object_model.specs.Members.{Members, value_of}
use Rattle.object_model.specs.Steps.{object_step, read_member, write_member, delete_member, step_by}
use Rattle.script_program.specs.Names.{has_short_names, is_short_name}
use Rattle.dlr_engine.specs.Answers.{HasProperFault}
use Rattle.dlr_engine.specs.Bindings.{HasProperContent}

abbrev pub IsShort : List ℕ → Type 0
IsShort name = length (encode_utf8_all name) ≤ 64

abbrev pub IsShortFault : Fault → Type 0
IsShortFault (NoMember name) = IsShort name
IsShortFault (NoParameter name) = IsShort name
IsShortFault _ = Unit {0}

abbrev pub HasShortFault : Outcome → Type 0
HasShortFault (outcome.Fault f) = IsShortFault f
HasShortFault _ = Unit {0}

pub proper_fault : (o : Outcome) → HasShortFault o → HasProperContent o → HasProperFault o
proper_fault (outcome.Fault (NoMember name)) short content = (content.0, short)
proper_fault (outcome.Fault (NoParameter name)) short content = (content.0, short)
proper_fault (outcome.Fault (WrongCount parameters count)) short content = content
proper_fault (outcome.Fault _) short content = tt
proper_fault (outcome.Value v) short content = tt
proper_fault (outcome.Call f) short content = tt
proper_fault (outcome.Make f) short content = tt

pub short_name : (name : List ℕ) → is_short_name name ≡ true → IsShort name
short_name name short = leb-true (length (encode_utf8_all name)) 64 (and_parts (scalars name) (nat_le (length (encode_utf8_all name)) 64) short).1

-- the first of short names that passes a test is one of them
pub short_first : (test : List ℕ → Bool) (names : List (List ℕ)) → list_all is_short_name names ≡ true → IfSome (find test names) IsShort
short_first test [] all = tt
short_first test (n ∷ ns) all =
    let parts = and_parts (is_short_name n) (list_all is_short_name ns) all in by_test (test n) (short_name n parts.0) (short_first test ns parts.1)
  where
    by_test : (b : Bool) → IsShort n → IfSome (find test ns) IsShort → IfSome (cond b (Some n) (find test ns)) IsShort
    by_test true here rest = here
    by_test false here rest = rest

-- an access to a member of a short name
abbrev IsShortAccess : Access → Type 0
IsShortAccess (Reads name) = IsShort name
IsShortAccess (Deletes name) = IsShort name
IsShortAccess _ = Unit {0}

read_short : (name : List ℕ) (old : Option Value) (ms : Members) → IsShort name → HasShortFault (read_member name old ms).outcome
read_short name None ms short = short
read_short name (Some v) ms short = tt

write_short : (name : List ℕ) (v : Value) (old : Option Value) (ms : Members) → HasShortFault (write_member name v old ms).outcome
write_short name v (Some old) ms = tt
write_short name v None ms = by_test (nat_eq (length ms) 64) refl
  where
    by_test : (b : Bool) → nat_eq (length ms) 64 ≡ b → HasShortFault (write_member name v None ms).outcome
    by_test true full = rw full tt
    by_test false full = rw full tt

delete_short : (name : List ℕ) (old : Option Value) (ms : Members) → IsShort name → HasShortFault (delete_member name old ms).outcome
delete_short name None ms short = short
delete_short name (Some v) ms short = tt

step_short : (access : Access) (ms : Members) → IsShortAccess access → HasShortFault (step_by access ms).outcome
step_short (Reads name) ms short = read_short name (value_of name ms) ms short
step_short (Writes name v) ms short = write_short name v (value_of name ms) ms
step_short (Deletes name) ms short = delete_short name (value_of name ms) ms short
step_short NoKey ms short = tt

-- a key that may be a name is short
keyed_short : (key : Value) (access : List ℕ → Access) → ((name : List ℕ) → IsShort name → IsShortAccess (access name)) → IsShortAccess (keyed key access)
keyed_short (value.Text name) access each = by_test (is_key name) refl
  where
    by_test : (b : Bool) → is_key name ≡ b → IsShortAccess (if b then access name else NoKey)
    by_test true is = each name (leb-true (length (encode_utf8_all name)) 64 is)
    by_test false is = tt
keyed_short _ access each = tt

access_short : (b : Binder) (arguments : List Value) → has_short_names b ≡ true → IfSome (access_of b arguments) IsShortAccess
access_short (binder.GetMember name ignore_case) [] short = short_name name short
access_short (binder.GetMember name ignore_case) (v ∷ vs) short = tt
access_short (binder.SetMember name ignore_case) [] short = tt
access_short (binder.SetMember name ignore_case) (v ∷ []) short = tt
access_short (binder.SetMember name ignore_case) (v ∷ w ∷ vs) short = tt
access_short (binder.DeleteMember name ignore_case) [] short = short_name name short
access_short (binder.DeleteMember name ignore_case) (v ∷ vs) short = tt
access_short binder.GetIndex [] short = tt
access_short binder.GetIndex (key ∷ []) short = keyed_short key Reads (λ name is. is)
access_short binder.GetIndex (key ∷ v ∷ vs) short = tt
access_short binder.SetIndex [] short = tt
access_short binder.SetIndex (key ∷ []) short = tt
access_short binder.SetIndex (key ∷ v ∷ []) short = keyed_short key (λ name. Writes name v) (λ name is. tt)
access_short binder.SetIndex (key ∷ v ∷ w ∷ vs) short = tt
access_short binder.DeleteIndex [] short = tt
access_short binder.DeleteIndex (key ∷ []) short = keyed_short key Deletes (λ name is. is)
access_short binder.DeleteIndex (key ∷ v ∷ vs) short = tt
access_short (binder.InvokeMember name ignore_case info) arguments short = by_test (nat_eq (length arguments) info.count)
  where
    by_test : (b : Bool) → IfSome (if b then Some (Reads name) else None) IsShortAccess
    by_test true = short_name name (and_parts (is_short_name name) (list_all is_short_name info.names) short).0
    by_test false = tt
access_short (binder.Invoke info) arguments short = tt
access_short (binder.CreateInstance info) arguments short = tt
access_short (binder.Convert to) arguments short = tt
access_short (binder.UnaryOperation op) arguments short = tt
access_short (binder.BinaryOperation op) arguments short = tt

-- what the fault of an operation on an object names is short
pub short_of_step : (ms : Members) (b : Binder) (arguments : List Value) (o : Outcome) → has_short_names b ≡ true
    → outcome_by (object_step ms b arguments) ≡ Some o → HasShortFault o
short_of_step ms b arguments o short is =
    subst (λ (x : Option Outcome). IfSome x HasShortFault) is (by_access (access_of b arguments) (access_short b arguments short))
  where
    by_access : (access : Option Access) → IfSome access IsShortAccess → IfSome (outcome_by (option_map (λ a. step_by a ms) access)) HasShortFault
    by_access None none = tt
    by_access (Some a) is = step_short a ms is
