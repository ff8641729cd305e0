-- Values of members stay proper, and what operations on members answer is proper.
use Rattle.std.proofs.Common.{◌≡◌, ℕ, Bool, true, false, List, [], ◌∷◌, ◌++◌, length, Option, None, Some, Result, Ok, refl, sym, subst, nat_eq}
use Rattle.std.specs.Prelude.{Err, IfOk, OnErr, IfSome, if◌then◌else◌}
use Rattle.std.specs.List.{AllByRecursion}
use Rattle.std.specs.Option.{option_map}
use Rattle.std.specs.Str.{bytes_eq}
use Rattle.dyn_value.specs.declared.value.Value.{Value}
use Rattle.dyn_value.specs.declared.value.Value.TheVariants as value
use Rattle.dyn_value.specs.declared.outcome.Outcome.{Outcome}
use Rattle.dyn_value.specs.Proper.{IsProperIn}
use Rattle.standard_binders.specs.declared.binder.Binder.{Binder}
use Rattle.standard_binders.specs.declared.binder.Binder.TheVariants.{GetMember, SetMember, DeleteMember, GetIndex, SetIndex, DeleteIndex, InvokeMember}
use Rattle.object_model.specs.Accesses.{Access, Reads, Writes, Deletes, NoKey, access_of, keyed, is_key}
use Rattle.object_model.specs.Journals.{left_by, outcome_by}
use Rattle.object_model.specs.Members.{Member, Members, value_of, replaced, removed, AreProperIn}
use Rattle.object_model.specs.Plain.{IsAnswerIn}
use Rattle.object_model.specs.Steps.{Step, read_member, write_member, delete_member, step_by, object_step}

proper_replaced : (functions objects : ℕ) (name : List ℕ) (v : Value) (ms : Members) → IsProperIn functions objects v → AreProperIn functions objects ms → AreProperIn functions objects (replaced name v ms)
proper_replaced functions objects name v [] p all = tt
proper_replaced functions objects name v (m ∷ ms) p all = by_test (bytes_eq m.name name) refl (proper_replaced functions objects name v ms p all.1)
  where
    by_test : (b : Bool) → bytes_eq m.name name ≡ b → AreProperIn functions objects (replaced name v ms) → AreProperIn functions objects (replaced name v (m ∷ ms))
    by_test true e rest = rw e (p, all.1)
    by_test false e rest = rw e (all.0, rest)

proper_removed : (functions objects : ℕ) (name : List ℕ) (ms : Members) → AreProperIn functions objects ms → AreProperIn functions objects (removed name ms)
proper_removed functions objects name [] all = tt
proper_removed functions objects name (m ∷ ms) all = by_test (bytes_eq m.name name) refl (proper_removed functions objects name ms all.1)
  where
    by_test : (b : Bool) → bytes_eq m.name name ≡ b → AreProperIn functions objects (removed name ms) → AreProperIn functions objects (removed name (m ∷ ms))
    by_test true e rest = rw e all.1
    by_test false e rest = rw e (all.0, rest)

proper_appended : (functions objects : ℕ) (ms : Members) (m : Member) → AreProperIn functions objects ms → IsProperIn functions objects m.value → AreProperIn functions objects (ms ++ m ∷ [])
proper_appended functions objects [] m all p = (p, tt)
proper_appended functions objects (n ∷ ms) m all p = (all.0, proper_appended functions objects ms m all.1 p)

proper_written : (functions objects : ℕ) (name : List ℕ) (v : Value) (old : Option Value) (ms : Members) → AreProperIn functions objects ms → IsProperIn functions objects v → AreProperIn functions objects (write_member name v old ms).members
proper_written functions objects name v (Some old) ms all p = proper_replaced functions objects name v ms p all
proper_written functions objects name v None ms all p = by_test (nat_eq (length ms) 64) refl
  where
    by_test : (b : Bool) → nat_eq (length ms) 64 ≡ b → AreProperIn functions objects (write_member name v None ms).members
    by_test true full = rw full all
    by_test false full = rw full (proper_appended functions objects ms (record { name = name; value = v }) all p)

proper_read : (functions objects : ℕ) (name : List ℕ) (old : Option Value) (ms : Members) → AreProperIn functions objects ms → AreProperIn functions objects (read_member name old ms).members
proper_read functions objects name (Some v) ms all = all
proper_read functions objects name None ms all = all

proper_deleted : (functions objects : ℕ) (name : List ℕ) (old : Option Value) (ms : Members) → AreProperIn functions objects ms → AreProperIn functions objects (delete_member name old ms).members
proper_deleted functions objects name (Some v) ms all = proper_removed functions objects name ms all
proper_deleted functions objects name None ms all = all

-- an access's value is proper
abbrev IsProperAccess : ℕ → ℕ → Access → Type 0
IsProperAccess functions objects (Writes name v) = IsProperIn functions objects v
IsProperAccess functions objects _ = Unit {0}

proper_by : (functions objects : ℕ) (ms : Members) (access : Access) → IsProperAccess functions objects access → AreProperIn functions objects ms → AreProperIn functions objects (step_by access ms).members
proper_by functions objects ms (Reads name) given all = proper_read functions objects name (value_of name ms) ms all
proper_by functions objects ms (Writes name v) given all = proper_written functions objects name v (value_of name ms) ms all given
proper_by functions objects ms (Deletes name) given all = proper_deleted functions objects name (value_of name ms) ms all
proper_by functions objects ms NoKey given all = all

keyed_proper : (functions objects : ℕ) (key : Value) (access : List ℕ → Access) → ((name : List ℕ) → IsProperAccess functions objects (access name)) → IsProperAccess functions objects (keyed key access)
keyed_proper functions objects (value.Text name) access each = by_test (is_key name)
  where
    by_test : (b : Bool) → IsProperAccess functions objects (if b then access name else NoKey)
    by_test true = each name
    by_test false = tt
keyed_proper functions objects _ access each = tt

read_by : (functions objects : ℕ) (name : List ℕ) (b : Bool) → IfSome (if b then Some (Reads name) else None) (IsProperAccess functions objects)
read_by functions objects name true = tt
read_by functions objects name false = tt

access_proper : (functions objects : ℕ) (b : Binder) (operands : List Value) → AllByRecursion (IsProperIn functions objects) operands → IfSome (access_of b operands) (IsProperAccess functions objects)
access_proper functions objects (GetMember name ic) [] given = tt
access_proper functions objects (SetMember name ic) (v ∷ []) given = given.0
access_proper functions objects (DeleteMember name ic) [] given = tt
access_proper functions objects GetIndex (key ∷ []) given = keyed_proper functions objects key Reads (λ name. tt)
access_proper functions objects SetIndex (key ∷ v ∷ []) given = keyed_proper functions objects key (λ name. Writes name v) (λ name. given.1.0)
access_proper functions objects DeleteIndex (key ∷ []) given = keyed_proper functions objects key Deletes (λ name. tt)
access_proper functions objects (InvokeMember name ic info) arguments given = read_by functions objects name (nat_eq (length arguments) info.count)
access_proper functions objects _ _ given = tt

-- what an operation with proper operands leaves of proper members is proper
pub proper_stepped : (functions objects : ℕ) (ms : Members) (b : Binder) (operands : List Value) → AreProperIn functions objects ms → AllByRecursion (IsProperIn functions objects) operands → AreProperIn functions objects (left_by ms (object_step ms b operands))
proper_stepped functions objects ms b operands all given = by_access (access_of b operands) (access_proper functions objects b operands given)
  where
    by_access : (o : Option Access) → IfSome o (IsProperAccess functions objects) → AreProperIn functions objects (left_by ms (option_map (λ access. step_by access ms) o))
    by_access None given = all
    by_access (Some access) given = proper_by functions objects ms access given all

answer_read : (functions objects : ℕ) (name : List ℕ) (ms : Members) → AreProperIn functions objects ms → IsAnswerIn functions objects (read_member name (value_of name ms) ms).outcome
answer_read functions objects name [] all = tt
answer_read functions objects name (m ∷ ms) all = by_test (bytes_eq m.name name) refl (answer_read functions objects name ms all.1)
  where
    -- the outcome of a read is the same over other members
    over : (o : Option Value) → IsAnswerIn functions objects (read_member name o ms).outcome → IsAnswerIn functions objects (read_member name o (m ∷ ms)).outcome
    over (Some v) a = a
    over None a = tt

    by_test : (b : Bool) → bytes_eq m.name name ≡ b → IsAnswerIn functions objects (read_member name (value_of name ms) ms).outcome → IsAnswerIn functions objects (read_member name (value_of name (m ∷ ms)) (m ∷ ms)).outcome
    by_test true e rest = rw e all.0
    by_test false e rest = rw e (over (value_of name ms) rest)

answer_written : (functions objects : ℕ) (name : List ℕ) (v : Value) (old : Option Value) (ms : Members) → IsAnswerIn functions objects (write_member name v old ms).outcome
answer_written functions objects name v (Some old) ms = tt
answer_written functions objects name v None ms = by_test (nat_eq (length ms) 64) refl
  where
    by_test : (b : Bool) → nat_eq (length ms) 64 ≡ b → IsAnswerIn functions objects (write_member name v None ms).outcome
    by_test true full = rw full tt
    by_test false full = rw full tt

answer_deleted : (functions objects : ℕ) (name : List ℕ) (old : Option Value) (ms : Members) → IsAnswerIn functions objects (delete_member name old ms).outcome
answer_deleted functions objects name (Some v) ms = tt
answer_deleted functions objects name None ms = tt

answer_by : (functions objects : ℕ) (ms : Members) (access : Access) → AreProperIn functions objects ms → IsAnswerIn functions objects (step_by access ms).outcome
answer_by functions objects ms (Reads name) all = answer_read functions objects name ms all
answer_by functions objects ms (Writes name v) all = answer_written functions objects name v (value_of name ms) ms
answer_by functions objects ms (Deletes name) all = answer_deleted functions objects name (value_of name ms) ms
answer_by functions objects ms NoKey all = tt

-- what an operation on proper members answers is proper, or a fault
pub answer_stepped : (functions objects : ℕ) (ms : Members) (b : Binder) (operands : List Value) → AreProperIn functions objects ms → IfSome (outcome_by (object_step ms b operands)) (IsAnswerIn functions objects)
answer_stepped functions objects ms b operands all = by_access (access_of b operands)
  where
    by_access : (o : Option Access) → IfSome (outcome_by (option_map (λ access. step_by access ms) o)) (IsAnswerIn functions objects)
    by_access None = tt
    by_access (Some access) = answer_by functions objects ms access all

-- the same of what a call left and answered

pub left_proper : (functions objects : ℕ) (ms new : Members) (b : Binder) (operands : List Value) {E : Type 0} (r : Result Outcome E) → IfOk r (λ o. object_step ms b operands ≡ Some (record { members = new; outcome = o })) → OnErr r (new ≡ ms)
    → AreProperIn functions objects ms → AllByRecursion (IsProperIn functions objects) operands → AreProperIn functions objects new
left_proper functions objects ms new b operands (Ok o) e same all given = subst (λ (s : Option Step). AreProperIn functions objects (left_by ms s)) e (proper_stepped functions objects ms b operands all given)
left_proper functions objects ms new b operands (Err x) e same all given = subst (AreProperIn functions objects) (sym same) all

pub answers_proper : (functions objects : ℕ) (ms new : Members) (b : Binder) (operands : List Value) {E : Type 0} (r : Result Outcome E) → IfOk r (λ o. object_step ms b operands ≡ Some (record { members = new; outcome = o }))
    → AreProperIn functions objects ms → IfOk r (IsAnswerIn functions objects)
answers_proper functions objects ms new b operands (Ok o) e all = subst (λ (s : Option Step). IfSome (outcome_by s) (IsAnswerIn functions objects)) e (answer_stepped functions objects ms b operands all)
answers_proper functions objects ms new b operands (Err x) e all = tt
