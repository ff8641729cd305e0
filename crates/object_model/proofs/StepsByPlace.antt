-- The steps of an object, by the place of the member that they are about.
use Rattle.std.proofs.Common.{◌≡◌, ◌≢◌, ℕ, ◌<◌, true, false, List, [], ◌∷◌, ◌++◌, length, None, Some, Result, Ok, refl, sym, ◌∙◌, ap, subst, arith, slice_set, nat_eq}
use Rattle.std.specs.Prelude.{Err, IfOk}
use Rattle.std.specs.List.{position, remove, slice_index_or}
use Rattle.std.proofs.lemmas.Bool.Decides.{nat_tests}
use Rattle.std.proofs.lemmas.Option.{slice_get_read}
use Rattle.dyn_value.specs.declared.value.Value.{Value}
use Rattle.dyn_value.specs.declared.value.Value.TheVariants as value
use Rattle.dyn_value.specs.declared.fault.Fault.TheVariants.{NoMember, MembersFull}
use Rattle.dyn_value.specs.declared.outcome.Outcome.{Outcome}
use Rattle.dyn_value.specs.declared.outcome.Outcome.TheVariants as outcome
use Rattle.standard_binders.specs.declared.binder.Binder.{Binder}
use Rattle.object_model.specs.Accesses.{Access, access_of}
use Rattle.object_model.specs.Members.{Member, Members, value_of, AreMembers}
use Rattle.object_model.specs.Steps.{Step, read_member, write_member, delete_member, step_by, object_step}
use Rattle.object_model.proofs.MemberPlaces.{has_name, stands, absent, value_at, value_there, replaced_at, removed_at}
use Rattle.object_model.proofs.MembersKept.{members_replaced, members_removed, members_appended}

abbrev Is : Step → Members → Outcome → Type 0
Is step ms o = step ≡ record { members = ms; outcome = o }

-- with a member that has the name: reads, deletes and writes
pub read_found : (name : List ℕ) (ms : Members) (i : ℕ) (here : Member) (v : Value) → position (has_name name) ms ≡ Some i → i < length ms → here ≡ slice_index_or ms i here → v ≡ here.value → Is (read_member name (value_of name ms) ms) ms (outcome.Value v)
read_found name ms i here v found l at e =
    let is = value_at name ms i here (stands name ms i found) (slice_get_read ms (length ms) i here refl l at) in
    rw (is, e) refl

pub delete_found : (name : List ℕ) (ms rest : Members) (i : ℕ) → position (has_name name) ms ≡ Some i → rest ≡ remove ms i → Is (delete_member name (value_of name ms) ms) rest (outcome.Value value.Nil)
delete_found name ms rest i found e =
    let at = stands name ms i found in
    let there = value_there name ms i at in
    rw (there.1, removed_at name ms i at, e) refl

pub delete_keeps : (name : List ℕ) (ms rest : Members) (i : ℕ) → position (has_name name) ms ≡ Some i → rest ≡ remove ms i → AreMembers ms → AreMembers rest
delete_keeps name ms rest i found e are = subst AreMembers (removed_at name ms i (stands name ms i found) ∙ sym e) (members_removed name ms are)

pub write_found : (name : List ℕ) (v : Value) (ms rest : Members) (i : ℕ) (m : Member) → position (has_name name) ms ≡ Some i → m ≡ record { name = name; value = v } → rest ≡ slice_set ms i m → Is (write_member name v (value_of name ms) ms) rest (outcome.Value value.Nil)
write_found name v ms rest i m found is e =
    let at = stands name ms i found in
    let there = value_there name ms i at in
    rw (there.1, replaced_at name v ms i at, e, is) refl

pub write_keeps : (name : List ℕ) (v : Value) (ms rest : Members) (i : ℕ) (m : Member) → position (has_name name) ms ≡ Some i → m ≡ record { name = name; value = v } → rest ≡ slice_set ms i m → AreMembers ms → AreMembers rest
write_keeps name v ms rest i m found is e are = subst AreMembers (replaced_at name v ms i (stands name ms i found) ∙ ap (slice_set ms i) (sym is) ∙ sym e) (members_replaced name v ms are)

-- without one
pub read_absent : (name : List ℕ) (ms : Members) (n : List ℕ) → position (has_name name) ms ≡ None → n ≡ name → Is (read_member name (value_of name ms) ms) ms (outcome.Fault (NoMember n))
read_absent name ms n none e = rw (absent name ms none, e) refl

pub delete_absent : (name : List ℕ) (ms : Members) (n : List ℕ) → position (has_name name) ms ≡ None → n ≡ name → Is (delete_member name (value_of name ms) ms) ms (outcome.Fault (NoMember n))
delete_absent name ms n none e = rw (absent name ms none, e) refl

pub write_full : (name : List ℕ) (v : Value) (ms : Members) → position (has_name name) ms ≡ None → length ms ≡ 64 → Is (write_member name v (value_of name ms) ms) ms (outcome.Fault MembersFull)
write_full name v ms none full =
    let is : nat_eq (length ms) 64 ≡ true = grind (arith, nat_tests) in
    rw (absent name ms none, is) refl

pub write_added : (name : List ℕ) (v : Value) (ms rest : Members) (m : Member) → position (has_name name) ms ≡ None → length ms ≢ 64 → m ≡ record { name = name; value = v } → rest ≡ ms ++ m ∷ [] → Is (write_member name v (value_of name ms) ms) rest (outcome.Value value.Nil)
write_added name v ms rest m none room is e =
    let not_full : nat_eq (length ms) 64 ≡ false = grind (arith, nat_tests) in
    rw (absent name ms none, not_full, e, is) refl

pub added_keeps : (name : List ℕ) (v : Value) (ms rest : Members) (m : Member) → position (has_name name) ms ≡ None → length ms ≢ 64 → m ≡ record { name = name; value = v } → rest ≡ ms ++ m ∷ [] → AreMembers ms → AreMembers rest
added_keeps name v ms rest m none room is e are =
    subst AreMembers (sym e) (members_appended ms m are (ap (λ (k : Member). value_of k.name ms) is ∙ absent name ms none) (let few = are.few in omega arith))

-- the step of an operation is that of its access
pub stepped : (ms new : Members) (b : Binder) (operands : List Value) (access : Access) {E : Type 0} (r : Result Outcome E) → access_of b operands ≡ Some access → IfOk r (λ o. Is (step_by access ms) new o)
    → IfOk r (λ o. object_step ms b operands ≡ Some (record { members = new; outcome = o }))
stepped ms new b operands access (Ok o) found is = rw found (ap Some is)
stepped ms new b operands access (Err x) found is = tt
