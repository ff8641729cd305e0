-- Members stay members: distinct names, and 64 at most.
use Rattle.std.proofs.Common.{◌≡◌, ℕ, suc, ◌≤◌, ◌<◌, Bool, true, false, List, [], ◌∷◌, ◌++◌, length, map, Option, None, Some, refl, sym, ap, subst, arith, nat_eq}
use Rattle.std.specs.List.{AllByRecursion, IsDistinct}
use Rattle.std.specs.Option.{option_map}
use Rattle.std.specs.Str.{bytes_eq}
use Rattle.std.proofs.lemmas.Bool.Decides.{nat_tests}
use Rattle.std.proofs.lemmas.List.{length-append}
use Rattle.std.proofs.lemmas.Map.Keys.{IsDistinct-head, IsDistinct-tail, IsDistinct-cons}
use Rattle.dyn_value.specs.declared.value.Value.{Value}
use Rattle.standard_binders.specs.declared.binder.Binder.{Binder}
use Rattle.object_model.specs.Accesses.{Access, Reads, Writes, Deletes, NoKey, access_of}
use Rattle.object_model.specs.Journals.{left_by}
use Rattle.object_model.specs.Members.{Member, Members, member_name, value_of, replaced, removed, AreMembers}
use Rattle.object_model.specs.Steps.{read_member, write_member, delete_member, step_by, object_step}

abbrev names : Members → List (List ℕ)
names ms = map member_name ms

-- no member has this name
abbrev IsNew : List ℕ → Members → Type 0
IsNew name ms = AllByRecursion (λ n. bytes_eq name n ≡ false) (names ms)

names_replaced : (name : List ℕ) (v : Value) (ms : Members) → names (replaced name v ms) ≡ names ms
names_replaced name v [] = refl
names_replaced name v (m ∷ ms) = by_test (bytes_eq m.name name) refl (names_replaced name v ms)
  where
    by_test : (b : Bool) → bytes_eq m.name name ≡ b → names (replaced name v ms) ≡ names ms → names (replaced name v (m ∷ ms)) ≡ names (m ∷ ms)
    by_test true e rest = rw e refl
    by_test false e rest = rw e (ap (λ (ns : List (List ℕ)). m.name ∷ ns) rest)

length_replaced : (name : List ℕ) (v : Value) (ms : Members) → length (replaced name v ms) ≡ length ms
length_replaced name v [] = refl
length_replaced name v (m ∷ ms) = by_test (bytes_eq m.name name) refl (length_replaced name v ms)
  where
    by_test : (b : Bool) → bytes_eq m.name name ≡ b → length (replaced name v ms) ≡ length ms → length (replaced name v (m ∷ ms)) ≡ length (m ∷ ms)
    by_test true e rest = rw e refl
    by_test false e rest = rw e (ap suc rest)

length_removed : (name : List ℕ) (ms : Members) → length (removed name ms) ≤ length ms
length_removed name [] = omega arith
length_removed name (m ∷ ms) = by_test (bytes_eq m.name name) refl (length_removed name ms)
  where
    by_test : (b : Bool) → bytes_eq m.name name ≡ b → length (removed name ms) ≤ length ms → length (removed name (m ∷ ms)) ≤ length (m ∷ ms)
    by_test true e rest = rw e (omega arith)
    by_test false e rest = rw e (omega arith)

new_removed : (t name : List ℕ) (ms : Members) → IsNew t ms → IsNew t (removed name ms)
new_removed t name [] new = tt
new_removed t name (m ∷ ms) new = by_test (bytes_eq m.name name) refl (new_removed t name ms new.1)
  where
    by_test : (b : Bool) → bytes_eq m.name name ≡ b → IsNew t (removed name ms) → IsNew t (removed name (m ∷ ms))
    by_test true e rest = rw e new.1
    by_test false e rest = rw e (new.0, rest)

distinct_removed : (name : List ℕ) (ms : Members) → IsDistinct bytes_eq (names ms) → IsDistinct bytes_eq (names (removed name ms))
distinct_removed name [] d = d
distinct_removed name (m ∷ ms) d =
    let later = IsDistinct-tail bytes_eq m.name (names ms) d in
    by_test (bytes_eq m.name name) refl later
    (IsDistinct-cons bytes_eq m.name (names (removed name ms)) (new_removed m.name name ms (IsDistinct-head bytes_eq m.name (names ms) d)) (distinct_removed name ms later))
  where
    by_test : (b : Bool) → bytes_eq m.name name ≡ b → IsDistinct bytes_eq (names ms) → IsDistinct bytes_eq (names (m ∷ removed name ms)) → IsDistinct bytes_eq (names (removed name (m ∷ ms)))
    by_test true e later rest = rw e later
    by_test false e later rest = rw e rest

-- where no member has the name, it stands apart from each
apart : (name : List ℕ) (m : Member) (ms : Members) → value_of name (m ∷ ms) ≡ None → (bytes_eq m.name name ≡ false) × (value_of name ms ≡ None)
apart name m ms none = by_test (bytes_eq m.name name) refl
  where
    by_test : (b : Bool) → bytes_eq m.name name ≡ b → (bytes_eq m.name name ≡ false) × (value_of name ms ≡ None)
    by_test true e = let found : Some m.value ≡ None = rw e at none in cc
    by_test false e = (e, rw e at none)

new_appended : (t : List ℕ) (ms : Members) (m : Member) → IsNew t ms → bytes_eq t m.name ≡ false → IsNew t (ms ++ m ∷ [])
new_appended t [] m new other = (other, tt)
new_appended t (n ∷ ms) m new other = (new.0, new_appended t ms m new.1 other)

distinct_appended : (ms : Members) (m : Member) → IsDistinct bytes_eq (names ms) → value_of m.name ms ≡ None → IsDistinct bytes_eq (names (ms ++ m ∷ []))
distinct_appended [] m d none = IsDistinct-cons bytes_eq m.name [] tt d
distinct_appended (n ∷ ms) m d none =
    let other = apart m.name n ms none in
    IsDistinct-cons bytes_eq n.name (names (ms ++ m ∷ [])) (new_appended n.name ms m (IsDistinct-head bytes_eq n.name (names ms) d) other.0)
    (distinct_appended ms m (IsDistinct-tail bytes_eq n.name (names ms) d) other.1)

pub members_replaced : (name : List ℕ) (v : Value) (ms : Members) → AreMembers ms → AreMembers (replaced name v ms)
members_replaced name v ms are = record {
  distinct = subst (IsDistinct bytes_eq) (sym (names_replaced name v ms)) are.distinct;
  few = let few = are.few in omega (arith, length_replaced name v ms);
}

pub members_removed : (name : List ℕ) (ms : Members) → AreMembers ms → AreMembers (removed name ms)
members_removed name ms are = record {
  distinct = distinct_removed name ms are.distinct;
  few = let few = are.few in omega (arith, length_removed name ms);
}

pub members_appended : (ms : Members) (m : Member) → AreMembers ms → value_of m.name ms ≡ None → length ms < 64 → AreMembers (ms ++ m ∷ [])
members_appended ms m are none room = record {
  distinct = distinct_appended ms m are.distinct none;
  few = omega (arith, length-append ms (m ∷ []));
}

members_written : (name : List ℕ) (v : Value) (old : Option Value) (ms : Members) → value_of name ms ≡ old → AreMembers ms → AreMembers (write_member name v old ms).members
members_written name v (Some old) ms e are = members_replaced name v ms are
members_written name v None ms e are = by_test (nat_eq (length ms) 64) refl
  where
    by_test : (b : Bool) → nat_eq (length ms) 64 ≡ b → AreMembers (write_member name v None ms).members
    by_test true full = rw full are
    by_test false full = rw full (members_appended ms (record { name = name; value = v }) are e (let few = are.few in grind (arith, nat_tests)))

members_read : (name : List ℕ) (old : Option Value) (ms : Members) → AreMembers ms → AreMembers (read_member name old ms).members
members_read name (Some v) ms are = are
members_read name None ms are = are

members_deleted : (name : List ℕ) (old : Option Value) (ms : Members) → AreMembers ms → AreMembers (delete_member name old ms).members
members_deleted name (Some v) ms are = members_removed name ms are
members_deleted name None ms are = are

members_by : (ms : Members) (access : Access) → AreMembers ms → AreMembers (step_by access ms).members
members_by ms (Reads name) are = members_read name (value_of name ms) ms are
members_by ms (Writes name v) are = members_written name v (value_of name ms) ms refl are
members_by ms (Deletes name) are = members_deleted name (value_of name ms) ms are
members_by ms NoKey are = are

-- what an operation leaves of members are members
pub members_stepped : (ms : Members) (b : Binder) (operands : List Value) → AreMembers ms → AreMembers (left_by ms (object_step ms b operands))
members_stepped ms b operands are = by_access (access_of b operands)
  where
    by_access : (o : Option Access) → AreMembers (left_by ms (option_map (λ access. step_by access ms) o))
    by_access None = are
    by_access (Some access) = members_by ms access are

-- an object begins as no members
pub no_members : AreMembers []
unfolding IsDistinct
no_members = record { distinct = tt; few = omega arith }
