-- The member of a name by its place.
use Rattle.std.proofs.Common.{◌≡◌, ℕ, zero, suc, Bool, true, false, List, [], ◌∷◌, length, None, Some, refl, ◌<◌, ◌≤◌, ap, arith, slice_set, slice_get, nat_lt}
use Rattle.std.specs.List.{position, position_or_len, remove, slice_index_or}
use Rattle.std.specs.Str.{bytes_eq}
use Rattle.std.proofs.lemmas.Bool.Decides.{nat_tests}
use Rattle.std.proofs.lemmas.List.Quantifiers.{position-Some}
use Rattle.std.proofs.lemmas.List.Sums.{fails_before_first}
use Rattle.std.proofs.lemmas.Slice.Eq.{bytes_eq-Decides}
use Rattle.dyn_value.specs.declared.value.Value.{Value}
use Rattle.object_model.specs.Members.{Member, Members, value_of, replaced, removed}

-- whether a member has this name
abbrev pub has_name : List ℕ → Member → Bool
has_name name m = bytes_eq m.name name

-- the first member of this name stands at this place
abbrev pub StandsAt : List ℕ → Members → ℕ → Type 0
StandsAt name [] i = ⊥
StandsAt name (m ∷ ms) zero = bytes_eq m.name name ≡ true
StandsAt name (m ∷ ms) (suc i) = (bytes_eq m.name name ≡ false) × StandsAt name ms i

stands_at : (name : List ℕ) (ms : Members) (i : ℕ) (d : Member) → i < length ms → has_name name (slice_index_or ms i d) ≡ true → ((k : ℕ) → k < i → has_name name (slice_index_or ms k d) ≡ false) → StandsAt name ms i
stands_at name [] i d l e before = absurd (omega arith)
stands_at name (m ∷ ms) zero d l e before = e
stands_at name (m ∷ ms) (suc i) d l e before = (before 0 (omega arith), stands_at name ms i d (omega arith) e (λ k b. before (suc k) (omega arith)))

pub stands : (name : List ℕ) (ms : Members) (i : ℕ) → position (has_name name) ms ≡ Some i → StandsAt name ms i
stands name [] i found = cc
stands name (m ∷ ms) i found =
    let place = position-Some (has_name name) (m ∷ ms) i m found in
    stands_at name (m ∷ ms) i m place.0 place.1 place.2

pub within : (name : List ℕ) (ms : Members) (i : ℕ) → position (has_name name) ms ≡ Some i → i < length ms
within name [] i found = cc
within name (m ∷ ms) i found = (position-Some (has_name name) (m ∷ ms) i m found).0

no_value : (name : List ℕ) (ms : Members) → ((k : ℕ) (d : Member) → k < length ms → has_name name (slice_index_or ms k d) ≡ false) → value_of name ms ≡ None
no_value name [] none = refl
no_value name (m ∷ ms) none =
    let first : bytes_eq m.name name ≡ false = none 0 m (omega arith) in
    rw first (no_value name ms (λ k d l. none (suc k) d (omega arith)))

past_all : (name : List ℕ) (ms : Members) → position (has_name name) ms ≡ None → length ms ≤ position_or_len (has_name name) ms
past_all name ms none = by_test (nat_lt (position_or_len (has_name name) ms) (length ms)) refl
  where
    by_test : (b : Bool) → nat_lt (position_or_len (has_name name) ms) (length ms) ≡ b → length ms ≤ position_or_len (has_name name) ms
    by_test true t = let k : Some (position_or_len (has_name name) ms) ≡ None = rw t at none in cc
    by_test false t = grind (arith, nat_tests)

pub absent : (name : List ℕ) (ms : Members) → position (has_name name) ms ≡ None → value_of name ms ≡ None
absent name ms none = no_value name ms (λ k d l. fails_before_first (has_name name) ms k d (omega (arith, past_all name ms none)))

pub value_at : (name : List ℕ) (ms : Members) (i : ℕ) (m : Member) → StandsAt name ms i → slice_get ms i ≡ Some m → value_of name ms ≡ Some m.value
value_at name [] i m at e = absurd at
value_at name (n ∷ ms) zero m at e = let same : n ≡ m = cc in rw at (ap (λ (k : Member). Some k.value) same)
value_at name (n ∷ ms) (suc i) m at e = rw at.0 (value_at name ms i m at.1 e)

pub value_there : (name : List ℕ) (ms : Members) (i : ℕ) → StandsAt name ms i → (v : Value) × (value_of name ms ≡ Some v)
value_there name [] i at = absurd at
value_there name (m ∷ ms) zero at = (m.value, rw at refl)
value_there name (m ∷ ms) (suc i) at = let rest = value_there name ms i at.1 in (rest.0, rw at.0 rest.1)

pub replaced_at : (name : List ℕ) (v : Value) (ms : Members) (i : ℕ) → StandsAt name ms i → replaced name v ms ≡ slice_set ms i (record { name = name; value = v })
replaced_at name v [] i at = absurd at
replaced_at name v (m ∷ ms) zero at = rw at (ap (λ (n : List ℕ). let k : Member = record { name = n; value = v } in k ∷ ms) ((bytes_eq-Decides m.name name).0 at))
replaced_at name v (m ∷ ms) (suc i) at = rw at.0 (ap (λ (ns : Members). m ∷ ns) (replaced_at name v ms i at.1))

pub removed_at : (name : List ℕ) (ms : Members) (i : ℕ) → StandsAt name ms i → removed name ms ≡ remove ms i
removed_at name [] i at = absurd at
removed_at name (m ∷ ms) zero at = rw at refl
removed_at name (m ∷ ms) (suc i) at = rw at.0 (ap (λ (ns : Members). m ∷ ns) (removed_at name ms i at.1))
