-- Journals: one part after another, and the members that they leave.
use Rattle.std.proofs.Common.{◌≡◌, ℕ, List, [], ◌∷◌, ◌++◌, Option, None, Some, refl, ap, slice_get}
use Rattle.std.specs.List.{AllByRecursion}
use Rattle.std.specs.Option.{option_and_then, option_map}
use Rattle.std.specs.Prelude.{IfSome, IsSome}
use Rattle.dyn_value.specs.declared.entry.Entry.{Entry}
use Rattle.dyn_value.specs.declared.outcome.Outcome.{Outcome}
use Rattle.dyn_value.specs.declared.value.Value.{Value}
use Rattle.dyn_value.specs.Proper.{IsProperIn}
use Rattle.standard_binders.specs.declared.binder.Binder.{Binder}
use Rattle.object_model.specs.Accesses.{Access, access_of}
use Rattle.object_model.specs.Journals.{step_of, entry_step, left_by, outcome_by, members_after, IsLegal}
use Rattle.object_model.specs.Members.{Members, AreMembers, AreProperIn}
use Rattle.object_model.specs.Plain.{IsAnswerIn}
use Rattle.object_model.specs.Steps.{object_step, step_by}
use Rattle.object_model.proofs.MembersKept.{members_stepped}
use Rattle.object_model.proofs.ProperMembers.{proper_stepped, answer_stepped}
use Rattle.object_model.proofs.Suits.{Suits, has_suited}

-- the members after two journals, one after the other
pub after-append : (binders : List Binder) (ms : Members) (first next : List Entry) → members_after binders ms (first ++ next) ≡ members_after binders (members_after binders ms first) next
after-append binders ms [] next = refl
after-append binders ms (e ∷ first) next = after-append binders (left_by ms (entry_step binders ms e)) first next

-- two journals, one after the other, are legal where the second is on the members that the first leaves
pub legal-append : (binders : List Binder) (ms : Members) (first next : List Entry) → IsLegal binders ms first → IsLegal binders (members_after binders ms first) next → IsLegal binders ms (first ++ next)
legal-append binders ms [] next legal more = more
legal-append binders ms (e ∷ first) next legal more = (legal.0, legal-append binders (left_by ms (entry_step binders ms e)) first next legal.1 more)

-- and the parts of a legal journal are legal
pub legal_first : (binders : List Binder) (ms : Members) (first next : List Entry) → IsLegal binders ms (first ++ next) → IsLegal binders ms first
legal_first binders ms [] next legal = tt
legal_first binders ms (e ∷ first) next legal = (legal.0, legal_first binders (left_by ms (entry_step binders ms e)) first next legal.1)

pub legal_rest : (binders : List Binder) (ms : Members) (first next : List Entry) → IsLegal binders ms (first ++ next) → IsLegal binders (members_after binders ms first) next
legal_rest binders ms [] next legal = legal
legal_rest binders ms (e ∷ first) next legal = legal_rest binders (left_by ms (entry_step binders ms e)) first next legal.1

-- one more entry
pub after_push : (binders : List Binder) (ms : Members) (journal : List Entry) (e : Entry) → members_after binders ms (journal ++ e ∷ []) ≡ left_by (members_after binders ms journal) (entry_step binders (members_after binders ms journal) e)
after_push binders ms journal e = after-append binders ms journal (e ∷ [])

pub legal_push : (binders : List Binder) (ms : Members) (journal : List Entry) (e : Entry) → IsLegal binders ms journal → outcome_by (entry_step binders (members_after binders ms journal) e) ≡ Some e.outcome → IsLegal binders ms (journal ++ e ∷ [])
legal_push binders ms journal e legal same = legal-append binders ms journal (e ∷ []) legal (same, tt)

-- an entry that has an outcome is an operation: its number names a binder on members, and its operands suit that
pub entry_suits : (binders : List Binder) (ms : Members) (e : Entry) (o : Outcome) → outcome_by (entry_step binders ms e) ≡ Some o → (b : Binder) × (slice_get binders e.binder ≡ Some b) × Suits b e.operands
entry_suits binders ms e o given = by_binder (slice_get binders e.binder) refl given
  where
    some_access : (a : Option Access) → outcome_by (option_map (λ access. step_by access ms) a) ≡ Some o → IsSome a
    some_access None given = cc
    some_access (Some access) given = refl

    by_binder : (r : Option Binder) → slice_get binders e.binder ≡ r → outcome_by (option_and_then (λ b. object_step ms b e.operands) r) ≡ Some o → (b : Binder) × (slice_get binders e.binder ≡ Some b) × Suits b e.operands
    by_binder None is given = cc
    by_binder (Some b) is given = (b, is, has_suited b e.operands (some_access (access_of b e.operands) given))

-- the step by a number is that by its binder
pub step_at : (binders : List Binder) (ms : Members) (number : ℕ) (operands : List Value) (b : Binder) → slice_get binders number ≡ Some b → step_of binders ms number operands ≡ object_step ms b operands
step_at binders ms number operands b is = ap (option_and_then (λ x. object_step ms x operands)) is

-- the step by a binder's number: it leaves members, keeps values proper, and answers a proper value or a fault

pub members_of : (binders : List Binder) (ms : Members) (number : ℕ) (operands : List Value) → AreMembers ms → AreMembers (left_by ms (step_of binders ms number operands))
members_of binders ms number operands are = by_binder (slice_get binders number)
  where
    by_binder : (o : Option Binder) → AreMembers (left_by ms (option_and_then (λ b. object_step ms b operands) o))
    by_binder None = are
    by_binder (Some b) = members_stepped ms b operands are

pub proper_of : (functions objects : ℕ) (binders : List Binder) (ms : Members) (number : ℕ) (operands : List Value) → AreProperIn functions objects ms → AllByRecursion (IsProperIn functions objects) operands
    → AreProperIn functions objects (left_by ms (step_of binders ms number operands))
proper_of functions objects binders ms number operands all given = by_binder (slice_get binders number)
  where
    by_binder : (o : Option Binder) → AreProperIn functions objects (left_by ms (option_and_then (λ b. object_step ms b operands) o))
    by_binder None = all
    by_binder (Some b) = proper_stepped functions objects ms b operands all given

pub answer_of : (functions objects : ℕ) (binders : List Binder) (ms : Members) (number : ℕ) (operands : List Value) → AreProperIn functions objects ms → IfSome (outcome_by (step_of binders ms number operands)) (IsAnswerIn functions objects)
answer_of functions objects binders ms number operands all = by_binder (slice_get binders number)
  where
    by_binder : (o : Option Binder) → IfSome (outcome_by (option_and_then (λ b. object_step ms b operands) o)) (IsAnswerIn functions objects)
    by_binder None = tt
    by_binder (Some b) = answer_stepped functions objects ms b operands all

-- what a journal leaves of members are members
pub members_kept : (binders : List Binder) (ms : Members) (journal : List Entry) → AreMembers ms → AreMembers (members_after binders ms journal)
members_kept binders ms [] are = are
members_kept binders ms (e ∷ journal) are = members_kept binders (left_by ms (entry_step binders ms e)) journal (members_of binders ms e.binder e.operands are)

-- values stay proper over a journal whose operands are
pub proper_kept : (functions objects : ℕ) (binders : List Binder) (ms : Members) (journal : List Entry) → AreProperIn functions objects ms → AllByRecursion (λ (e : Entry). AllByRecursion (IsProperIn functions objects) e.operands) journal → AreProperIn functions objects (members_after binders ms journal)
proper_kept functions objects binders ms [] all given = all
proper_kept functions objects binders ms (e ∷ journal) all given =
    proper_kept functions objects binders (left_by ms (entry_step binders ms e)) journal (proper_of functions objects binders ms e.binder e.operands all given.0) given.1
