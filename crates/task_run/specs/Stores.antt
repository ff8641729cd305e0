-- The run of acts over a store of objects, in one of two forms: the objects' journals, or the entries and numbers
-- that are left of one task's.
use Rattle.std.specs.Prelude.{◌≡◌, ℕ, ◌+◌, nat_eq, Bool, true, false, ◌&&◌, if◌then◌else◌, List, [], ◌∷◌, ◌++◌, length, get_or, Option, None, Some}
use Rattle.std.specs.List.{AllByRecursion}
use Rattle.std.specs.Option.{option_map}
use Rattle.dyn_value.specs.declared.entry.Entry.{Entry}
use Rattle.dyn_value.specs.declared.outcome.Outcome.{Outcome}
use Rattle.dyn_value.specs.declared.value.Value.{Value}
use Rattle.dyn_value.specs.Operations.{is_same}
use Rattle.standard_binders.specs.declared.binder.Binder.{Binder}
use Rattle.object_model.specs.Journals.{IsLegal, members_after, step_of}
use Rattle.object_model.specs.Plain.{plain_step}
use Rattle.object_model.specs.Steps.{OnObject, on_object}
use Rattle.task_code.specs.Acts.{Ending, Act, Ends, Prints, Asks, Draws}
use Rattle.task_code.specs.Codes.{Plan}
use Rattle.task_walk.specs.Tales.{Asked, Teller, updated}

abbrev pub Lines : Type 0
Lines = List (List ℕ)

-- The objects of a run, in some form of store: what an operation on an object gives, whose binder has this
-- number, and which number a draw gives. None is where the store has no answer.
pub record Objects (Store : Type 0) : Type 0 where
  pub operate : Store → ℕ → Binder → OnObject → Option (Outcome × Store)
  pub draw : Store → Option (ℕ × Store)

-- what acts came to over a store, the lines that they printed, the operations that they asked, and what they left
-- of the store; they came to nothing where the store had no answer
pub record Run (Store S A : Type 0) : Type 0 where
  pub came : Option (Ending A × S)
  pub lines : Lines
  pub asked : List Asked
  pub store : Store

abbrev pub no_answer : {Store S A : Type 0} → Store → Run Store S A
no_answer store = record { came = None; lines = []; asked = []; store = store }

abbrev pub after_line : {Store S A : Type 0} → List ℕ → Run Store S A → Run Store S A
after_line line r = record { came = r.came; lines = line ∷ r.lines; asked = r.asked; store = r.store }

abbrev pub after_asked : {Store S A : Type 0} → Asked → Run Store S A → Run Store S A
after_asked a r = record { came = r.came; lines = r.lines; asked = a ∷ r.asked; store = r.store }

-- the number of a site's binder
abbrev pub number_at : Plan → ℕ → ℕ
number_at plan site = get_or plan.sites site 0

-- the outcome of an operation, and the store after it; an operation that looks at no object leaves the store
abbrev pub outcome_on : {Store : Type 0} → Objects Store → Plan → Option OnObject → ℕ → Binder → List Value → Store
    → Option (Outcome × Store)
outcome_on objects plan None site binder operands store = Some (plain_step plan.functions binder operands, store)
outcome_on objects plan (Some x) site binder operands store = objects.operate store (number_at plan site) binder x

abbrev pub goes_on : {Store S A : Type 0} → Asked → Store → (Outcome → Store → Run Store S A) → Option (Outcome × Store)
    → Run Store S A
goes_on a store next None = no_answer store
goes_on a store next (Some o) = after_asked a (next o.0 o.1)

abbrev pub draws_on : {Store S A : Type 0} → Store → (ℕ → Store → Run Store S A) → Option (ℕ × Store) → Run Store S A
draws_on store next None = no_answer store
draws_on store next (Some n) = next n.0 n.1

-- the acts over a store, where the plan has the functions, and the number of each site's binder
abbrev pub run_over : {Store S A : Type 0} → Objects Store → Plan → Act S A → Store → Run Store S A
run_over objects plan (Ends ending s) store = record { came = Some (ending, s); lines = []; asked = []; store = store }
run_over objects plan (Prints line act) store = after_line line (run_over objects plan act store)
run_over objects plan (Asks site binder operands act) store =
    goes_on (record { site = site; operands = operands }) store (λ o after. run_over objects plan (act o) after)
    (outcome_on objects plan (on_object binder operands) site binder operands store)
run_over objects plan (Draws act) store =
    draws_on store (λ n after. run_over objects plan (act n) after) (objects.draw store)

-- whether these are the same values
abbrev pub are_same : List Value → List Value → Bool
are_same [] [] = true
are_same (v ∷ vs) (w ∷ ws) = is_same v w && are_same vs ws
are_same _ _ = false

-- for each object the entries that are left, and the numbers that are left to draw
pub record Left : Type 0 where
  pub entries : ℕ → List Entry
  pub drawn : List ℕ

abbrev pub first_answers : Left → ℕ → OnObject → List Entry → Option (Outcome × Left)
first_answers left number x [] = None
first_answers left number x (e ∷ es) =
    if nat_eq e.binder number && are_same e.operands x.operands
    then Some (e.outcome, record { entries = updated left.entries x.object es; drawn = left.drawn })
    else None

abbrev pub first_drawn : Left → List ℕ → Option (ℕ × Left)
first_drawn left [] = None
first_drawn left (n ∷ ns) = Some (n, record { entries = left.entries; drawn = ns })

-- An operation on an object is answered by the first entry left of it, which is used up; there is no answer where
-- none is left, or where that entry's binder or operands differ. A draw takes the first number left.
abbrev pub left_objects : Objects Left
left_objects = record {
  operate = λ left number binder x. first_answers left number x (left.entries x.object);
  draw = λ left. first_drawn left left.drawn;
}

-- for each object its journal, and the number that is drawn next
pub record Journals : Type 0 where
  pub entries : ℕ → List Entry
  pub next : ℕ

-- the entry of an operation whose binder has this number
abbrev pub entry_made : Teller → ℕ → OnObject → Outcome → Entry
entry_made by number x o =
    record { pass = by.pass; task = by.task; binder = number; operands = x.operands; outcome = o }

-- the object's journal takes the entry
abbrev pub with_entry : Journals → OnObject → Entry → Journals
with_entry journals x e = record {
  entries = updated journals.entries x.object (journals.entries x.object ++ e ∷ []);
  next = journals.next;
}

-- An operation on an object gives what its binder gives on the members after the object's journal, and its entry
-- is appended; there is no answer where the binder's operation is none on members, or the operands do not suit it. A
-- draw gives the next number.
abbrev pub journal_objects : Teller → Objects Journals
journal_objects teller = record {
  operate = λ journals number binder x.
      option_map (λ step. (step.outcome, with_entry journals x (entry_made teller number x step.outcome)))
      (step_of teller.plan.binders (members_after teller.plan.binders [] (journals.entries x.object)) number
      x.operands);
  draw = λ journals. Some (journals.next, record { entries = journals.entries; next = journals.next + 1 });
}

-- nothing is left
pub record IsUsedUp (left : Left) : Type 0 where
  pub entries : (object : ℕ) → left.entries object ≡ []
  pub drawn : left.drawn ≡ []

-- the second list is the first and what came after
abbrev pub Begins : {A : Type 0} → List A → List A → Type 0
Begins {A} old new = (more : List A) × (new ≡ old ++ more)

-- the entry has this pass and task
abbrev pub IsToldBy : Teller → Entry → Type 0
IsToldBy teller e = (e.pass ≡ teller.pass) × (e.task ≡ teller.task)

-- these numbers come one after the other, from this one on
abbrev pub AreFrom : ℕ → List ℕ → Type 0
AreFrom next [] = Unit {0}
AreFrom next (n ∷ ns) = (n ≡ next) × AreFrom (next + 1) ns

-- what is left goes on legally where the journals end, and the numbers left are the next ones
pub record Follows (teller : Teller) (left : Left) (journals : Journals) : Type 0 where
  pub legal : (object : ℕ)
      → IsLegal teller.plan.binders (members_after teller.plan.binders [] (journals.entries object)) (left.entries object)
  pub told : (object : ℕ) → AllByRecursion (IsToldBy teller) (left.entries object)
  pub drawn : AreFrom journals.next left.drawn

-- the two runs come to the same, and the journals took what was used up
pub record AreAlike {S A : Type 0} (one : Run Left S A) (two : Run Journals S A)
    (left : Left) (journals : Journals) : Type 0 where
  pub came : two.came ≡ one.came
  pub lines : two.lines ≡ one.lines
  pub asked : two.asked ≡ one.asked
  pub entries : (object : ℕ)
      → two.store.entries object ++ one.store.entries object ≡ journals.entries object ++ left.entries object
  pub next : two.store.next + length one.store.drawn ≡ journals.next + length left.drawn
