-- What a rule that fits an operation does to an object and its journal.
use Rattle.std.proofs.Common.{◌≡◌, ℕ, ◌+◌, ◌-◌, List, [], ◌∷◌, ◌++◌, length, take, drop, Option, None, Some, refl, sym, ◌∙◌, ap, subst, arith, slice_get, length-drop, take-append-drop, unwrap_or}
use Rattle.std.proofs.Math.Logic.{∥∥₁_elim}
use Rattle.std.proofs.Props.{props}
use Rattle.std.specs.List.{AllByRecursion}
use Rattle.std.specs.Option.{option_map, option_and_then}
use Rattle.std.specs.Prelude.{IsSome, IfSome}
use Rattle.dyn_value.specs.declared.entry.Entry.{Entry}
use Rattle.dyn_value.specs.declared.outcome.Outcome.{Outcome}
use Rattle.dyn_value.specs.declared.value.Value.{Value}
use Rattle.dyn_value.specs.Proper.{IsProperIn}
use Rattle.expando_class.specs.declared.class.ClassRef.{ClassRef}
use Rattle.expando_class.specs.declared.table.ClassTable.{ClassTable}
use Rattle.expando_class.specs.Class.{number_of, names_of, IsClassOf}
use Rattle.expando_object.specs.State.{class_in}
use Rattle.expr_tree.specs.declared.node.Node.{Node}
use Rattle.expr_tree.specs.declared.node.Node.TheVariants.{Append, Remove}
use Rattle.expr_tree.specs.Meanings.{State, answer_in, state_after}
use Rattle.expr_tree.specs.Trees.{root}
use Rattle.standard_binders.specs.declared.binder.Binder.{Binder}
use Rattle.object_model.specs.Accesses.{Access, access_of}
use Rattle.object_model.specs.Journals.{IsLegal, members_after, entry_step, left_by, outcome_by}
use Rattle.object_model.specs.Members.{Members, AreMembers, AreProperIn}
use Rattle.object_model.specs.Plain.{IsAnswerIn}
use Rattle.object_model.specs.Steps.{Step, object_step, step_by}
use Rattle.object_model.proofs.JournalLaws.{after_push, legal_push, members_kept, proper_kept}
use Rattle.object_model.proofs.MembersKept.{no_members}
use Rattle.object_model.proofs.ProperMembers.{answer_stepped}
use Rattle.rule_model.specs.Soundness.{Does, IsEven, named_class}
use Rattle.rule_model.specs.States.{HasMembers}
use Rattle.tree_eval.specs.States.{IsClassAfter, names_after, state_of}
use Rattle.object_history.specs.declared.entry_head.EntryHead.{EntryHead}
use Rattle.object_history.specs.declared.object_row.ObjectRow.{ObjectRow}
use Rattle.object_history.specs.declared.ready.Ready.{Ready}
use Rattle.object_history.specs.Entries.{AreProperEntries, IsProperEntry, entry_by}
use Rattle.object_history.specs.Readies.{CanCommit, arguments_of, head_of, operands_of}
use Rattle.object_history.specs.RowProps.{outcome_prop}
use Rattle.object_history.specs.Rows.{journal_of, members_in, state_in, tag_of}

single : {A : Type 0} (xs : List A) → length xs ≡ 1 → (x : A) × (xs ≡ x ∷ [])
single [] one = cc
single (x ∷ []) one = (x, refl)
single (x ∷ y ∷ xs) one = cc

-- a list with one more name
last_name : (old more : List (List ℕ)) → take (length old) more ≡ old → length more ≡ length old + 1 → (name : List ℕ) × (more ≡ old ++ name ∷ [])
last_name old more begins longer =
    let one : length more - length old ≡ 1 = omega (arith, longer) in
    let s = single (drop (length old) more) (length-drop (length old) more ∙ one) in (
      s.0,
      sym (take-append-drop (length old) more) ∙ ap (λ (xs : List (List ℕ)). xs ++ drop (length old) more) begins
          ∙ ap (λ (xs : List (List ℕ)). old ++ xs) s.1,
    )

some_is : {A : Type 0} (a b : A) → Some a ≡ Some b → a ≡ b
some_is a b is = cc

-- the class after that the node names is the one to which it moves an object with these names
after_fits : (after : Option ClassRef) (old : List (List ℕ)) (n : Node) → option_map number_of after ≡ named_class n
    → IsEven old (names_after after) n → IsClassAfter after old n
after_fits None old (Append c a) named even = cc
after_fits None old (Remove p c) named even = cc
after_fits None old _ named even = refl
after_fits (Some class) old (Append c a) named even = (some_is (number_of class) c named, last_name old (names_of class) even.0 even.1)
after_fits (Some class) old (Remove p c) named even = (some_is (number_of class) c named, even)
after_fits (Some class) old _ named even = cc

even_prop : (old more : List (List ℕ)) (n : Node) → IsProp (IsEven old more n)
even_prop old more (Append c a) = hlevel props
even_prop old more (Remove p c) = hlevel props
even_prop old more _ = hlevel props

has_prop : (s : State) (ms : Members) → IsProp (HasMembers s ms)
has_prop s ms = hlevel props

some_access : (access : Option Access) → IsSome access → (a : Access) × (access ≡ Some a)
some_access None there = cc
some_access (Some a) there = (a, refl)

-- operands that suit a binder on members have a step
some_step : (ms : Members) (b : Binder) (arguments : List Value) → IsSome (access_of b arguments)
    → (step : Step) × (object_step ms b arguments ≡ Some step)
some_step ms b arguments suits =
    let access = some_access (access_of b arguments) suits in
    (step_by access.0 ms, ap (option_map (λ a. step_by a ms)) access.1)

-- an object's members are members
pub members_are : (row : ObjectRow) → AreMembers (members_in row)
members_are row = members_kept (tag_of row).binders.now [] (journal_of row) no_members

operands_proper : (functions objects : ℕ) (es : List Entry) → AreProperEntries functions objects es
    → AllByRecursion (λ (e : Entry). AllByRecursion (IsProperIn functions objects) e.operands) es
operands_proper functions objects [] all = all
operands_proper functions objects (e ∷ es) all = (all.0.0, operands_proper functions objects es all.1)

-- and their values are proper
pub members_proper : (row : ObjectRow) → AreProperIn (tag_of row).functions (tag_of row).limit (members_in row)
members_proper row =
    let functions = (tag_of row).functions in let objects = (tag_of row).limit in
    proper_kept functions objects (tag_of row).binders.now [] (journal_of row) tt (operands_proper functions objects (journal_of row) row.proper)

-- a body that does to an object what each step of the operation is
abbrev pub Doing : ObjectRow → Ready → Binder → List Node → Option ClassRef → Type 0
Doing row r b body after = (step : Step) → object_step (members_in row) b (arguments_of r) ≡ Some step
    → ∥ Does body (operands_of r) (names_after after) (state_of (state_in row)) step ∥₁

pub class_after_of : (row : ObjectRow) (r : Ready) (b : Binder) (body : List Node) (after : Option ClassRef) → CanCommit row r b body after
    → Doing row r b body after → IsClassAfter after (names_of (class_in (state_in row))) (root body)
class_after_of row r b body after can doing =
    let old = names_of (class_in (state_in row)) in
    let step = some_step (members_in row) b (arguments_of r) can.suits in
    let even : IsEven old (names_after after) (root body) = ∥∥₁_elim (doing step.0 step.1) (even_prop old (names_after after) (root body))
    (λ does. does.even) in
    after_fits after old (root body) can.named even

-- it answers the outcome of the step
pub outcome_of_step : (row : ObjectRow) (r : Ready) (b : Binder) (body : List Node) (after : Option ClassRef) (o : Outcome)
    → CanCommit row r b body after → Doing row r b body after
    → o ≡ answer_in (operands_of r) (state_of (state_in row)) (root body)
    → outcome_by (object_step (members_in row) b (arguments_of r)) ≡ Some o
outcome_of_step row r b body after o can doing answers =
    let ms = members_in row in
    let step = some_step ms b (arguments_of r) can.suits in
    ∥∥₁_elim (doing step.0 step.1) (outcome_prop (outcome_by (object_step ms b (arguments_of r))) (Some o))
    (λ does. ap outcome_by step.1 ∙ ap (λ (x : Outcome). Some x) (sym does.outcome ∙ sym answers))

-- and leaves the members of the step
members_of_step : (row : ObjectRow) (r : Ready) (b : Binder) (body : List Node) (after : Option ClassRef)
    → CanCommit row r b body after → Doing row r b body after
    → HasMembers (state_after (operands_of r) (names_after after) (state_of (state_in row)) (root body)) (left_by (members_in row)
    (object_step (members_in row) b (arguments_of r)))
members_of_step row r b body after can doing =
    let ms = members_in row in
    let left = state_after (operands_of r) (names_after after) (state_of (state_in row)) (root body) in
    let step = some_step ms b (arguments_of r) can.suits in
    ∥∥₁_elim (doing step.0 step.1) (has_prop left (left_by ms (object_step ms b (arguments_of r))))
    (λ does. subst (HasMembers left) (sym (ap (left_by ms) step.1)) does.state)

-- the step of the entry that is added
entry_step_is : (binders : List Binder) (ms : Members) (head : EntryHead) (b : Binder) (arguments : List Value) (o : Outcome)
    → slice_get binders head.binder ≡ Some b
    → entry_step binders ms (entry_by head arguments o) ≡ object_step ms b arguments
entry_step_is binders ms head b arguments o is = ap (option_and_then (λ x. object_step ms x arguments)) is

-- what a row is after an operation: its new state, and one entry more
pub record Committed (row : ObjectRow) (r : Ready) (b : Binder) (body : List Node) (after : Option ClassRef) (o : Outcome)
    (s : State) (journal : List Entry) : Type 0 where
  pub can : CanCommit row r b body after
  pub doing : Doing row r b body after
  pub answers : o ≡ answer_in (operands_of r) (state_of (state_in row)) (root body)
  pub state : s ≡ state_after (operands_of r) (names_after after) (state_of (state_in row)) (root body)
  pub grown : journal ≡ journal_of row ++ entry_by (head_of r) (arguments_of r) o ∷ []

pub legal_of : (row : ObjectRow) (r : Ready) (b : Binder) (body : List Node) (after : Option ClassRef) (o : Outcome) (s : State) (journal : List Entry)
    → Committed row r b body after o s journal → IsLegal (tag_of row).binders.now [] journal
legal_of row r b body after o s journal c =
    let bs = (tag_of row).binders.now in
    let e = entry_by (head_of r) (arguments_of r) o in
    subst (IsLegal bs []) (sym c.grown)
    (legal_push bs [] (journal_of row) e row.legal
    (ap outcome_by (entry_step_is bs (members_in row) (head_of r) b (arguments_of r) o c.can.number)
    ∙ outcome_of_step row r b body after o c.can c.doing c.answers))

-- the members after the journal that has grown
members_grown : (row : ObjectRow) (r : Ready) (b : Binder) (body : List Node) (after : Option ClassRef) (o : Outcome) (s : State) (journal : List Entry)
    → Committed row r b body after o s journal
    → members_after (tag_of row).binders.now [] journal ≡ left_by (members_in row) (object_step (members_in row) b (arguments_of r))
members_grown row r b body after o s journal c =
    let bs = (tag_of row).binders.now in
    let e = entry_by (head_of r) (arguments_of r) o in
    ap (members_after bs []) c.grown ∙ after_push bs [] (journal_of row) e
    ∙ ap (left_by (members_in row)) (entry_step_is bs (members_in row) (head_of r) b (arguments_of r) o c.can.number)

pub kept_of : (row : ObjectRow) (r : Ready) (b : Binder) (body : List Node) (after : Option ClassRef) (o : Outcome) (s : State) (journal : List Entry)
    → Committed row r b body after o s journal → HasMembers s (members_after (tag_of row).binders.now [] journal)
kept_of row r b body after o s journal c =
    subst (λ (ms : Members). HasMembers s ms) (sym (members_grown row r b body after o s journal c))
    (subst (λ (t : State). HasMembers t (left_by (members_in row) (object_step (members_in row) b (arguments_of r)))) (sym c.state)
    (members_of_step row r b body after c.can c.doing))

-- the answer is proper
pub answer_of : (row : ObjectRow) (r : Ready) (b : Binder) (body : List Node) (after : Option ClassRef) (o : Outcome)
    → CanCommit row r b body after → Doing row r b body after
    → o ≡ answer_in (operands_of r) (state_of (state_in row)) (root body)
    → IsAnswerIn (tag_of row).functions (tag_of row).limit o
answer_of row r b body after o can doing answers =
    subst (λ (x : Option Outcome). IfSome x (IsAnswerIn (tag_of row).functions (tag_of row).limit)) (outcome_of_step row r b body after o can doing answers)
    (answer_stepped (tag_of row).functions (tag_of row).limit (members_in row) b (arguments_of r) (members_proper row))

-- one more proper entry
entries_push : (functions objects : ℕ) (es : List Entry) (e : Entry) → AreProperEntries functions objects es → IsProperEntry functions objects e
    → AreProperEntries functions objects (es ++ e ∷ [])
entries_push functions objects [] e all one = (one, tt)
entries_push functions objects (x ∷ es) e all one = (all.0, entries_push functions objects es e all.1 one)

pub proper_of : (row : ObjectRow) (r : Ready) (b : Binder) (body : List Node) (after : Option ClassRef) (o : Outcome) (s : State) (journal : List Entry)
    → Committed row r b body after o s journal → AreProperEntries (tag_of row).functions (tag_of row).limit journal
proper_of row r b body after o s journal c =
    subst (AreProperEntries (tag_of row).functions (tag_of row).limit) (sym c.grown)
    (entries_push (tag_of row).functions (tag_of row).limit (journal_of row) (entry_by (head_of r) (arguments_of r) o) row.proper
    (c.can.proper, answer_of row r b body after o c.can c.doing c.answers))

pub own_of : (table : ClassTable) (after : Option ClassRef) (old : ClassRef) → IsClassOf table old → IfSome after (IsClassOf table)
    → IsClassOf table (unwrap_or after old)
own_of table None old own given = own
own_of table (Some class) old own given = given

-- the entry that is added
pub entry_is : (r : Ready) (o : Outcome) → r.outcome ≡ o
    → record { pass = r.head.pass; task = r.head.task; binder = r.head.binder; operands = r.arguments; outcome = r.outcome }
    ≡ entry_by (head_of r) (arguments_of r) o
entry_is r o outcome = λ i. record {
  pass = r.head.pass;
  task = r.head.task;
  binder = r.head.binder;
  operands = r.arguments;
  outcome = outcome i;
}
