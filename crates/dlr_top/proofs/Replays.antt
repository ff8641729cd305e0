-- Members after the entries of a journal.
use Rattle.std.proofs.Common.{◌≡◌, ℕ, suc, ◌+◌, ◌<◌, ◌≤◌, List, ◌∷◌, length, take, drop, get_or, slice_get, Option, None, Some, refl, sym, ap, subst, ◌∙◌, drop-cons, take-append-drop}
use Rattle.std.specs.Option.{option_map, option_and_then}
use Rattle.std.specs.Prelude.{IsSome}
use Rattle.dyn_value.specs.declared.value.Value.{Value}
use Rattle.dyn_value.specs.declared.outcome.Outcome.{Outcome}
use Rattle.std.proofs.lemmas.List.{take_more, take_all}
use Rattle.dyn_value.specs.declared.entry.Entry.{Entry}
use Rattle.standard_binders.specs.declared.binder.Binder.{Binder}
use Rattle.object_model.specs.Members.{Members}
use Rattle.object_model.specs.Accesses.{Access, access_of}
use Rattle.object_model.specs.Journals.{IsLegal, entry_step, left_by, members_after, outcome_by}
use Rattle.object_model.specs.Steps.{Step, object_step, step_by}
use Rattle.object_model.proofs.JournalLaws.{after_push, legal_rest}

pub replayed_more : (binders : List Binder) (start before after : Members) (es : List Entry) (i : ℕ) (e : Entry) → i < length es → e ≡ get_or es i e
    → before ≡ members_after binders start (take i es) → after ≡ left_by before (entry_step binders before e)
    → after ≡ members_after binders start (take (i + 1) es)
replayed_more binders start before after es i e h is e1 e2 =
    e2 ∙ ap (λ z. left_by z (entry_step binders z e)) e1
    ∙ ap (λ z. left_by (members_after binders start (take i es)) (entry_step binders (members_after binders start (take i es)) z)) is
    ∙ sym (after_push binders start (take i es) (get_or es i e))
    ∙ ap (members_after binders start) (sym (take_more es i e h))

pub replayed_whole : (binders : List Binder) (start after : Members) (es : List Entry) (i : ℕ) → length es ≤ i
    → after ≡ members_after binders start (take i es) → after ≡ members_after binders start es
replayed_whole binders start after es i h e = e ∙ ap (members_after binders start) (take_all i es h)

stepped : (step : Option Step) (o : Outcome) → outcome_by step ≡ Some o → IsSome step
stepped None o is = cc
stepped (Some s) o is = refl

-- each entry of a legal journal is an operation on the members after those before it
pub replayed_step : (binders : List Binder) (start before : Members) (es : List Entry) (i : ℕ) (e : Entry) → IsLegal binders start es → i < length es → e ≡ get_or es i e
    → before ≡ members_after binders start (take i es) → IsSome (entry_step binders before e)
replayed_step binders start before es i e legal h is e1 =
    let rest : IsLegal binders (members_after binders start (take i es)) (drop i es) =
    legal_rest binders start (take i es) (drop i es) (subst (IsLegal binders start) (sym (take-append-drop i es)) legal) in
    let here : IsLegal binders (members_after binders start (take i es)) (get_or es i e ∷ drop (suc i) es) =
    subst (IsLegal binders (members_after binders start (take i es))) (drop-cons es i e h) rest in
    let found : IsSome (entry_step binders (members_after binders start (take i es)) (get_or es i e)) =
    stepped (entry_step binders (members_after binders start (take i es)) (get_or es i e)) (get_or es i e).outcome here.0 in
    subst (λ (ms : Members). IsSome (entry_step binders ms e)) (sym e1)
    (subst (λ (x : Entry). IsSome (entry_step binders (members_after binders start (take i es)) x)) (sym is) found)

accessed : (access : Option Access) (ms : Members) → IsSome (option_map (λ a. step_by a ms) access) → IsSome access
accessed None ms there = there
accessed (Some a) ms there = refl

-- the binder of such an entry is there, and its operands suit it
pub replayed_binder : (binders : List Binder) (ms : Members) (number : ℕ) (operands : List Value) → slice_get binders number ≡ None
    → IsSome (option_and_then (λ b. object_step ms b operands) (slice_get binders number)) → ⊥
replayed_binder binders ms number operands none there =
    let no : IsSome {T = Step} None = subst (λ (o : Option Binder). IsSome (option_and_then (λ b. object_step ms b operands) o)) none there in cc

pub replayed_access : (binders : List Binder) (ms : Members) (number : ℕ) (operands : List Value) (b : Binder) → slice_get binders number ≡ Some b
    → IsSome (option_and_then (λ b. object_step ms b operands) (slice_get binders number)) → IsSome (access_of b operands)
replayed_access binders ms number operands b is there =
    accessed (access_of b operands) ms (subst (λ (o : Option Binder). IsSome (option_and_then (λ b. object_step ms b operands) o)) is there)

pub replayed_left : (binders : List Binder) (ms new : Members) (number : ℕ) (operands : List Value) (b : Binder) (o : Outcome) → slice_get binders number ≡ Some b
    → object_step ms b operands ≡ Some (record { members = new; outcome = o })
    → new ≡ left_by ms (option_and_then (λ b. object_step ms b operands) (slice_get binders number))
replayed_left binders ms new number operands b o is step =
    sym (ap (λ (x : Option Binder). left_by ms (option_and_then (λ b. object_step ms b operands) x)) is ∙ ap (left_by ms) step)
