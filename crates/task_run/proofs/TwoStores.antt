-- A run over what is left of a task's entries is the run over the objects' journals, which those entries extend.
use Rattle.std.proofs.Common.{◌≡◌, ◌≢◌, ℕ, ◌+◌, Bool, true, false, if◌then◌else◌, ◌&&◌, nat_eq, List, [], ◌∷◌, ◌++◌, length, Option, None, Some, refl, sym, ap, ◌∙◌, subst, append_assoc, arith}
use Rattle.std.proofs.lemmas.Bool.{and_parts, eqb-true}
use Rattle.std.proofs.lemmas.Bool.Decides.{Decides-int_eq}
use Rattle.std.proofs.lemmas.Slice.Eq.{bytes_eq-Decides}
use Rattle.dyn_value.specs.declared.value.Value.TheVariants as value
use Rattle.dyn_value.specs.Operations.{is_same}
use Rattle.std.specs.List.{AllByRecursion}
use Rattle.std.specs.Option.{option_map}
use Rattle.dyn_value.specs.declared.entry.Entry.{Entry}
use Rattle.dyn_value.specs.declared.outcome.Outcome.{Outcome}
use Rattle.dyn_value.specs.declared.value.Value.{Value}
use Rattle.standard_binders.specs.declared.binder.Binder.{Binder}
use Rattle.object_model.proofs.JournalLaws.{after-append}
use Rattle.object_model.specs.Journals.{IsLegal, members_after, outcome_by, step_of}
use Rattle.object_model.specs.Members.{Members}
use Rattle.object_model.specs.Plain.{plain_step}
use Rattle.object_model.specs.Steps.{Step, OnObject, on_object}
use Rattle.task_code.specs.Acts.{Act, Ends, Prints, Asks, Draws}
use Rattle.task_code.specs.Codes.{Plan}
use Rattle.task_walk.specs.Tales.{Asked, Teller, updated}
use Rattle.task_run.specs.Stores.{IsToldBy, AreFrom, Follows, AreAlike, Run, Left, Journals, entry_made, with_entry, are_same, first_answers, first_drawn, goes_on, draws_on, outcome_on, number_at, after_asked, left_objects, journal_objects, run_over}

same_value : (v w : Value) → is_same v w ≡ true → v ≡ w
same_value value.Nil value.Nil h = refl
same_value (value.Bool true) (value.Bool b) h = ap value.Bool (sym h)
same_value (value.Bool false) (value.Bool false) h = refl
same_value (value.Int a) (value.Int b) h = ap value.Int ((Decides-int_eq a b).0 h)
same_value (value.Text s) (value.Text t) h = ap value.Text ((bytes_eq-Decides s t).0 h)
same_value (value.Fun f) (value.Fun g) h = ap value.Fun (eqb-true f g h)
same_value (value.Obj o) (value.Obj p) h = ap value.Obj (eqb-true o p h)
same_value _ _ h = cc

same_values : (vs ws : List Value) → are_same vs ws ≡ true → vs ≡ ws
same_values [] [] h = refl
same_values (v ∷ vs) (w ∷ ws) h = let parts = and_parts (is_same v w) (are_same vs ws) h in cc (same_value v w parts.0, same_values vs ws parts.1)
same_values _ _ h = cc

same_entry : (e f : Entry) → e.pass ≡ f.pass → e.task ≡ f.task → e.binder ≡ f.binder → e.operands ≡ f.operands → e.outcome ≡ f.outcome → e ≡ f
same_entry e f pass task binder operands outcome = λ i. record { pass = pass i; task = task i; binder = binder i; operands = operands i; outcome = outcome i }

-- the members of an object after its journal
abbrev members_of : Teller → Journals → OnObject → Members
members_of teller journals x = members_after teller.plan.binders [] (journals.entries x.object)

-- the object's first entry left is used up
abbrev used : Left → OnObject → List Entry → Left
used left x es = record { entries = updated left.entries x.object es; drawn = left.drawn }

-- what is made of the outcome of a step, where the step has this one
of_outcome : {A : Type 0} (step : Option Step) (o : Outcome) (make : Outcome → A) → outcome_by step ≡ Some o → option_map (λ s. make s.outcome) step ≡ Some (make o)
of_outcome None o make is = cc
of_outcome (Some s) o make is = let same : s.outcome ≡ o = cc in ap (λ p. Some (make p)) same

-- the step over the journals has the outcome of the first entry left
first_gives : (teller : Teller) (number : ℕ) (x : OnObject) (left : Left) (journals : Journals) (e : Entry) (es : List Entry) → Follows teller left journals → left.entries x.object ≡ e ∷ es
    → e.binder ≡ number → e.operands ≡ x.operands → outcome_by (step_of teller.plan.binders (members_of teller journals x) number x.operands) ≡ Some e.outcome
first_gives teller number x left journals e es follows is binder operands =
    let legal : IsLegal teller.plan.binders (members_of teller journals x) (e ∷ es) = subst (IsLegal teller.plan.binders (members_of teller journals x)) is (follows.legal x.object) in
    ap (λ (n : ℕ). outcome_by (step_of teller.plan.binders (members_of teller journals x) n x.operands)) (sym binder)
    ∙ ap (λ (vs : List Value). outcome_by (step_of teller.plan.binders (members_of teller journals x) e.binder vs)) (sym operands) ∙ legal.0

first_is : (teller : Teller) (number : ℕ) (x : OnObject) (left : Left) (journals : Journals) (e : Entry) (es : List Entry) → Follows teller left journals → left.entries x.object ≡ e ∷ es
    → e.binder ≡ number → e.operands ≡ x.operands → entry_made teller number x e.outcome ≡ e
first_is teller number x left journals e es follows is binder operands =
    let told : AllByRecursion (IsToldBy teller) (e ∷ es) = subst (AllByRecursion (IsToldBy teller)) is (follows.told x.object) in
    same_entry (entry_made teller number x e.outcome) e (sym told.0.0) (sym told.0.1) (sym binder) (sym operands) refl

-- the journals give the first entry left, and take it
first_taken : (teller : Teller) (number : ℕ) (binder : Binder) (x : OnObject) (left : Left) (journals : Journals) (e : Entry) (es : List Entry) → Follows teller left journals → left.entries x.object ≡ e ∷ es
    → e.binder ≡ number → e.operands ≡ x.operands → (journal_objects teller).operate journals number binder x ≡ Some (e.outcome, with_entry journals x e)
first_taken teller number binder x left journals e es follows is numbered operands =
    of_outcome (step_of teller.plan.binders (members_of teller journals x) number x.operands) e.outcome (λ o. (o, with_entry journals x (entry_made teller number x o)))
    (first_gives teller number x left journals e es follows is numbered operands)
    ∙ ap (λ (f : Entry). Some (e.outcome, with_entry journals x f)) (first_is teller number x left journals e es follows is numbered operands)

legal_at : (teller : Teller) (x : OnObject) (left : Left) (journals : Journals) (e : Entry) (es : List Entry) (object : ℕ) (b : Bool) → Follows teller left journals → left.entries x.object ≡ e ∷ es
    → IsLegal teller.plan.binders (members_after teller.plan.binders [] (if b then journals.entries x.object ++ e ∷ [] else journals.entries object)) (if b then es else left.entries object)
legal_at teller x left journals e es object true follows is =
    let legal : IsLegal teller.plan.binders (members_of teller journals x) (e ∷ es) = subst (IsLegal teller.plan.binders (members_of teller journals x)) is (follows.legal x.object) in
    subst (λ ms. IsLegal teller.plan.binders ms es) (sym (after-append teller.plan.binders [] (journals.entries x.object) (e ∷ []))) legal.1
legal_at teller x left journals e es object false follows is = follows.legal object

told_at : (teller : Teller) (x : OnObject) (left : Left) (journals : Journals) (e : Entry) (es : List Entry) (object : ℕ) (b : Bool) → Follows teller left journals → left.entries x.object ≡ e ∷ es
    → AllByRecursion (IsToldBy teller) (if b then es else left.entries object)
told_at teller x left journals e es object true follows is = (subst (AllByRecursion (IsToldBy teller)) is (follows.told x.object)).1
told_at teller x left journals e es object false follows is = follows.told object

follows_on : (teller : Teller) (x : OnObject) (left : Left) (journals : Journals) (e : Entry) (es : List Entry) → Follows teller left journals → left.entries x.object ≡ e ∷ es
    → Follows teller (used left x es) (with_entry journals x e)
follows_on teller x left journals e es follows is = record {
  legal = λ object. legal_at teller x left journals e es object (nat_eq object x.object) follows is;
  told = λ object. told_at teller x left journals e es object (nat_eq object x.object) follows is;
  drawn = follows.drawn;
}

joined_at : (x : OnObject) (left : Left) (journals : Journals) (e : Entry) (es : List Entry) (object : ℕ) (b : Bool) → nat_eq object x.object ≡ b → left.entries x.object ≡ e ∷ es
    → (if b then journals.entries x.object ++ e ∷ [] else journals.entries object) ++ (if b then es else left.entries object) ≡ journals.entries object ++ left.entries object
joined_at x left journals e es object true same is =
    append_assoc (journals.entries x.object) (e ∷ []) es ∙ ap (λ ys. journals.entries x.object ++ ys) (sym is)
    ∙ ap (λ n. journals.entries n ++ left.entries n) (sym (eqb-true object x.object same))
joined_at x left journals e es object false same is = refl

-- what a run needs of the acts that go on by an outcome
abbrev GoesAlike : {S A : Type 0} → Teller → (Outcome → Left → Run Left S A) → (Outcome → Journals → Run Journals S A) → Type 0
GoesAlike teller one two = (o : Outcome) (left : Left) (journals : Journals) → Follows teller left journals → (one o left).came ≢ None → AreAlike (one o left) (two o journals) left journals

used_alike : {S A : Type 0} (teller : Teller) (a : Asked) (number : ℕ) (binder : Binder) (x : OnObject) (left : Left) (journals : Journals) (e : Entry) (es : List Entry)
    (one : Outcome → Left → Run Left S A) (two : Outcome → Journals → Run Journals S A) → GoesAlike teller one two → Follows teller left journals → left.entries x.object ≡ e ∷ es
    → e.binder ≡ number → e.operands ≡ x.operands → (one e.outcome (used left x es)).came ≢ None
    → AreAlike (after_asked a (one e.outcome (used left x es))) (goes_on a journals two ((journal_objects teller).operate journals number binder x)) left journals
used_alike teller a number binder x left journals e es one two alike follows is numbered operands more =
    let r = alike e.outcome (used left x es) (with_entry journals x e) (follows_on teller x left journals e es follows is) more in
    let all : AreAlike (after_asked a (one e.outcome (used left x es))) (after_asked a (two e.outcome (with_entry journals x e))) left journals = record {
      came = r.came;
      lines = r.lines;
      asked = ap (λ rest. a ∷ rest) r.asked;
      entries = λ object. r.entries object ∙ joined_at x left journals e es object (nat_eq object x.object) refl is;
      next = r.next;
    } in
    subst (λ (o : Option (Outcome × Journals)). AreAlike (after_asked a (one e.outcome (used left x es))) (goes_on a journals two o) left journals)
    (sym (first_taken teller number binder x left journals e es follows is numbered operands)) all

first_alike : {S A : Type 0} (teller : Teller) (a : Asked) (number : ℕ) (binder : Binder) (x : OnObject) (left : Left) (journals : Journals) (e : Entry) (es : List Entry) (b : Bool)
    (one : Outcome → Left → Run Left S A) (two : Outcome → Journals → Run Journals S A) → GoesAlike teller one two → Follows teller left journals → left.entries x.object ≡ e ∷ es
    → (nat_eq e.binder number && are_same e.operands x.operands) ≡ b
    → (goes_on a left one (if b then Some (e.outcome, used left x es) else None)).came ≢ None
    → AreAlike (goes_on a left one (if b then Some (e.outcome, used left x es) else None)) (goes_on a journals two ((journal_objects teller).operate journals number binder x)) left journals
first_alike teller a number binder x left journals e es true one two alike follows is test more =
    let parts = and_parts (nat_eq e.binder number) (are_same e.operands x.operands) test in
    used_alike teller a number binder x left journals e es one two alike follows is (eqb-true e.binder number parts.0) (same_values e.operands x.operands parts.1) more
first_alike teller a number binder x left journals e es false one two alike follows is test more = absurd (more refl)

entries_alike : {S A : Type 0} (teller : Teller) (a : Asked) (number : ℕ) (binder : Binder) (x : OnObject) (left : Left) (journals : Journals) (es : List Entry)
    (one : Outcome → Left → Run Left S A) (two : Outcome → Journals → Run Journals S A) → GoesAlike teller one two → Follows teller left journals → left.entries x.object ≡ es
    → (goes_on a left one (first_answers left number x es)).came ≢ None
    → AreAlike (goes_on a left one (first_answers left number x es)) (goes_on a journals two ((journal_objects teller).operate journals number binder x)) left journals
entries_alike teller a number binder x left journals [] one two alike follows is more = absurd (more refl)
entries_alike teller a number binder x left journals (e ∷ es) one two alike follows is more =
    first_alike teller a number binder x left journals e es (nat_eq e.binder number && are_same e.operands x.operands) one two alike follows is refl more

asked_alike : {S A : Type 0} (teller : Teller) (plan : Plan) (a : Asked) (site : ℕ) (binder : Binder) (operands : List Value) (left : Left) (journals : Journals) (target : Option OnObject)
    (one : Outcome → Left → Run Left S A) (two : Outcome → Journals → Run Journals S A) → GoesAlike teller one two → Follows teller left journals
    → (goes_on a left one (outcome_on left_objects plan target site binder operands left)).came ≢ None
    → AreAlike (goes_on a left one (outcome_on left_objects plan target site binder operands left)) (goes_on a journals two (outcome_on (journal_objects teller) plan target site binder operands journals)) left journals
asked_alike teller plan a site binder operands left journals None one two alike follows more =
    let r = alike (plain_step plan.functions binder operands) left journals follows more in
    record { came = r.came; lines = r.lines; asked = ap (λ rest. a ∷ rest) r.asked; entries = r.entries; next = r.next }
asked_alike teller plan a site binder operands left journals (Some x) one two alike follows more =
    entries_alike teller a (number_at plan site) binder x left journals (left.entries x.object) one two alike follows refl more

drawn_alike : {S A : Type 0} (teller : Teller) (left : Left) (journals : Journals) (ns : List ℕ)
    (one : ℕ → Left → Run Left S A) (two : ℕ → Journals → Run Journals S A)
    → ((n : ℕ) (left : Left) (journals : Journals) → Follows teller left journals → (one n left).came ≢ None → AreAlike (one n left) (two n journals) left journals)
    → Follows teller left journals → left.drawn ≡ ns → (draws_on left one (first_drawn left ns)).came ≢ None
    → AreAlike (draws_on left one (first_drawn left ns)) (draws_on journals two ((journal_objects teller).draw journals)) left journals
drawn_alike teller left journals [] one two alike follows is more = absurd (more refl)
drawn_alike teller left journals (n ∷ ns) one two alike follows is more =
    let from : AreFrom journals.next (n ∷ ns) = subst (AreFrom journals.next) is follows.drawn in
    let rest : Left = record { entries = left.entries; drawn = ns } in
    let on : Journals = record { entries = journals.entries; next = journals.next + 1 } in
    let goes : Follows teller rest on = record { legal = follows.legal; told = follows.told; drawn = from.1 } in
    let r = alike n rest on goes more in
    let all : AreAlike (one n rest) (two n on) left journals = record { came = r.came; lines = r.lines; asked = r.asked; entries = r.entries; next = omega (arith, r.next, ap length is) } in
    subst (λ k. AreAlike (one n rest) (two k on) left journals) from.0 all

-- A run over what is left of entries and numbers, which go on legally where the journals end, is the run over the
-- journals, and these take what it used up.
pub two_stores : {S A : Type 0} (teller : Teller) (plan : Plan) (act : Act S A) (left : Left) (journals : Journals) → Follows teller left journals
    → (run_over left_objects plan act left).came ≢ None
    → AreAlike (run_over left_objects plan act left) (run_over (journal_objects teller) plan act journals) left journals
two_stores teller plan (Ends ending s) left journals follows more = record { came = refl; lines = refl; asked = refl; entries = λ object. refl; next = refl }
two_stores teller plan (Prints line act) left journals follows more =
    let r = two_stores teller plan act left journals follows more in
    record { came = r.came; lines = ap (λ ls. line ∷ ls) r.lines; asked = r.asked; entries = r.entries; next = r.next }
two_stores teller plan (Asks site binder operands act) left journals follows more =
    asked_alike teller plan (record { site = site; operands = operands }) site binder operands left journals (on_object binder operands)
    (λ o store. run_over left_objects plan (act o) store) (λ o store. run_over (journal_objects teller) plan (act o) store)
    (λ o left journals follows more. two_stores teller plan (act o) left journals follows more) follows more
two_stores teller plan (Draws act) left journals follows more =
    drawn_alike teller left journals left.drawn
    (λ n store. run_over left_objects plan (act n) store) (λ n store. run_over (journal_objects teller) plan (act n) store)
    (λ n left journals follows more. two_stores teller plan (act n) left journals follows more) follows refl more
