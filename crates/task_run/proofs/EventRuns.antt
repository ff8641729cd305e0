-- What a walk did is the run over what it gained.
use Rattle.std.proofs.Common.{◌≡◌, ℕ, Bool, true, false, if◌then◌else◌, ◌&&◌, nat_eq, List, [], ◌∷◌, ◌++◌, drop, length, Option, None, Some, refl, sym, ap, ◌∙◌, subst, append_assoc, append-nil}
use Rattle.std.proofs.lemmas.Bool.{and_from, eqb-true}
use Rattle.std.proofs.lemmas.Bool.Decides.{Decides-eqb, Decides-int_eq}
use Rattle.std.proofs.lemmas.Slice.Eq.{bytes_eq-Decides}
use Rattle.dyn_value.specs.declared.entry.Entry.{Entry}
use Rattle.dyn_value.specs.declared.outcome.Outcome.{Outcome}
use Rattle.dyn_value.specs.declared.value.Value.{Value}
use Rattle.dyn_value.specs.declared.value.Value.TheVariants as value
use Rattle.dyn_value.specs.Operations.{is_same}
use Rattle.standard_binders.specs.declared.binder.Binder.{Binder}
use Rattle.object_model.specs.Plain.{plain_step}
use Rattle.object_model.specs.Steps.{OnObject, on_object}
use Rattle.task_code.specs.Acts.{Act, Ending, Ends, Prints, Asks, Draws}
use Rattle.task_walk.specs.Comings.{Event, Line, Answer, Drawn, Does, Told, after, after_one, asked_in}
use Rattle.task_walk.specs.Tales.{Asked, Teller, asked, entries_after, entry_of, updated}
use Rattle.task_walk.specs.Deeds.{Deeds}
use Rattle.task_run.specs.Events.{CameTo, drawn_in, entries_in, entry_on, gained, lines_in, nothing}
use Rattle.task_run.specs.Stores.{Left, Run, after_asked, are_same, draws_on, first_answers, first_drawn, goes_on, left_objects, number_at, outcome_on, run_over}

same_number : (n : ℕ) → nat_eq n n ≡ true
same_number n = (Decides-eqb n n).1 refl

value_is : (v : Value) → is_same v v ≡ true
value_is value.Nil = refl
value_is (value.Bool true) = refl
value_is (value.Bool false) = refl
value_is (value.Int n) = (Decides-int_eq n n).1 refl
value_is (value.Text t) = (bytes_eq-Decides t t).1 refl
value_is (value.Fun f) = same_number f
value_is (value.Obj o) = same_number o

values_are : (vs : List Value) → are_same vs vs ≡ true
values_are [] = refl
values_are (v ∷ vs) = and_from (is_same v v) (are_same vs vs) (value_is v) (values_are vs)

-- what is left are the events' entries and numbers, and then the rest
pub record IsLeft (by : Teller) (events : List Event) (left rest : Left) : Type 0 where
  pub entries : (object : ℕ) → left.entries object ≡ entries_in by events object ++ rest.entries object
  pub drawn : left.drawn ≡ drawn_in events ++ rest.drawn

abbrev pub Runs : {S A : Type 0} → Teller → Act S A → List Event → Ending A → S → Left → Left → Type 0
Runs by act events ending last left rest =
    CameTo (run_over left_objects by.plan act left) ending last (lines_in events) (asked_in events) rest

-- what is left after the first entry of an object
used_entries : (by : Teller) (site : ℕ) (x : OnObject) (o : Outcome) (left rest : Left) (es : List Event) (object : ℕ) (b : Bool) → nat_eq object x.object ≡ b
    → left.entries object ≡ (if b then entry_of by site x o ∷ [] else []) ++ entries_in by es object ++ rest.entries object
    → (if b then entries_in by es x.object ++ rest.entries x.object else left.entries object) ≡ entries_in by es object ++ rest.entries object
used_entries by site x o left rest es object true at is = ap (λ n. entries_in by es n ++ rest.entries n) (sym (eqb-true object x.object at))
used_entries by site x o left rest es object false at is = is

-- the first entry left of an object is the event's
first_left : (by : Teller) (site : ℕ) (x : OnObject) (o : Outcome) (left rest : Left) (es : List Event) (b : Bool) → b ≡ true
    → left.entries x.object ≡ (if b then entry_of by site x o ∷ [] else []) ++ entries_in by es x.object ++ rest.entries x.object
    → left.entries x.object ≡ entry_of by site x o ∷ (entries_in by es x.object ++ rest.entries x.object)
first_left by site x o left rest es true at is = is
first_left by site x o left rest es false at is = cc

abbrev used : Left → OnObject → List Entry → Left
used left x es = record { entries = updated left.entries x.object es; drawn = left.drawn }

-- that entry answers
answers_first : (answer : Option (Outcome × Left)) (b : Bool) → b ≡ true → (if b then answer else None) ≡ answer
answers_first answer true at = refl
answers_first answer false at = cc

taken : (by : Teller) (site : ℕ) (x : OnObject) (o : Outcome) (left : Left) (es : List Entry) → left.entries x.object ≡ entry_of by site x o ∷ es
    → first_answers left (number_at by.plan site) x (left.entries x.object) ≡ Some (o, used left x es)
taken by site x o left es is =
    ap (first_answers left (number_at by.plan site) x) is
    ∙ answers_first (Some (o, used left x es)) (nat_eq (number_at by.plan site) (number_at by.plan site) && are_same x.operands x.operands)
    (and_from (nat_eq (number_at by.plan site) (number_at by.plan site)) (are_same x.operands x.operands) (same_number (number_at by.plan site)) (values_are x.operands))

-- what the acts after an answer have to do
abbrev GoesOn : {S A : Type 0} → Teller → (Outcome → Act S A) → List Event → Ending A → S → Outcome → Left → Type 0
GoesOn by act es ending last o rest = (left : Left) → IsLeft by es left rest → Runs by (act o) es ending last left rest

asked_more : {S A : Type 0} (a : Asked) (run : Run Left S A) (es : List Event) (ending : Ending A) (last : S) (rest : Left)
    → CameTo run ending last (lines_in es) (asked_in es) rest → CameTo (after_asked a run) ending last (lines_in es) (a ∷ asked_in es) rest
asked_more a run es ending last rest r = record { came = r.came; lines = r.lines; asked = ap (λ z. a ∷ z) r.asked; entries = r.entries; drawn = r.drawn }

target_runs : {S A : Type 0} (by : Teller) (site : ℕ) (b : Binder) (operands : List Value) (act : Outcome → Act S A) (o : Outcome) (es : List Event) (ending : Ending A) (last : S) (left rest : Left)
    (target : Option OnObject) → (target ≡ None → o ≡ plain_step by.plan.functions b operands) → GoesOn by act es ending last o rest
    → ((object : ℕ) → left.entries object ≡ entry_on by site target o object ++ entries_in by es object ++ rest.entries object)
    → left.drawn ≡ drawn_in es ++ rest.drawn
    → CameTo (goes_on (asked site operands) left (λ p store. run_over left_objects by.plan (act p) store) (outcome_on left_objects by.plan target site b operands left))
    ending last (lines_in es) (asked site operands ∷ asked_in es) rest
target_runs by site b operands act o es ending last left rest None suits goes entries drawn =
    subst (λ p. CameTo (after_asked (asked site operands) (run_over left_objects by.plan (act p) left)) ending last (lines_in es) (asked site operands ∷ asked_in es) rest) (suits refl)
    (asked_more (asked site operands) (run_over left_objects by.plan (act o) left) es ending last rest (goes left (record { entries = entries; drawn = drawn })))
target_runs by site b operands act o es ending last left rest (Some x) suits goes entries drawn =
    let more : List Entry = entries_in by es x.object ++ rest.entries x.object in
    let first = first_left by site x o left rest es (nat_eq x.object x.object) (same_number x.object) (entries x.object) in
    subst (λ (p : Option (Outcome × Left)). CameTo (goes_on (asked site operands) left (λ p store. run_over left_objects by.plan (act p) store) p) ending last (lines_in es) (asked site operands ∷ asked_in es) rest)
    (sym (taken by site x o left more first))
    (asked_more (asked site operands) (run_over left_objects by.plan (act o) (used left x more)) es ending last rest
    (goes (used left x more) (record { entries = λ object. used_entries by site x o left rest es object (nat_eq object x.object) refl (entries object); drawn = drawn })))

-- the three parts of an event as those of the act
as_asked : (P : ℕ → Binder → List Value → Type 0) (site t : ℕ) (b c : Binder) (operands vs : List Value) → t ≡ site → c ≡ b → vs ≡ operands → P site b operands → P t c vs
as_asked P site t b c operands vs e f g p = subst (λ z. P z c vs) (sym e) (subst (λ z. P site z vs) (sym f) (subst (λ z. P site b z) (sym g) p))

-- The act over what the events leave behind does what they say.
pub does_runs : {S A : Type 0} (by : Teller) (act : Act S A) (events : List Event) (ending : Ending A) (last : S) (left rest : Left)
    → Does by.plan act events ending last → IsLeft by events left rest → Runs by act events ending last left rest
does_runs by (Ends e s) [] ending last left rest does is =
    record { came = λ i. Some (sym does.0 i, sym does.1 i); lines = refl; asked = refl; entries = is.entries; drawn = is.drawn }
does_runs by (Prints line act) (Line l ∷ es) ending last left rest does is =
    let r = does_runs by act es ending last left rest does.1 (record { entries = is.entries; drawn = is.drawn }) in
    record { came = r.came; lines = λ i. sym does.0 i ∷ r.lines i; asked = r.asked; entries = r.entries; drawn = r.drawn }
does_runs by (Asks site b operands act) (Answer t c vs o ∷ es) ending last left rest does is =
    as_asked (λ t c vs. IsLeft by (Answer t c vs o ∷ es) left rest → Runs by (Asks site b operands act) (Answer t c vs o ∷ es) ending last left rest)
    site t b c operands vs does.0 does.1 does.2
    (λ here. target_runs by site b operands act o es ending last left rest (on_object b operands) does.3
    (λ left more. does_runs by (act o) es ending last left rest does.4 more)
    here.entries here.drawn) is
does_runs by (Draws act) (Drawn n ∷ es) ending last left rest does is =
    let after : Left = record { entries = left.entries; drawn = drawn_in es ++ rest.drawn } in
    let r = does_runs by (act n) es ending last after rest does (record { entries = is.entries; drawn = refl }) in
    subst (λ (ns : List ℕ). CameTo (draws_on left (λ m store. run_over left_objects by.plan (act m) store) (first_drawn left ns)) ending last (lines_in es) (asked_in es) rest) (sym is.drawn) r
does_runs by _ _ ending last left rest does is = absurd does

-- what the events add to what a world tells and to the lines
pub after_entries : (events : List Event) (m : Told) (object : ℕ) → (after events m).world.entries object ≡ m.world.entries object ++ entries_in m.world.by events object
after_entries [] m object = sym (append-nil (m.world.entries object))
after_entries (Line line ∷ es) m object = after_entries es (after_one (Line line) m) object
after_entries (Drawn n ∷ es) m object = after_entries es (after_one (Drawn n) m) object
after_entries (Answer site b operands o ∷ es) m object =
    after_entries es (after_one (Answer site b operands o) m) object
    ∙ ap (λ z. z ++ entries_in m.world.by es object) (on_target m.world.by site (on_object b operands) o m.world.entries object)
    ∙ append_assoc (m.world.entries object) (entry_on m.world.by site (on_object b operands) o object) (entries_in m.world.by es object)
  where
    at_object : (by : Teller) (site : ℕ) (x : OnObject) (o : Outcome) (entries : ℕ → List Entry) (object : ℕ) (c : Bool) → nat_eq object x.object ≡ c
        → (if c then entries x.object ++ entry_of by site x o ∷ [] else entries object) ≡ entries object ++ (if c then entry_of by site x o ∷ [] else [])
    at_object by site x o entries object true at = ap (λ n. entries n ++ entry_of by site x o ∷ []) (sym (eqb-true object x.object at))
    at_object by site x o entries object false at = sym (append-nil (entries object))

    on_target : (by : Teller) (site : ℕ) (target : Option OnObject) (o : Outcome) (entries : ℕ → List Entry) (object : ℕ)
        → entries_after by site target o entries object ≡ entries object ++ entry_on by site target o object
    on_target by site None o entries object = sym (append-nil (entries object))
    on_target by site (Some x) o entries object = at_object by site x o entries object (nat_eq object x.object) refl

pub after_drawn : (events : List Event) (m : Told) → (after events m).world.drawn ≡ m.world.drawn ++ drawn_in events
after_drawn [] m = sym (append-nil m.world.drawn)
after_drawn (Line line ∷ es) m = after_drawn es (after_one (Line line) m)
after_drawn (Answer site b operands o ∷ es) m = after_drawn es (after_one (Answer site b operands o) m)
after_drawn (Drawn n ∷ es) m = after_drawn es (after_one (Drawn n) m) ∙ append_assoc m.world.drawn (n ∷ []) (drawn_in es)

pub after_lines : (events : List Event) (m : Told) → (after events m).lines ≡ m.lines ++ lines_in events
after_lines [] m = sym (append-nil m.lines)
after_lines (Line line ∷ es) m = after_lines es (after_one (Line line) m) ∙ append_assoc m.lines (line ∷ []) (lines_in es)
after_lines (Answer site b operands o ∷ es) m = after_lines es (after_one (Answer site b operands o) m)
after_lines (Drawn n ∷ es) m = after_lines es (after_one (Drawn n) m)

pub after_by : (events : List Event) (m : Told) → (after events m).world.by ≡ m.world.by
after_by [] m = refl
after_by (Line line ∷ es) m = after_by es (after_one (Line line) m)
after_by (Answer site b operands o ∷ es) m = after_by es (after_one (Answer site b operands o) m)
after_by (Drawn n ∷ es) m = after_by es (after_one (Drawn n) m)

pub dropped : {A : Type 0} (xs ys : List A) → drop (length xs) (xs ++ ys) ≡ ys
dropped [] ys = refl
dropped (x ∷ xs) ys = dropped xs ys

-- What a world gained by a walk is what the walk's act uses up.
pub gained_runs : {S A : Type 0} (act : Act S A) (events : List Event) (ending : Ending A) (last : S) (old new : Told)
    → Does old.world.by.plan act events ending last → new ≡ after events old
    → Runs old.world.by act events ending last (gained old.world new.world) nothing
gained_runs act events ending last old new does is =
    does_runs old.world.by act events ending last (gained old.world new.world) nothing does (record {
      entries = λ object. ap (λ (m : Told). drop (length (old.world.entries object)) (m.world.entries object)) is
          ∙ ap (drop (length (old.world.entries object))) (after_entries events old object)
          ∙ dropped (old.world.entries object) (entries_in old.world.by events object) ∙ sym (append-nil (entries_in old.world.by events object));
      drawn = ap (λ (m : Told). drop (length old.world.drawn) m.world.drawn) is ∙ ap (drop (length old.world.drawn)) (after_drawn events old)
          ∙ dropped old.world.drawn (drawn_in events) ∙ sym (append-nil (drawn_in events));
    })

-- the same of a task's acts, whose last value and state are let go
pub deeds_run : (deeds : Deeds) (events : List Event) (ending : Ending (Unit {0})) (old new : Told)
    → Does old.world.by.plan deeds events ending tt → new ≡ after events old
    → CameTo (run_over left_objects old.world.by.plan deeds (gained old.world new.world)) ending tt (lines_in events) (asked_in events) nothing
deeds_run deeds events ending old new does is = gained_runs deeds events ending tt old new does is
