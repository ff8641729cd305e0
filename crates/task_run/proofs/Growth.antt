-- What a walk did is added.
use Rattle.std.proofs.Common.{◌≡◌, ℕ, Bool, true, false, if◌then◌else◌, nat_eq, List, [], ◌∷◌, ◌++◌, drop, length, Option, None, Some, refl, sym, ap, ◌∙◌, subst}
use Rattle.std.specs.List.{AllByRecursion}
use Rattle.dyn_value.specs.declared.entry.Entry.{Entry}
use Rattle.dyn_value.specs.declared.outcome.Outcome.{Outcome}
use Rattle.object_model.specs.Steps.{OnObject, on_object}
use Rattle.task_walk.specs.Comings.{Event, Line, Answer, Drawn, Told, after}
use Rattle.task_walk.specs.Tales.{Teller, entry_of}
use Rattle.task_run.specs.Events.{Grew, drawn_in, entries_in, entry_on, lines_in}
use Rattle.task_run.specs.Stores.{IsToldBy}
use Rattle.task_run.proofs.EventRuns.{after_by, after_drawn, after_entries, after_lines, dropped}

told_both : (by : Teller) (es more : List Entry) → AllByRecursion (IsToldBy by) es → AllByRecursion (IsToldBy by) more → AllByRecursion (IsToldBy by) (es ++ more)
told_both by [] more one two = two
told_both by (e ∷ es) more one two = (one.0, told_both by es more one.1 two)

told_where : (by : Teller) (site : ℕ) (x : OnObject) (o : Outcome) (here : Bool) → AllByRecursion (IsToldBy by) (if here then entry_of by site x o ∷ [] else [])
told_where by site x o true = ((refl, refl), tt)
told_where by site x o false = tt

told_on : (by : Teller) (site : ℕ) (target : Option OnObject) (o : Outcome) (object : ℕ) → AllByRecursion (IsToldBy by) (entry_on by site target o object)
told_on by site None o object = tt
told_on by site (Some x) o object = told_where by site x o (nat_eq object x.object)

-- the entries of events have their world's pass and task
told_in : (by : Teller) (events : List Event) (object : ℕ) → AllByRecursion (IsToldBy by) (entries_in by events object)
told_in by [] object = tt
told_in by (Line line ∷ es) object = told_in by es object
told_in by (Drawn n ∷ es) object = told_in by es object
told_in by (Answer site b operands o ∷ es) object =
    told_both by (entry_on by site (on_object b operands) o object) (entries_in by es object) (told_on by site (on_object b operands) o object) (told_in by es object)

pub lines_grow : (events : List Event) (old new : Told) → new ≡ after events old → new.lines ≡ old.lines ++ lines_in events
lines_grow events old new is = ap (λ (m : Told). m.lines) is ∙ after_lines events old

pub events_grow : (events : List Event) (old new : Told) → new ≡ after events old → Grew old new
events_grow events old new is = record {
  by = ap (λ (m : Told). m.world.by) is ∙ after_by events old;
  entries = λ object. (entries_in old.world.by events object, ap (λ (m : Told). m.world.entries object) is ∙ after_entries events old object);
  told = λ object. subst (AllByRecursion (IsToldBy old.world.by))
      (sym (ap (λ (m : Told). drop (length (old.world.entries object)) (m.world.entries object)) is
      ∙ ap (drop (length (old.world.entries object))) (after_entries events old object)
      ∙ dropped (old.world.entries object) (entries_in old.world.by events object)))
      (told_in old.world.by events object);
  drawn = (drawn_in events, ap (λ (m : Told). m.world.drawn) is ∙ after_drawn events old);
  lines = (lines_in events, lines_grow events old new is);
}
