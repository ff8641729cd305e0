-- Small runs over each form of store.
use Rattle.std.proofs.Common.{◌≡◌, [], ◌∷◌, None, Some, refl, pos, false}
use Rattle.dyn_value.specs.declared.entry.Entry.{Entry}
use Rattle.dyn_value.specs.declared.fault.Fault.TheVariants.{NoMember}
use Rattle.dyn_value.specs.declared.outcome.Outcome.TheVariants as outcome
use Rattle.dyn_value.specs.declared.value.Value.TheVariants as value
use Rattle.standard_binders.specs.declared.binder.Binder.TheVariants.{GetMember, SetMember}
use Rattle.task_code.specs.Acts.{Prints, Asks, Draws, answered}
use Rattle.task_code.specs.Codes.{Plan}
use Rattle.task_walk.specs.Tales.{Teller}
use Rattle.task_walk.specs.declared.ended.Ended.TheVariants as ended
use Rattle.task_walk.specs.Deeds.{Deeds, deeds_of, ended_of}
use Rattle.task_run.specs.Stores.{Left, Journals, left_objects, journal_objects, run_over}

plan : Plan
plan = record { binders = SetMember (7 ∷ []) false ∷ GetMember (8 ∷ []) false ∷ []; sites = 0 ∷ 1 ∷ []; functions = [] }

teller : Teller
teller = record {
  plan = record { binders = SetMember (7 ∷ []) false ∷ GetMember (8 ∷ []) false ∷ []; sites = 0 ∷ 1 ∷ []; functions = [] };
  pass = 0;
  task = 2;
  limit = 10;
}

-- a member is set, another is read that is not there, and a number is drawn
sets_and_reads : Deeds
sets_and_reads = Asks 0 (SetMember (7 ∷ []) false) (value.Obj 1 ∷ value.Int (pos 4) ∷ []) (λ _.
    Draws (λ n. Prints (n ∷ []) (deeds_of (Asks 1 (GetMember (8 ∷ []) false) (value.Obj 1 ∷ []) (answered (tt {0}))))))

empty : Journals
empty = record { entries = λ _. []; next = 9 }

set_entry : Entry
set_entry = record { pass = 0; task = 2; binder = 0; operands = value.Int (pos 4) ∷ []; outcome = outcome.Value value.Nil }

read_entry : Entry
read_entry = record { pass = 0; task = 2; binder = 1; operands = []; outcome = outcome.Fault (NoMember (8 ∷ [])) }

journal : (run_over (journal_objects teller) plan sets_and_reads empty).store.entries 1 ≡ set_entry ∷ read_entry ∷ []
unfolding plan teller sets_and_reads empty set_entry read_entry
journal = refl

other_journal : (run_over (journal_objects teller) plan sets_and_reads empty).store.entries 0 ≡ []
unfolding plan teller sets_and_reads empty
other_journal = refl

faulted : ended_of (run_over (journal_objects teller) plan sets_and_reads empty).came ≡ Some (ended.Faulted (NoMember (8 ∷ [])))
unfolding plan teller sets_and_reads empty
faulted = refl

printed : (run_over (journal_objects teller) plan sets_and_reads empty).lines ≡ (9 ∷ []) ∷ []
unfolding plan teller sets_and_reads empty
printed = refl

left : Left
left = record { entries = λ _. set_entry ∷ []; drawn = 9 ∷ [] }

-- over fewer entries the run has no answer
too_few : (run_over left_objects plan sets_and_reads left).came ≡ None
unfolding plan sets_and_reads left set_entry
too_few = refl
