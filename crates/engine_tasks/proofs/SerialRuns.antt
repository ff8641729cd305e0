-- Tasks that run one after the other in one pass.
use Rattle.std.proofs.Common.{◌≡◌, ◌≢◌, ℕ, zero, suc, ◌+◌, ◌<◌, true, if◌then◌else◌, List, [], ◌∷◌, ◌++◌, drop, get_or, length, map, slice_get, flat_map, Option, None, Some, refl, sym, ◌∙◌, ap, subst, arith, append-nil, length-append, ◌⊎◌, inl, inr}
use Rattle.std.specs.List.{AllByRecursion, filter, range_with_len}
use Rattle.std.specs.List.Sorted.{IsPermutation, IsStrictlyIncreasing}
use Rattle.std.proofs.lemmas.Bool.{cases_lt}
use Rattle.std.proofs.lemmas.Grind.{flat_map-append}
use Rattle.std.proofs.lemmas.List.{drop_at, get_or_past}
use Rattle.std.proofs.lemmas.List.Elements.{filter-append}
use Rattle.std.proofs.lemmas.List.FromFn.{get_or-range_with_len, length-range_with_len}
use Rattle.std.proofs.lemmas.List.Sorted.{IsPermutation-refl}
use Rattle.std.proofs.lemmas.Option.{slice_get_within}
use Rattle.dyn_value.specs.declared.entry.Entry.{Entry}
use Rattle.object_model.specs.Journals.{IsLegal}
use Rattle.object_model.proofs.JournalLaws.{legal_first, legal_rest}
use Rattle.command_words.specs.declared.words.Options.{Options}
use Rattle.script_program.specs.declared.program.Program.{Program}
use Rattle.script_program.specs.Plans.{plan_of}
use Rattle.script_program.specs.Programs.{binders_of, script_of}
use Rattle.task_code.specs.Acts.{Ending}
use Rattle.task_walk.specs.declared.ended.Ended.{Ended}
use Rattle.task_walk.specs.Deeds.{ended_of}
use Rattle.task_run.specs.Stores.{AreAlike, AreFrom, IsToldBy, Journals, Left}
use Rattle.task_run.proofs.TwoStores.{two_stores}
use Rattle.program_run.specs.TaskRuns.{IsRun, acts_of, run_of}
use Rattle.dlr_engine.specs.declared.closed.Closed.{Closed}
use Rattle.dlr_engine.specs.declared.pass.Pass.{Pass}
use Rattle.dlr_engine.specs.Closing.{journals_in, levels_in}
use Rattle.dlr_engine.specs.Levels.{total}
use Rattle.dlr_engine.specs.Passes.{IsNew, levels_of, numbers_of}
use Rattle.engine_tasks.specs.declared.report.Report.{Report}
use Rattle.engine_tasks.specs.declared.report.TaskEnd.{TaskEnd}
use Rattle.engine_tasks.specs.Lawful.{AreSerial, Ends, IsLawful, IsOwned, IsSerial, asked_from, drawn_by, is_of_task, journal_at, journal_run, left_of, limit_of, none_yet, teller_of}
use Rattle.engine_tasks.specs.Passes.{made_below}
use Rattle.engine_tasks.specs.TaskRuns.{AreRun, AreRunIn, HasClosed, HasPlainNumbers, IsEarly, IsLegalPass, Ran, gained_by, store_of}
use Rattle.engine_tasks.proofs.Entries.{filter_early, filter_other, filter_own, made_alone, made_nothing, made_past, made_within}
use Rattle.engine_tasks.proofs.Counts.{asked_alike, asked_more, asks_over}

-- what stands in a grown list stood there before, or is the new one at its end
grown_got : {A : Type 0} (bs : List A) (x b : A) (n : ℕ) → slice_get (bs ++ x ∷ []) n ≡ Some b
    → (slice_get bs n ≡ Some b) ⊎ ((n ≡ length bs) × (x ≡ b))
grown_got [] x b zero e = inr (refl, cc)
grown_got [] x b (suc n) e = absurd (cc)
grown_got (c ∷ bs) x b zero e = inl e
grown_got (c ∷ bs) x b (suc n) e =
    elim (grown_got bs x b n e) [ inl h ↦ inl h | inr h ↦ inr (omega (arith, h.0), h.1) ]

abbrev shared_count : Program → ℕ
shared_count program = length (script_of program).shared

-- what a pass made of an object's entries
abbrev entries_of : Program → Options → Pass → ℕ → List Entry
entries_of program options p = made_below (limit_of program options) p

-- what a task gained in the one pass
abbrev gains : Program → Options → ℕ → Pass → Pass → Left
gains program options task old new = gained_by (teller_of program options 0 task) old new

abbrev more_of : Program → Options → ℕ → Pass → Pass → ℕ → List Entry
more_of program options task old new object = (gains program options task old new).entries object

-- nothing is run yet
pub none_run : (program : Program) (options : Options) (p : Pass) → IsNew p → AreRunIn program options 0 [] p
none_run program options p new legal =
    let empty : (object : ℕ) → entries_of program options p object ≡ [] = made_nothing (limit_of program options) p new in
    let none : numbers_of p ≡ [] = ap (map _) new.drawn in
    record {
      count = refl;
      ends_are = λ t end at. cc;
      early = λ object. subst (AllByRecursion (IsEarly 0)) (sym (empty object)) tt;
      numbers = sym none;
      rising = λ t end at. cc;
      serial = (let count : shared_count program ≡ shared_count program + length (numbers_of p) = omega (arith, ap length none) in
          λ i. record { entries = λ object. sym (empty object) i; next = count i });
      counted = new.levels;
    }

-- what came after the old part of a list
more_is : {A : Type 0} (old more new : List A) → new ≡ old ++ more → drop (length old) new ≡ more
more_is old more new is = ap (drop (length old)) is ∙ drop_at old more (length old) refl

grown_by : {A : Type 0} (old new more : List A) → new ≡ old ++ more → new ≡ old ++ drop (length old) new
grown_by old new more is = is ∙ ap (λ z. old ++ z) (sym (more_is old more new is))

early_more : (task : ℕ) (es : List Entry) → AllByRecursion (IsEarly task) es → AllByRecursion (IsEarly (task + 1)) es
early_more task [] early = tt
early_more task (e ∷ es) early = ((let f = early.0.0 in omega (arith, f), early.0.1), early_more task es early.1)

early_own : (program : Program) (options : Options) (task : ℕ) (es : List Entry)
    → AllByRecursion (IsToldBy (teller_of program options 0 task)) es → AllByRecursion (IsEarly (task + 1)) es
early_own program options task [] told = tt
early_own program options task (e ∷ es) told =
    ((let f = told.0.1 in omega (arith, f), told.0.0), early_own program options task es told.1)

early_both : (task : ℕ) (es more : List Entry) → AllByRecursion (IsEarly task) es → AllByRecursion (IsEarly task) more
    → AllByRecursion (IsEarly task) (es ++ more)
early_both task [] more one two = two
early_both task (e ∷ es) more one two = (one.0, early_both task es more one.1 two)

abbrev RunsOver : Program → Options → ℕ → TaskEnd → Left → Type 0
RunsOver program options task end left =
    IsRun program task options.turns (limit_of program options) left end.lines end.ended

range_after : (first : ℕ) (old more : List ℕ) → old ++ more ≡ range_with_len first (length (old ++ more))
    → more ≡ range_with_len (first + length old) (length more)
range_after first [] more is = is ∙ ap (λ n. range_with_len n (length more)) (omega arith)
range_after first (n ∷ old) more is =
    let rest : old ++ more ≡ range_with_len (first + 1) (length (old ++ more)) = cc is in
    range_after (first + 1) old more rest ∙ ap (λ n. range_with_len n (length more)) (omega arith)

from_range : (first count : ℕ) → AreFrom first (range_with_len first count)
from_range first zero = tt
from_range first (suc count) = (refl, from_range (first + 1) count)

rising_range : (first count : ℕ) → IsStrictlyIncreasing (range_with_len first count)
rising_range first count = λ k inside.
    let n : k + 1 < count = subst (λ m. k + 1 < m) (length-range_with_len first count) inside in
    let one = get_or-range_with_len first count k 0 (omega (arith, n)) in
    let two = get_or-range_with_len first count (k + 1) 0 n in
    omega (arith, one, two)

came_some : (c : Option (Ending (Unit {0}) × Unit {0})) (e : Ended) → ended_of c ≡ Some e → c ≢ None
came_some None e is = λ h. cc
came_some (Some c) e is = λ h. cc

serial_more : (program : Program) (options : Options) (t : ℕ) (ends : List TaskEnd) (end : TaskEnd)
    (store middle final : Journals) → AreSerial program options t ends store middle
    → AreSerial program options (t + length ends) (end ∷ []) middle final
    → AreSerial program options t (ends ++ end ∷ []) store final
serial_more program options t [] end store middle final so_far last =
    subst (λ s. AreSerial program options t (end ∷ []) s final) (sym so_far)
    (subst (λ n. AreSerial program options n (end ∷ []) middle final) (let e : t + 0 ≡ t = omega arith in e) last)
serial_more program options t (e ∷ ends) end store middle final so_far last = (
  so_far.0,
  so_far.1,
  so_far.2,
  so_far.3,
  serial_more program options (t + 1) ends end _ middle final so_far.4
      (subst (λ n. AreSerial program options n (end ∷ []) middle final)
      (let f : t + suc (length ends) ≡ (t + 1) + length ends = omega arith in f) last),
)

-- the numbers that the task drew are those that come next
abbrev DrawsNext : Program → TaskEnd → Pass → Type 0
DrawsNext program end old =
    end.drawn ≡ range_with_len (shared_count program + length (numbers_of old)) (length end.drawn)

-- the run of one more task
module _ (program : Program) (options : Options) (task : ℕ) (end : TaskEnd) (old new : Pass)
    (ran : Ran program options 0 task end old new) where
  grown : (object : ℕ) → entries_of program options new object
      ≡ entries_of program options old object ++ more_of program options task old new object
  grown object = let m = ran.entries object in
      grown_by (entries_of program options old object) (entries_of program options new object) m.0 m.1

  drawn_more : numbers_of new ≡ numbers_of old ++ end.drawn
  drawn_more = let m = ran.drawn in
      grown_by (numbers_of old) (numbers_of new) m.0 m.1 ∙ ap (λ z. numbers_of old ++ z) (sym ran.numbers)

  -- an earlier task has the entries that it had
  left_other : (drawn : List ℕ) (t : ℕ) → t ≢ task
      → left_of (entries_of program options new) t drawn ≡ left_of (entries_of program options old) t drawn
  left_other drawn t apart =
      let same : (object : ℕ) → filter (is_of_task t) (entries_of program options new object)
      ≡ filter (is_of_task t) (entries_of program options old object) = λ object.
      ap (filter (is_of_task t)) (grown object)
      ∙ filter-append (is_of_task t) (entries_of program options old object) (more_of program options task old new object)
      ∙ ap (λ z. filter (is_of_task t) (entries_of program options old object) ++ z)
      (filter_other program options 0 task t (more_of program options task old new object) apart (ran.told object))
      ∙ append-nil (filter (is_of_task t) (entries_of program options old object)) in
      λ i. record { entries = λ object. same object i; drawn = drawn }

  -- the task has what was added
  left_own : ((object : ℕ) → AllByRecursion (IsEarly task) (entries_of program options old object))
      → left_of (entries_of program options new) task end.drawn ≡ gains program options task old new
  left_own early =
      let same : (object : ℕ) → filter (is_of_task task) (entries_of program options new object)
      ≡ more_of program options task old new object = λ object.
      ap (filter (is_of_task task)) (grown object)
      ∙ filter-append (is_of_task task) (entries_of program options old object) (more_of program options task old new object)
      ∙ ap (λ z. z ++ filter (is_of_task task) (more_of program options task old new object))
      (filter_early task (entries_of program options old object) (early object))
      ∙ filter_own program options 0 task (more_of program options task old new object) (ran.told object) in
      λ i. record { entries = λ object. same object i; drawn = ran.numbers i }

  -- a beginning of what is legal is legal
  legal_before : IsLegalPass program options new → IsLegalPass program options old
  legal_before legal object = legal_first (binders_of program) [] (entries_of program options old object)
      (more_of program options task old new object)
      (subst (IsLegal (binders_of program) []) (grown object) (legal object))

  -- the run over the journals is that over what was added
  run_alike : IsLegalPass program options new → DrawsNext program end old
      → AreAlike (run_of program task options.turns (limit_of program options) (gains program options task old new))
      (journal_run program options task (store_of program options old)) (gains program options task old new)
      (store_of program options old)
  run_alike legal numbers =
      two_stores (teller_of program options 0 task) (plan_of program)
      (acts_of program task options.turns (limit_of program options)) (gains program options task old new)
      (store_of program options old)
      (record {
        legal = λ object. legal_rest (binders_of program) [] (entries_of program options old object)
            (more_of program options task old new object)
            (subst (IsLegal (binders_of program) []) (grown object) (legal object));
        told = ran.told;
        drawn = subst (AreFrom (shared_count program + length (numbers_of old))) (sym numbers ∙ ran.numbers)
            (from_range (shared_count program + length (numbers_of old)) (length end.drawn));
      })
      (came_some (run_of program task options.turns (limit_of program options)
      (gains program options task old new)).came end.ended ran.run.ended)

  -- and leaves the journals as the pass has them
  run_leaves : IsLegalPass program options new → DrawsNext program end old
      → (journal_run program options task (store_of program options old)).store ≡ store_of program options new
  run_leaves legal numbers =
      let alike = run_alike legal numbers in
      let journals = journal_run program options task (store_of program options old) in
      let same : (object : ℕ) → journals.store.entries object ≡ entries_of program options new object = λ object.
      sym (append-nil (journals.store.entries object))
      ∙ ap (λ z. journals.store.entries object ++ z) (sym (ran.run.used_up.entries object))
      ∙ alike.entries object ∙ sym (grown object) in
      let count : journals.store.next ≡ shared_count program + length (numbers_of new) = omega (
        arith,
        alike.next,
        ap length ran.run.used_up.drawn,
        ap length drawn_more,
        length-append (numbers_of old) end.drawn,
        ap length ran.numbers,
      ) in
      λ i. record { entries = λ object. same object i; next = count i }

  counted_more : (ends : List TaskEnd) → AreRun program options task ends old
      → total (levels_of new) ≡ asked_from program options (entries_of program options new) 0 (ends ++ end ∷ [])
  counted_more ends so_far =
      let now = entries_of program options new in
      let before = entries_of program options old in
      let at : 0 + length ends ≡ task = omega (arith, so_far.count) in
      let own : asks_over program options (0 + length ends) (left_of now (0 + length ends) end.drawn)
      ≡ asks_over program options task (gains program options task old new)
      = ap (λ n. asks_over program options n (left_of now n end.drawn)) at
      ∙ ap (asks_over program options task) (left_own so_far.early) in
      let others : asked_from program options now 0 ends ≡ asked_from program options before 0 ends
      = asked_alike program options now before 0 ends
      (λ k drawn from below. left_other drawn k (λ is. absurd (omega (arith, below, is, at)))) in
      omega (arith, ran.counted, so_far.counted, asked_more program options now 0 ends end, own, others)

  run_more : (ends : List TaskEnd) → AreRun program options task ends old → IsLegalPass program options new
      → HasPlainNumbers program new → AreRun program options (task + 1) (ends ++ end ∷ []) new
  run_more ends so_far legal all =
      let before = shared_count program + length (numbers_of old) in
      let numbers : DrawsNext program end old =
      range_after (shared_count program) (numbers_of old) end.drawn
      (subst (λ ns. ns ≡ range_with_len (shared_count program) (length ns)) drawn_more all) in
      let alike = run_alike legal numbers in
      let leaves = run_leaves legal numbers in
      let rises : IsStrictlyIncreasing end.drawn =
      subst IsStrictlyIncreasing (sym numbers) (rising_range before (length end.drawn)) in
      record {
        count = omega (arith, length-append ends (end ∷ []), so_far.count);
        ends_are = λ t e at. elim (grown_got ends end e t at) [
          | inl earlier ↦ subst (RunsOver program options t e)
              (sym (left_other e.drawn t (λ is. let f = slice_get_within ends t e earlier in
              absurd (omega (arith, f, so_far.count, is)))))
              (so_far.ends_are t e earlier)
          | inr here ↦ subst (λ z. Ends program options (entries_of program options new) t z) here.1
              (subst (λ n. Ends program options (entries_of program options new) n end) (sym (here.0 ∙ so_far.count))
              (subst (RunsOver program options task end) (sym (left_own so_far.early)) ran.run))
        ];
        early = λ object. subst (AllByRecursion (IsEarly (task + 1))) (sym (grown object))
            (early_both (task + 1) (entries_of program options old object) (more_of program options task old new object)
            (early_more task (entries_of program options old object) (so_far.early object))
            (early_own program options task (more_of program options task old new object) (ran.told object)));
        numbers = flat_map-append drawn_by ends (end ∷ []) ∙ ap (λ z. z ++ (end.drawn ++ [])) so_far.numbers
            ∙ ap (λ z. numbers_of old ++ z) (append-nil end.drawn) ∙ sym drawn_more;
        rising = λ t e at. elim (grown_got ends end e t at) [
          | inl earlier ↦ so_far.rising t e earlier
          | inr here ↦ subst (λ (z : TaskEnd). IsStrictlyIncreasing z.drawn) here.1 rises
        ];
        serial = serial_more program options 0 ends end (none_yet program) (store_of program options old)
            (store_of program options new) so_far.serial
            (subst (λ n. AreSerial program options n (end ∷ []) (store_of program options old) (store_of program options new))
            (let e : task ≡ 0 + length ends = omega (arith, so_far.count) in e) (
              alike.lines ∙ ran.run.lines,
              ap ended_of alike.came ∙ ran.run.ended,
              numbers,
              omega (
                arith,
                ap (λ (s : Journals). s.next) leaves,
                ap length drawn_more,
                length-append (numbers_of old) end.drawn,
              ),
              leaves,
            ));
        counted = counted_more ends so_far;
      }

-- one more task is run
pub one_more_run : (program : Program) (options : Options) (task : ℕ) (ends : List TaskEnd) (end : TaskEnd)
    (old new : Pass) → AreRunIn program options task ends old → Ran program options 0 task end old new
    → HasPlainNumbers program new → AreRunIn program options (task + 1) (ends ++ end ∷ []) new
one_more_run program options task ends end old new so_far ran all legal =
    run_more program options task end old new ran ends
    (so_far (legal_before program options task end old new ran legal)) legal all

-- the tasks run one after the other, or there is none
abbrev pub IsInTurn : Program → Options → Type 0
IsInTurn program options = (options.serial ≡ true) ⊎ (length (script_of program).tasks ≡ 0)

owned_one : (program : Program) (options : Options) → IsInTurn program options → (e : Entry)
    → IsEarly (length (script_of program).tasks) e → IsOwned program options e
owned_one program options turn e early = (
  early.0,
  elim turn [
    | inl serial ↦ early.1 ∙ sym (ap (λ b. if b then 0 else e.task) serial)
    | inr none ↦ (let f = early.0 in absurd (omega (arith, f, none)))
  ],
)

owned_all : (program : Program) (options : Options) → IsInTurn program options → (es : List Entry)
    → AllByRecursion (IsEarly (length (script_of program).tasks)) es → AllByRecursion (IsOwned program options) es
owned_all program options turn [] early = tt
owned_all program options turn (e ∷ es) early =
    (owned_one program options turn e early.0, owned_all program options turn es early.1)

-- the journals are what the one pass made
journals_are : (program : Program) (options : Options) (ends : List TaskEnd) (p : Pass) (closed : Closed)
    → HasClosed program options (p ∷ []) closed → (object : ℕ)
    → journal_at (record { tasks = ends; closed = closed }) object ≡ entries_of program options p object
journals_are program options ends p closed has object = elim (cases_lt object (limit_of program options)) [
  | inl within ↦ (let row = has.rows object within in
      sym (made_alone (get_or (journals_in closed) object []) row.no_other)
      ∙ row.mine 0 p (omega arith) ∙ sym (made_within (limit_of program options) p object within))
  | inr past ↦ get_or_past (journals_in closed) object [] (omega (arith, has.count, past))
      ∙ sym (made_past (limit_of program options) p object past)
]

pass_legal : (program : Program) (options : Options) (p : Pass) (closed : Closed)
    → HasClosed program options (p ∷ []) closed → IsLegalPass program options p
pass_legal program options p closed has object = elim (cases_lt object (limit_of program options)) [
  | inl within ↦ subst (IsLegal (binders_of program) []) (journals_are program options [] p closed has object)
      (has.rows object within).legal
  | inr past ↦ subst (IsLegal (binders_of program) []) (sym (made_past (limit_of program options) p object past)) tt
]

-- what the tasks came to in the one pass is a lawful report, and what they come to one after the other
pub serial_lawful : (program : Program) (options : Options) (ends : List TaskEnd) (p : Pass) (closed : Closed)
    → IsInTurn program options → AreRunIn program options (length (script_of program).tasks) ends p
    → HasPlainNumbers program p → HasClosed program options (p ∷ []) closed
    → IsLawful program options (record { tasks = ends; closed = closed })
    × IsSerial program options (record { tasks = ends; closed = closed })
serial_lawful program options ends p closed turn all plain has =
    let run = all (pass_legal program options p closed has) in
    let same = journals_are program options ends p closed has in
    let report : Report = record { tasks = ends; closed = closed } in
    let these : journal_at report ≡ entries_of program options p = λ i. λ object. same object i in
    let range : numbers_of p ≡ range_with_len (shared_count program) (length (flat_map drawn_by ends))
    = plain ∙ ap (λ ns. range_with_len (shared_count program) (length ns)) (sym run.numbers) in
    let final : store_of program options p
    ≡ record { entries = journal_at report; next = shared_count program + length (flat_map drawn_by ends) }
    = λ i. record {
      entries = sym these i;
      next = shared_count program + length (sym run.numbers i);
    } in (
      record {
        count = run.count;
        each_object = has.count;
        legal = λ object. subst (IsLegal (binders_of program) []) (sym (same object))
            (pass_legal program options p closed has object);
        ends = λ task end at. subst (λ (f : ℕ → List Entry). Ends program options f task end) (sym these)
            (run.ends_are task end at);
        owned = λ object. subst (AllByRecursion (IsOwned program options)) (sym (same object))
            (owned_all program options turn (entries_of program options p object) (run.early object));
        numbers = subst (λ ns. IsPermutation (flat_map drawn_by ends) ns) (run.numbers ∙ range)
            (IsPermutation-refl (flat_map drawn_by ends));
        rising = run.rising;
        counted = (let sum : total (levels_in closed) ≡ total (levels_of p) = omega (arith, ap total has.levels) in
            sum ∙ run.counted ∙ ap (λ f. asked_from program options f 0 ends) (sym these));
      },
      subst (λ s. AreSerial program options 0 ends (none_yet program) s) final run.serial,
    )
