-- Tasks that run beside each other, each in a pass of its own.
use Rattle.std.proofs.Common.{◌≡◌, ℕ, zero, suc, ◌+◌, ◌<◌, ◌≤◌, false, if◌then◌else◌, nat_eq, cond, List, [], ◌∷◌, ◌++◌, drop, get_or, length, map, slice_get, flat_map, Some, refl, sym, ◌∙◌, ap, ap₂, subst, arith, inl, inr}
use Rattle.std.specs.List.{AllByRecursion, filter, range_with_len}
use Rattle.std.specs.List.Sorted.{IsPermutation, IsStrictlyIncreasing}
use Rattle.std.proofs.lemmas.Bool.{cases_lt}
use Rattle.std.proofs.lemmas.List.{get_or_append_left, get_or_past, get_or_push, get_or-map, length-append, length-map}
use Rattle.std.proofs.lemmas.Option.{get_or_from_slice_get, slice_get_within, slice_get-get_or}
use Rattle.dyn_value.specs.declared.entry.Entry.{Entry}
use Rattle.object_model.specs.Journals.{IsLegal}
use Rattle.command_words.specs.declared.words.Options.{Options}
use Rattle.script_program.specs.declared.program.Program.{Program}
use Rattle.script_program.specs.Programs.{binders_of, script_of}
use Rattle.task_run.specs.Stores.{IsToldBy, Left}
use Rattle.program_run.specs.TaskRuns.{IsRun}
use Rattle.object_history.specs.Histories.{by_of}
use Rattle.turn_rows.specs.Lists.{made_by}
use Rattle.dlr_engine.specs.declared.closed.Closed.{Closed}
use Rattle.dlr_engine.specs.declared.pass.Pass.{Pass}
use Rattle.dlr_engine.specs.Closing.{all_numbers, journals_in, levels_in}
use Rattle.dlr_engine.specs.Levels.{total}
use Rattle.dlr_engine.specs.Passes.{levels_of, numbers_of}
use Rattle.engine_tasks.specs.declared.report.TaskEnd.{TaskEnd}
use Rattle.engine_tasks.specs.Lawful.{Ends, IsLawful, asked_from, IsOwned, drawn_by, is_of_task, left_of, limit_of, teller_of}
use Rattle.engine_tasks.specs.Passes.{made_below}
use Rattle.engine_tasks.specs.TaskRuns.{AreBeside, HasClosed, RanAlone, gained_by}
use Rattle.engine_tasks.proofs.Entries.{all_after, made_first, made_nothing, made_past, made_within, none_after}
use Rattle.engine_tasks.proofs.Counts.{asks_over, totals_asked}

-- the entry is of a pass below this number, and of the task with that pass's number
abbrev IsBelow : ℕ → Entry → Type 0
IsBelow n e = (e.pass < n) × (e.task ≡ e.pass)

-- the entry is of the task with this number
abbrev IsOfTask : ℕ → Entry → Type 0
IsOfTask k e = e.task ≡ k

-- where each pass's entries are of the task with its number, and passes from n on made none
below_all : (n : ℕ) (es : List Entry) → ((k : ℕ) → k < n → AllByRecursion (IsOfTask k) (made_by by_of k es))
    → ((k : ℕ) → n ≤ k → made_by by_of k es ≡ []) → AllByRecursion (IsBelow n) es
below_all n [] own no_other = tt
below_all n (e ∷ es) own no_other = (
  elim (cases_lt e.pass n) [
    | inl below ↦ (below, (subst (AllByRecursion (IsOfTask e.pass)) (made_first e es) (own e.pass below)).0)
    | inr past ↦ absurd (let none : e ∷ made_by by_of e.pass es ≡ [] = sym (made_first e es) ∙ no_other e.pass past in cc)
  ],
  below_all n es (λ k below. all_after (IsOfTask k) k e es (own k below))
      (λ k past. none_after k e es (no_other k past)),
)

-- a task's entries are those of the pass with its number
same_entries : (n t : ℕ) (es : List Entry) → AllByRecursion (IsBelow n) es
    → filter (is_of_task t) es ≡ made_by by_of t es
same_entries n t [] below = refl
same_entries n t (e ∷ es) below = ap₂ (λ (k : ℕ) (rest : List Entry). cond (nat_eq k t) (e ∷ rest) rest) below.0.1
    (same_entries n t es below.1)

told_task : (program : Program) (options : Options) (k : ℕ) (es : List Entry)
    → AllByRecursion (IsToldBy (teller_of program options k k)) es → AllByRecursion (IsOfTask k) es
told_task program options k [] told = tt
told_task program options k (e ∷ es) told = (told.0.1, told_task program options k es told.1)

owned_all : (program : Program) (options : Options) (n : ℕ) (es : List Entry) → options.serial ≡ false
    → n ≡ length (script_of program).tasks → AllByRecursion (IsBelow n) es → AllByRecursion (IsOwned program options) es
owned_all program options n [] beside tasks below = tt
owned_all program options n (e ∷ es) beside tasks below = (
  (
    (let f = below.0 in omega (arith, f.0, f.1, tasks)),
    sym below.0.1 ∙ sym (ap (λ b. if b then 0 else e.task) beside),
  ),
  owned_all program options n es beside tasks below.1,
)

-- the numbers that the tasks drew are those of the passes
same_drawn : (ends : List TaskEnd) (ps : List Pass) → length ends ≡ length ps
    → ((k : ℕ) (e : TaskEnd) (d : Pass) → k < length ps → drawn_by (get_or ends k e) ≡ numbers_of (get_or ps k d))
    → flat_map drawn_by ends ≡ all_numbers ps
same_drawn [] [] count each = refl
same_drawn (e ∷ ends) [] count each = absurd (omega (arith, count))
same_drawn [] (p ∷ ps) count each = absurd (omega (arith, count))
same_drawn (e ∷ ends) (p ∷ ps) count each = ap₂ (λ (xs ys : List ℕ). xs ++ ys) (each 0 e p (omega arith))
    (same_drawn ends ps (omega (arith, count)) (λ k f d below. each (suc k) f d (omega arith)))

-- there is an element inside a list
pub inside : {A : Type 0} (xs : List A) (k : ℕ) → k < length xs → A
inside [] k within = absurd (omega arith)
inside (x ∷ xs) zero within = x
inside (x ∷ xs) (suc k) within = inside xs k (omega arith)

-- what a task that ran alone left its pass
module _ (program : Program) (options : Options) (task : ℕ) (end : TaskEnd) (p : Pass)
    (alone : RanAlone program options task end p) where
  -- it gained all that the pass made and drew
  gained_all : gained_by (teller_of program options task task) alone.begun p
      ≡ record { entries = made_below (limit_of program options) p; drawn = numbers_of p }
  gained_all =
      let limit = limit_of program options in
      let none : numbers_of alone.begun ≡ [] = ap (map _) alone.is_new.drawn in
      λ i. record {
        entries = λ object. drop (length (made_nothing limit alone.begun alone.is_new object i)) (made_below limit p object);
        drawn = drop (length (none i)) (numbers_of p);
      }

  drawn_alone : end.drawn ≡ numbers_of p
  drawn_alone = alone.ran.numbers ∙ ap (λ (l : Left). l.drawn) gained_all

  told_alone : (object : ℕ) → AllByRecursion (IsOfTask task) (made_below (limit_of program options) p object)
  told_alone object = subst (λ (l : Left). AllByRecursion (IsOfTask task) (l.entries object)) gained_all
      (told_task program options task _ (alone.ran.told object))

  counted_alone : total (levels_of p)
      ≡ asks_over program options task (record { entries = made_below (limit_of program options) p; drawn = numbers_of p })
  counted_alone = let asked = ap (asks_over program options task) gained_all in
      omega (arith, alone.ran.counted, alone.is_new.levels, asked)

  run_alone : IsRun program task options.turns (limit_of program options)
      (record { entries = made_below (limit_of program options) p; drawn = numbers_of p }) end.lines end.ended
  run_alone = subst (λ (l : Left). IsRun program task options.turns (limit_of program options) l end.lines end.ended)
      gained_all alone.ran.run

-- no task ran yet
pub none_beside : (program : Program) (options : Options) → AreBeside program options [] []
none_beside program options = record {
  count = refl;
  ran = λ k e d within. absurd (omega arith);
}

-- one task more ran alone
pub one_more_beside : (program : Program) (options : Options) (ends : List TaskEnd) (ps : List Pass) (end : TaskEnd)
    (p : Pass) → AreBeside program options ends ps → RanAlone program options (length ps) end p
    → AreBeside program options (ends ++ end ∷ []) (ps ++ p ∷ [])
one_more_beside program options ends ps end p so_far alone = record {
  count = omega (arith, length-append ends (end ∷ []), length-append ps (p ∷ []), so_far.count);
  ran = λ k e d within. elim (cases_lt k (length ps)) [
    | inl before ↦ subst (λ z. RanAlone program options k z (get_or (ps ++ p ∷ []) k d))
        (sym (get_or_append_left ends (end ∷ []) e k (omega (arith, before, so_far.count))))
        (subst (RanAlone program options k (get_or ends k e))
        (sym (get_or_append_left ps (p ∷ []) d k before)) (so_far.ran k e d before))
    | inr past ↦ (let last : length ps ≡ k = omega (arith, past, within, length-append ps (p ∷ [])) in
        subst (λ z. RanAlone program options k z (get_or (ps ++ p ∷ []) k d))
        (sym (get_or_push ends end e k (so_far.count ∙ last)))
        (subst (RanAlone program options k end) (sym (get_or_push ps p d k last))
        (subst (λ n. RanAlone program options n end p) last alone)))
  ];
}

-- each of these has the end and the pass of a task that ran alone
pub beside_by : {F : Type 0} (program : Program) (options : Options) (end_of : F → TaskEnd) (pass_of : F → Pass)
    (fs : List F) → ((k : ℕ) (f : F) → slice_get fs k ≡ Some f → RanAlone program options k (end_of f) (pass_of f))
    → AreBeside program options (map end_of fs) (map pass_of fs)
beside_by {F} program options end_of pass_of fs each = record {
  count = length-map fs end_of ∙ sym (length-map fs pass_of);
  ran = λ k e d within.
      let inner : k < length fs = subst (λ n. k < n) (length-map fs pass_of) within in
      let f = inside fs k inner in
      subst (λ z. RanAlone program options k z (get_or (map pass_of fs) k d)) (sym (get_or-map end_of fs k f e inner))
      (subst (RanAlone program options k (end_of (get_or fs k f))) (sym (get_or-map pass_of fs k f d inner))
      (each k (get_or fs k f) (slice_get-get_or fs k f inner)));
}

abbrev journal_of : Closed → ℕ → List Entry
journal_of closed object = get_or (journals_in closed) object []

-- tasks that ran beside each other, and what the engine closed with
module _ (program : Program) (options : Options) (ends : List TaskEnd) (ps : List Pass) (closed : Closed)
    (beside : options.serial ≡ false) (tasks : length ps ≡ length (script_of program).tasks) (ran : AreBeside program options ends ps)
    (has : HasClosed program options ps closed) where
  past_limit : (object : ℕ) → limit_of program options ≤ object → journal_of closed object ≡ []
  past_limit object past = get_or_past (journals_in closed) object [] (omega (arith, has.count, past))

  own_entries : (object k : ℕ) → object < limit_of program options → k < length ps
      → AllByRecursion (IsOfTask k) (made_by by_of k (journal_of closed object))
  own_entries object k within below =
      let p = inside ps k below in
      let e = inside ends k (omega (arith, below, ran.count)) in
      subst (AllByRecursion (IsOfTask k))
      (made_within (limit_of program options) (get_or ps k p) object within
      ∙ sym ((has.rows object within).mine k p below))
      (told_alone program options k (get_or ends k e) (get_or ps k p) (ran.ran k e p below) object)

  below : (object : ℕ) → AllByRecursion (IsBelow (length ps)) (journal_of closed object)
  below object = elim (cases_lt object (limit_of program options)) [
    | inl within ↦ below_all (length ps) (journal_of closed object) (λ k. own_entries object k within)
        (has.rows object within).no_other
    | inr past ↦ subst (AllByRecursion (IsBelow (length ps))) (sym (past_limit object past)) tt
  ]

  -- a task's entries in each journal are those that its pass made
  left_is : (k : ℕ) (e : TaskEnd) (d : Pass) → k < length ps → left_of (journal_of closed) k (get_or ends k e).drawn
      ≡ record { entries = made_below (limit_of program options) (get_or ps k d); drawn = numbers_of (get_or ps k d) }
  left_is k e d inner =
      let limit = limit_of program options in
      let p = get_or ps k d in
      let same : (object : ℕ) → filter (is_of_task k) (journal_of closed object) ≡ made_below limit p object = λ object.
      elim (cases_lt object limit) [
        | inl within ↦ same_entries (length ps) k (journal_of closed object) (below object)
            ∙ (has.rows object within).mine k d inner ∙ sym (made_within limit p object within)
        | inr past ↦ ap (filter (is_of_task k)) (past_limit object past) ∙ sym (made_past limit p object past)
      ] in
      let drawn = drawn_alone program options k (get_or ends k e) p (ran.ran k e d inner) in
      λ i. record { entries = λ object. same object i; drawn = drawn i }

  counted_all : total (levels_in closed) ≡ asked_from program options (journal_of closed) 0 ends
  counted_all = ap total has.levels ∙ totals_asked program options (journal_of closed) 0 ends ps ran.count (λ k e d inner.
      let at : 0 + k ≡ k = omega arith in
      counted_alone program options k (get_or ends k e) (get_or ps k d) (ran.ran k e d inner)
      ∙ sym (ap (asks_over program options k) (left_is k e d inner))
      ∙ sym (ap (λ n. asks_over program options n (left_of (journal_of closed) n (get_or ends k e).drawn)) at))

  drawn_all : flat_map drawn_by ends ≡ all_numbers ps
  drawn_all = same_drawn ends ps ran.count
      (λ k e d inner. drawn_alone program options k (get_or ends k e) (get_or ps k d) (ran.ran k e d inner))

  legal_all : (object : ℕ) → IsLegal (binders_of program) [] (journal_of closed object)
  legal_all object = elim (cases_lt object (limit_of program options)) [
    | inl within ↦ (has.rows object within).legal
    | inr past ↦ subst (IsLegal (binders_of program) []) (sym (past_limit object past)) tt
  ]

  within_passes : (task : ℕ) (end : TaskEnd) → slice_get ends task ≡ Some end → task < length ps
  within_passes task end at = let inner = slice_get_within ends task end at in omega (arith, inner, ran.count)

  ends_all : (task : ℕ) (end : TaskEnd) → slice_get ends task ≡ Some end → Ends program options (journal_of closed) task end
  ends_all task end at =
      let inner = within_passes task end at in
      let p = inside ps task inner in
      let here : get_or ends task end ≡ end = get_or_from_slice_get ends task end end at in
      subst (λ z. Ends program options (journal_of closed) task z) here
      (subst (λ (l : Left). IsRun program task options.turns (limit_of program options) l
      (get_or ends task end).lines (get_or ends task end).ended) (sym (left_is task end p inner))
      (run_alone program options task (get_or ends task end) (get_or ps task p) (ran.ran task end p inner)))

  rising_all : (task : ℕ) (end : TaskEnd) → slice_get ends task ≡ Some end → IsStrictlyIncreasing end.drawn
  rising_all task end at =
      let inner = within_passes task end at in
      let p = inside ps task inner in
      let here : get_or ends task end ≡ end = get_or_from_slice_get ends task end end at in
      subst (λ (z : TaskEnd). IsStrictlyIncreasing z.drawn) here
      (subst IsStrictlyIncreasing
      (sym (drawn_alone program options task (get_or ends task end) (get_or ps task p) (ran.ran task end p inner)))
      (has.numbers.rising task p inner))

  -- what they came to is a lawful report
  pub beside_lawful : IsLawful program options (record { tasks = ends; closed = closed })
  beside_lawful = record {
    count = ran.count ∙ tasks;
    each_object = has.count;
    legal = legal_all;
    ends = ends_all;
    owned = λ object. owned_all program options (length ps) (journal_of closed object) beside tasks (below object);
    numbers = subst (λ ns. IsPermutation ns (range_with_len (length (script_of program).shared) (length ns)))
        (sym drawn_all) has.numbers.numbers;
    rising = rising_all;
    counted = counted_all;
  }
