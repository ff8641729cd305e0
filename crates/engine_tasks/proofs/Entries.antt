-- The entries of one task, and those of one pass, among others.
use Rattle.std.proofs.Common.{◌≡◌, ◌≢◌, ℕ, ◌<◌, ◌≤◌, Bool, true, false, nat_eq, nat_lt, eqb, eq-eqb, List, [], ◌∷◌, cond, refl, sym, ◌∙◌, ap, arith, inl, inr}
use Rattle.std.specs.List.{AllByRecursion, filter}
use Rattle.std.proofs.lemmas.Bool.{cases_lt}
use Rattle.std.proofs.lemmas.Bool.Decides.{nat_tests}
use Rattle.dyn_value.specs.declared.entry.Entry.{Entry}
use Rattle.command_words.specs.declared.words.Options.{Options}
use Rattle.script_program.specs.declared.program.Program.{Program}
use Rattle.task_run.specs.Stores.{IsToldBy}
use Rattle.object_history.specs.Histories.{by_of}
use Rattle.turn_rows.specs.Lists.{made_by}
use Rattle.dlr_engine.specs.declared.pass.Pass.{Pass}
use Rattle.dlr_engine.specs.Passes.{IsNew, mine_of}
use Rattle.engine_tasks.specs.Lawful.{is_of_task, teller_of}
use Rattle.engine_tasks.specs.Passes.{made_below}
use Rattle.engine_tasks.specs.TaskRuns.{IsEarly}

apart_test : (a b : ℕ) → a ≢ b → nat_eq a b ≡ false
apart_test a b apart = grind (arith, nat_tests)

same_test : (a b : ℕ) → a ≡ b → nat_eq a b ≡ true
same_test a b same = grind (arith, nat_tests)

below_test : (a b : ℕ) → a < b → nat_lt a b ≡ true
below_test a b below = grind (arith, nat_tests)

past_test : (a b : ℕ) → b ≤ a → nat_lt a b ≡ false
past_test a b past = grind (arith, nat_tests)

-- within the limit an object's entries are those that the pass made, and past it there are none
pub made_within : (limit : ℕ) (p : Pass) (object : ℕ) → object < limit → made_below limit p object ≡ mine_of p object
made_within limit p object within = ap (λ b. cond b (mine_of p object) []) (below_test object limit within)

pub made_past : (limit : ℕ) (p : Pass) (object : ℕ) → limit ≤ object → made_below limit p object ≡ []
made_past limit p object past = ap (λ b. cond b (mine_of p object) []) (past_test object limit past)

-- a new pass made nothing
pub made_nothing : (limit : ℕ) (p : Pass) → IsNew p → (object : ℕ) → made_below limit p object ≡ []
made_nothing limit p new object = elim (cases_lt object limit) [
  | inl within ↦ made_within limit p object within ∙ ap (made_by by_of _) (new.seen object)
  | inr past ↦ made_past limit p object past
]

filter_step : (task : ℕ) (e : Entry) (es : List Entry) (b : Bool) → is_of_task task e ≡ b
    → filter (is_of_task task) (e ∷ es) ≡ cond b (e ∷ filter (is_of_task task) es) (filter (is_of_task task) es)
filter_step task e es b is = ap (λ z. cond z (e ∷ filter (is_of_task task) es) (filter (is_of_task task) es)) is

-- a task's entries among those before it: none
pub filter_early : (task : ℕ) (es : List Entry) → AllByRecursion (IsEarly task) es → filter (is_of_task task) es ≡ []
filter_early task [] early = refl
filter_early task (e ∷ es) early =
    filter_step task e es false (apart_test e.task task (λ is. let f = early.0.0 in absurd (omega (arith, f, is))))
    ∙ filter_early task es early.1

-- a task's entries among its own: all
pub filter_own : (program : Program) (options : Options) (pass task : ℕ) (es : List Entry)
    → AllByRecursion (IsToldBy (teller_of program options pass task)) es → filter (is_of_task task) es ≡ es
filter_own program options pass task [] told = refl
filter_own program options pass task (e ∷ es) told = filter_step task e es true (same_test e.task task told.0.1)
    ∙ ap (λ z. e ∷ z) (filter_own program options pass task es told.1)

-- another task's entries among these: none
pub filter_other : (program : Program) (options : Options) (pass task other : ℕ) (es : List Entry) → other ≢ task
    → AllByRecursion (IsToldBy (teller_of program options pass task)) es → filter (is_of_task other) es ≡ []
filter_other program options pass task other [] apart told = refl
filter_other program options pass task other (e ∷ es) apart told =
    filter_step other e es false (apart_test e.task other (λ is. apart (sym is ∙ told.0.1)))
    ∙ filter_other program options pass task other es apart told.1

made_step : (k : ℕ) (e : Entry) (es : List Entry) (b : Bool) → eqb e.pass k ≡ b
    → made_by by_of k (e ∷ es) ≡ cond b (e ∷ made_by by_of k es) (made_by by_of k es)
made_step k e es b is = ap (λ z. cond z (e ∷ made_by by_of k es) (made_by by_of k es)) is

-- the first entry is among those of its pass
pub made_first : (e : Entry) (es : List Entry) → made_by by_of e.pass (e ∷ es) ≡ e ∷ made_by by_of e.pass es
made_first e es = made_step e.pass e es true (eq-eqb e.pass e.pass refl)

rest_none : (b : Bool) (e : Entry) (es : List Entry) → cond b (e ∷ es) es ≡ [] → es ≡ []
rest_none true e es none = absurd (cc)
rest_none false e es none = none

-- a pass that made none of the entries made none of those after the first
pub none_after : (k : ℕ) (e : Entry) (es : List Entry) → made_by by_of k (e ∷ es) ≡ [] → made_by by_of k es ≡ []
none_after k e es none = rest_none (eqb e.pass k) e (made_by by_of k es) none

rest_all : (P : Entry → Type 0) (b : Bool) (e : Entry) (es : List Entry) → AllByRecursion P (cond b (e ∷ es) es)
    → AllByRecursion P es
rest_all P true e es all = all.1
rest_all P false e es all = all

-- what holds of all entries of a pass holds of those after the first
pub all_after : (P : Entry → Type 0) (k : ℕ) (e : Entry) (es : List Entry)
    → AllByRecursion P (made_by by_of k (e ∷ es)) → AllByRecursion P (made_by by_of k es)
all_after P k e es all = rest_all P (eqb e.pass k) e (made_by by_of k es) all

-- where no pass from the first number on made any, all are those of the pass 0
pub made_alone : (es : List Entry) → ((k : ℕ) → 1 ≤ k → made_by by_of k es ≡ []) → made_by by_of 0 es ≡ es
made_alone [] no_other = refl
made_alone (e ∷ es) no_other = elim (cases_lt e.pass 1) [
  | inl below ↦ made_step 0 e es true (eq-eqb e.pass 0 (omega (arith, below)))
      ∙ ap (λ z. e ∷ z) (made_alone es (λ k some. none_after k e es (no_other k some)))
  | inr past ↦ absurd (let none : e ∷ made_by by_of e.pass es ≡ [] = sym (made_first e es) ∙ no_other e.pass past in cc)
]
