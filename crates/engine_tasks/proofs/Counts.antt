-- How many operations are asked, counted and answered by lists of tasks and passes.
use Rattle.std.proofs.Common.{◌≡◌, ℕ, suc, ◌+◌, ◌<◌, ◌≤◌, List, [], ◌∷◌, ◌++◌, get_or, length, map, refl, ◌∙◌, ap, ap₂, arith}
use Rattle.dyn_value.specs.declared.entry.Entry.{Entry}
use Rattle.command_words.specs.declared.words.Options.{Options}
use Rattle.script_program.specs.declared.program.Program.{Program}
use Rattle.task_run.specs.Stores.{Left}
use Rattle.program_run.specs.TaskRuns.{operations_of}
use Rattle.dlr_engine.specs.declared.answer.Levels.{Levels}
use Rattle.dlr_engine.specs.declared.pass.Pass.{Pass}
use Rattle.dlr_engine.specs.Levels.{added, all_levels, total}
use Rattle.dlr_engine.specs.Passes.{levels_of}
use Rattle.engine_tasks.specs.declared.report.TaskEnd.{TaskEnd}
use Rattle.engine_tasks.specs.Lawful.{asked_from, left_of, limit_of}

-- how many operations the task asks over these entries and numbers
abbrev pub asks_over : Program → Options → ℕ → Left → ℕ
asks_over program options task left = length (operations_of program task options.turns (limit_of program options) left)

-- over the same entries of these tasks they ask as often
pub asked_alike : (program : Program) (options : Options) (one two : ℕ → List Entry) (t : ℕ) (ends : List TaskEnd)
    → ((k : ℕ) (drawn : List ℕ) → t ≤ k → k < t + length ends → left_of one k drawn ≡ left_of two k drawn)
    → asked_from program options one t ends ≡ asked_from program options two t ends
asked_alike program options one two t [] same = refl
asked_alike program options one two t (e ∷ ends) same = ap₂ (λ (m n : ℕ). m + n)
    (ap (asks_over program options t) (same t e.drawn (omega arith) (omega arith)))
    (asked_alike program options one two (t + 1) ends (λ k drawn from below. same k drawn (omega arith) (omega arith)))

-- one task more asks its operations more
pub asked_more : (program : Program) (options : Options) (journals : ℕ → List Entry) (t : ℕ) (ends : List TaskEnd)
    (end : TaskEnd) → asked_from program options journals t (ends ++ end ∷ []) ≡ asked_from program options journals t ends
    + asks_over program options (t + length ends) (left_of journals (t + length ends) end.drawn)
asked_more program options journals t [] end =
    let at : t + 0 ≡ t = omega arith in
    let same : asks_over program options (t + 0) (left_of journals (t + 0) end.drawn)
    ≡ asks_over program options t (left_of journals t end.drawn)
    = ap (λ n. asks_over program options n (left_of journals n end.drawn)) at in
    omega (arith, same)
asked_more program options journals t (e ∷ ends) end =
    let at : (t + 1) + length ends ≡ t + suc (length ends) = omega arith in
    let same : asks_over program options ((t + 1) + length ends) (left_of journals ((t + 1) + length ends) end.drawn)
    ≡ asks_over program options (t + suc (length ends)) (left_of journals (t + suc (length ends)) end.drawn)
    = ap (λ n. asks_over program options n (left_of journals n end.drawn)) at in
    omega (arith, same, asked_more program options journals (t + 1) ends end)

total_added : (l m : Levels) → total (added l m) ≡ total l + total m
total_added l m = omega arith

-- where each pass counted what its task asks, all passes counted what all tasks ask
pub totals_asked : (program : Program) (options : Options) (journals : ℕ → List Entry) (t : ℕ) (ends : List TaskEnd)
    (ps : List Pass) → length ends ≡ length ps
    → ((k : ℕ) (e : TaskEnd) (d : Pass) → k < length ps → total (levels_of (get_or ps k d))
    ≡ asks_over program options (t + k) (left_of journals (t + k) (get_or ends k e).drawn))
    → total (all_levels (map levels_of ps)) ≡ asked_from program options journals t ends
totals_asked program options journals t [] [] count each = refl
totals_asked program options journals t (e ∷ ends) [] count each = absurd (omega (arith, count))
totals_asked program options journals t [] (p ∷ ps) count each = absurd (omega (arith, count))
totals_asked program options journals t (e ∷ ends) (p ∷ ps) count each =
    let at : t + 0 ≡ t = omega arith in
    let here : total (levels_of p) ≡ asks_over program options t (left_of journals t e.drawn)
    = each 0 e p (omega arith) ∙ ap (λ n. asks_over program options n (left_of journals n e.drawn)) at in
    let rest = totals_asked program options journals (t + 1) ends ps (omega (arith, count)) (λ k f d below.
    let next : t + suc k ≡ (t + 1) + k = omega arith in
    each (suc k) f d (omega arith)
    ∙ ap (λ n. asks_over program options n (left_of journals n (get_or ends k f).drawn)) next) in
    total_added (levels_of p) (all_levels (map levels_of ps)) ∙ ap₂ (λ (m n : ℕ). m + n) here rest
