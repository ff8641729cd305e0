-- The reports of runs: what the tasks came to, with what the engine closed with.
use Rattle.std.proofs.Common.{◌≡◌, ◌∙◌, ◌⊎◌, ℕ, zero, suc, ◌+◌, ◌<◌, false, true, List, [], ◌∷◌, ◌++◌, length, get_or, Result, refl, sym, subst, ap, arith, length-append}
use Rattle.std.specs.List.{range_with_len}
use Rattle.command_words.specs.declared.words.Options.{Options}
use Rattle.script_program.specs.declared.program.Program.{Program}
use Rattle.script_program.specs.Programs.{script_of}
use Rattle.dlr_engine.specs.declared.closed.Closed.{Closed}
use Rattle.dlr_engine.specs.declared.pass.Pass.{Pass}
use Rattle.dlr_engine.specs.declared.run.Run.{Run}
use Rattle.dlr_engine.specs.Passes.{passes_in, program_in, shared_in, made_in, number_of, numbers_of, AreNew, ArePasses, IsNew, IsPassOf, IsSamePass}
use Rattle.engine_tasks.specs.declared.beside.Finished.{Finished}
use Rattle.engine_tasks.specs.declared.report.Report.{Report}
use Rattle.engine_tasks.specs.declared.report.TaskEnd.{TaskEnd}
use Rattle.engine_tasks.specs.Jobs.{AreEnds, HaveRun}
use Rattle.engine_tasks.specs.Lawful.{IsLawful, IsSerial}
use Rattle.engine_tasks.specs.TaskRuns.{AreBeside, AreRunIn, HasClosed, HasPlainNumbers, Ran}
use Rattle.engine_tasks.proofs.BesideRuns.{beside_lawful}
use Rattle.engine_tasks.proofs.Finishes.{finished_beside, finished_passes}
use Rattle.engine_tasks.proofs.SerialRuns.{none_run, one_more_run, serial_lawful}

abbrev pub report : List TaskEnd → Closed → Report
report ends closed = record { tasks = ends; closed = closed }

-- of tasks that ran beside each other, each in its own pass
pub lawful_beside : {E : Type 0} (program : Program) (options : Options) (run : Run) (olds : List Pass) (all : List (Result Finished E))
    (ends : List TaskEnd) (ps : List Pass) (closed : Closed) → program_in run ≡ program → passes_in run ≡ length (script_of program).tasks
    → options.serial ≡ false → ArePasses run olds → AreNew olds → HaveRun options run olds all → AreEnds all ends ps
    → HasClosed program options ps closed → IsLawful program options (report ends closed)
lawful_beside program options run olds all ends ps closed is count beside passes new have are has =
    let ran = finished_beside options run olds all ends ps passes have are new in
    let tasks = (finished_passes options run olds all ends ps passes have are).count ∙ count in
    beside_lawful program options ends ps closed beside tasks (subst (λ (p : Program). AreBeside p options ends ps) is ran) has

-- of tasks that ran one after the other in one pass
pub lawful_serial : (program : Program) (options : Options) (run : Run) (ends : List TaskEnd) (p : Pass) (ps : List Pass) (closed : Closed)
    → program_in run ≡ program → (options.serial ≡ true) ⊎ (length (script_of program).tasks ≡ 0)
    → AreRunIn (program_in run) options (length (script_of (program_in run)).tasks) ends p → HasPlainNumbers (program_in run) p
    → ps ≡ p ∷ [] → HasClosed program options ps closed
    → IsLawful program options (report ends closed) × IsSerial program options (report ends closed)
lawful_serial program options run ends p ps closed is turn ran plain one has =
    serial_lawful program options ends p closed turn
    (subst (λ (q : Program). AreRunIn q options (length (script_of q).tasks) ends p) is ran)
    (subst (λ (q : Program). HasPlainNumbers q p) is plain)
    (subst (λ (qs : List Pass). HasClosed program options qs closed) one has)

-- one task more ran, in order, in the one pass
pub one_more_in_order : (options : Options) (run now later : Run) (task : ℕ) (ends more : List TaskEnd) (end : TaskEnd) (old new : Pass) → now ≡ run
    → later ≡ now → number_of old ≡ 0 → made_in old ≡ 1 → IsSamePass old new → AreRunIn (program_in run) options task ends old
    → Ran (program_in now) options (number_of old) task end old new
    → (made_in new ≡ 1 → numbers_of new ≡ range_with_len (shared_in later) (length (numbers_of new))) → more ≡ ends ++ end ∷ []
    → AreRunIn (program_in run) options (task + 1) more new
one_more_in_order options run now later task ends more end old new is after number made same before ran plain grown =
    let all : HasPlainNumbers (program_in run) new = subst (λ (r : Run). HasPlainNumbers (program_in r) new) (after ∙ is) (plain (same.1 ∙ made)) in
    let ran' = subst (λ (q : Run × ℕ). Ran (program_in q.0) options q.1 task end old new) (λ i. (is i, number i)) ran in
    subst (λ (es : List TaskEnd). AreRunIn (program_in run) options (task + 1) es new) (sym grown)
    (one_more_run (program_in run) options task ends end old new before ran' all)

-- no task ran yet
pub none_in_order : (options : Options) (run : Run) (ends : List TaskEnd) (p first : Pass) → ends ≡ [] → p ≡ first → IsNew first
    → AreRunIn (program_in run) options 0 ends p
none_in_order options run ends p first none is new =
    subst (λ (q : List TaskEnd × Pass). AreRunIn (program_in run) options 0 q.0 q.1) (sym (λ i. (none i, is i)))
    (none_run (program_in run) options first new)

-- a run with one pass has one alone
none_before : (rest : List Pass) (p : Pass) → length (rest ++ p ∷ []) ≡ 1 → rest ≡ []
none_before [] p one = refl
none_before (q ∷ rest) p one = absurd (omega (arith, one, length-append rest (p ∷ [])))

pub one_alone : (run : Run) (ps rest : List Pass) (p : Pass) → ps ≡ rest ++ p ∷ [] → passes_in run ≡ 1 → ArePasses run ps → rest ≡ []
one_alone run ps rest p is one passes = none_before rest p (ap length (sym is) ∙ passes.count ∙ one)

-- and what the engine says of its passes, it says of that one
one_is : (run : Run) (ps rest : List Pass) (p : Pass) → ps ≡ rest ++ p ∷ [] → passes_in run ≡ 1 → ArePasses run ps → ps ≡ p ∷ []
one_is run ps rest p is one passes = is ∙ ap (λ (qs : List Pass). qs ++ p ∷ []) (one_alone run ps rest p is one passes)

pub one_own : (run : Run) (ps rest : List Pass) (p : Pass) → ps ≡ rest ++ p ∷ [] → passes_in run ≡ 1 → ArePasses run ps → IsPassOf run p
one_own run ps rest p is one passes = (subst (ArePasses run) (one_is run ps rest p is one passes) passes).own 0 p (omega arith)

pub one_new : (run : Run) (ps rest : List Pass) (p : Pass) → ps ≡ rest ++ p ∷ [] → passes_in run ≡ 1 → ArePasses run ps → AreNew ps → IsNew p
one_new run ps rest p is one passes new = subst AreNew (one_is run ps rest p is one passes) new 0 p (omega arith)

pub one_first : (run : Run) (ps rest : List Pass) (p : Pass) → ps ≡ rest ++ p ∷ [] → passes_in run ≡ 1 → ArePasses run ps
    → (number_of p ≡ 0) × (made_in p ≡ 1)
one_first run ps rest p is one passes =
    let first = (subst (ArePasses run) (one_is run ps rest p is one passes) passes).numbers 0 p (omega arith) in
    (first, (one_own run ps rest p is one passes).first first ∙ one)

only_own : (run : Run) (p : Pass) → IsPassOf run p → (k : ℕ) (d : Pass) → k < 1 → IsPassOf run (get_or (p ∷ []) k d)
only_own run p own zero d within = own
only_own run p own (suc k) d within = absurd (omega (arith, within))

only_number : (p : Pass) → number_of p ≡ 0 → (k : ℕ) (d : Pass) → k < 1 → number_of (get_or (p ∷ []) k d) ≡ k
only_number p number zero d within = number
only_number p number (suc k) d within = absurd (omega (arith, within))

-- the one pass is given back
pub one_back : (run : Run) (rest ps : List Pass) (p : Pass) → rest ≡ [] → ps ≡ rest ++ p ∷ [] → ps ≡ p ∷ []
one_back run rest ps p none is = is ∙ ap (λ (qs : List Pass). qs ++ p ∷ []) none

pub one_passes : (run : Run) (ps : List Pass) (p : Pass) → ps ≡ p ∷ [] → passes_in run ≡ 1 → IsPassOf run p → number_of p ≡ 0 → ArePasses run ps
one_passes run ps p is one own number =
    subst (ArePasses run) (sym is) (record { count = sym one; own = only_own run p own; numbers = only_number p number })
