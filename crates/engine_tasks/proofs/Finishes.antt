-- What came of all jobs: the ends and the passes of the tasks.
use Rattle.std.proofs.Common.{◌≡◌, ℕ, ◌<◌, ◌≤◌, All, List, [], ◌∷◌, ◌++◌, length, map, get_or, slice_get, Some, Result, Ok, refl, sym, ◌∙◌, ap, subst, arith}
use Rattle.std.specs.Option.{option_map}
use Rattle.std.proofs.lemmas.List.{get_or-map, length-map, map-append}
use Rattle.std.proofs.lemmas.Option.{get_or_from_slice_get, slice_get-get_or, slice_get-map, slice_get_within}
use Rattle.command_words.specs.declared.words.Options.{Options}
use Rattle.script_program.specs.Programs.{script_of}
use Rattle.dlr_engine.specs.declared.pass.Pass.{Pass}
use Rattle.dlr_engine.specs.declared.run.Run.{Run}
use Rattle.dlr_engine.specs.Passes.{AreNew, ArePasses, IsPassOf, number_of, program_in}
use Rattle.engine_tasks.specs.declared.beside.Finished.{Finished}
use Rattle.engine_tasks.specs.declared.report.TaskEnd.{TaskEnd}
use Rattle.engine_tasks.specs.Jobs.{AreEnds, CanRun, HasRun, HaveRun, MayHaveRun, end_in, pass_in}
use Rattle.engine_tasks.specs.TaskRuns.{AreBeside, Ran}
use Rattle.engine_tasks.specs.Worlds.{Serves}
use Rattle.engine_tasks.proofs.BesideRuns.{beside_by, inside}

-- each task ran in the pass of its place
module _ {E : Type 0} (options : Options) (run : Run) (olds : List Pass) (all : List (Result Finished E))
    (ends : List TaskEnd) (ps : List Pass) (passes : ArePasses run olds) (have : HaveRun options run olds all)
    (are : AreEnds all ends ps) where
  as_many : length are.finished ≡ length olds
  as_many = sym (length-map are.finished Ok) ∙ sym (ap length are.each) ∙ have.count

  each_ran : (k : ℕ) (f : Finished) → slice_get are.finished k ≡ Some f → (d : Pass)
      → HasRun options run (get_or olds k d) f
  each_ran k f at d =
      let inner : k < length olds = subst (λ n. k < n) as_many (slice_get_within are.finished k f at) in
      let there : slice_get all k ≡ Some (Ok f) =
      ap (λ xs. slice_get xs k) are.each ∙ slice_get-map Ok are.finished k ∙ ap (option_map Ok) at in
      subst (MayHaveRun options run (get_or olds k d)) (get_or_from_slice_get all k (Ok f) (Ok f) there)
      (have.each k d (Ok f) inner)

  -- the ends and passes of all are those of tasks that ran beside each other
  pub finished_beside : AreNew olds → AreBeside (program_in run) options ends ps
  finished_beside new = subst (λ es. AreBeside (program_in run) options es ps) (sym are.ends_are)
      (subst (AreBeside (program_in run) options (map end_in are.finished)) (sym are.passes_are)
      (beside_by (program_in run) options end_in pass_in are.finished (λ k f at.
      let inner : k < length olds = subst (λ n. k < n) as_many (slice_get_within are.finished k f at) in
      let old = inside olds k inner in
      record {
        begun = get_or olds k old;
        is_new = new k old inner;
        ran = subst (λ n. Ran (program_in run) options n n f.end (get_or olds k old) f.pass)
            (passes.numbers k old inner) (each_ran k f at old).ran;
      })))

  -- the pass at a place is one of the run, with the place as its number
  pass_there : (k : ℕ) (d : Pass) → k < length (map pass_in are.finished)
      → IsPassOf run (get_or (map pass_in are.finished) k d) × (number_of (get_or (map pass_in are.finished) k d) ≡ k)
  pass_there k d within =
      let among : k < length are.finished = subst (λ n. k < n) (length-map are.finished pass_in) within in
      let inner : k < length olds = subst (λ n. k < n) as_many among in
      let f = inside are.finished k among in
      let old = inside olds k inner in
      let here = get_or are.finished k f in
      let ran = each_ran k here (slice_get-get_or are.finished k f among) old in
      subst (λ (p : Pass). IsPassOf run p × (number_of p ≡ k)) (sym (get_or-map pass_in are.finished k f d among))
      (ran.own, ran.number ∙ passes.numbers k old inner)

  -- and the passes are all passes of the run
  pub finished_passes : ArePasses run ps
  finished_passes = subst (ArePasses run) (sym are.passes_are) (record {
    count = length-map are.finished pass_in ∙ as_many ∙ passes.count;
    own = λ k d within. (pass_there k d within).0;
    numbers = λ k d within. (pass_there k d within).1;
  })

-- no task came to its end yet
pub none_ended : {E : Type 0} → AreEnds {E = E} [] [] []
none_ended = record { finished = []; each = refl; ends_are = refl; passes_are = refl }

-- and one more did
pub one_more_ended : {E : Type 0} (all : List (Result Finished E)) (ends : List TaskEnd) (ps : List Pass) (f : Finished) → AreEnds all ends ps
    → AreEnds (all ++ Ok f ∷ []) (ends ++ f.end ∷ []) (ps ++ f.pass ∷ [])
one_more_ended all ends ps f are = record {
  finished = are.finished ++ f ∷ [];
  each = ap (λ (xs : List (Result Finished _)). xs ++ Ok f ∷ []) are.each ∙ sym (map-append Ok are.finished (f ∷ []));
  ends_are = ap (λ (es : List TaskEnd). es ++ f.end ∷ []) are.ends_are ∙ sym (map-append end_in are.finished (f ∷ []));
  passes_are = ap (λ (xs : List Pass). xs ++ f.pass ∷ []) are.passes_are ∙ sym (map-append pass_in are.finished (f ∷ []));
}

-- each new pass can run the task of its number
pub can_run : (options : Options) (run : Run) (ps : List Pass) → Serves options run → ArePasses run ps → AreNew ps
    → length ps ≤ length (script_of (program_in run)).tasks → All (CanRun options run) ps
can_run options run ps serves passes new few k d within = record {
  serves = serves;
  own = passes.own k d within;
  new = new k d within;
  task = omega (arith, passes.numbers k d within, within, few);
}
