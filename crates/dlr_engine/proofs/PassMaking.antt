-- How the passes of a run are made, one after the other.
use Rattle.std.proofs.Common.{◌≡◌, ◌∙◌, ◌<◌, ◌+◌, ℕ, zero, suc, List, [], ◌∷◌, ◌++◌, length, get_or, insert, refl, sym, ap, subst, arith, length-append}
use mathlib.Core.Logic.{dite}
use native.Mathlib.Decide.{ℕ_discrete}
use lib.ListN.{get_elem?}
use Rattle.std.proofs.Math.ListN.{get_or-append}
use Rattle.std.proofs.Math.Seq.{get_or-append_seam}
use Rattle.object_history.specs.declared.object_row.ObjectRow.{ObjectRow}
use Rattle.object_history.specs.Rows.{journal_of}
use Rattle.turn_rows.specs.declared.view.Log.{Log}
use Rattle.turn_rows.specs.Passes.{entries_at}
use Rattle.answered_operations.specs.declared.operation.AnsweredOperation.{AnsweredOperation}
use Rattle.dlr_engine.specs.declared.pass.Pass.{Pass}
use Rattle.dlr_engine.specs.declared.run.Run.{Run}
use Rattle.dlr_engine.specs.Levels.{total}
use Rattle.dlr_engine.specs.Passes.{answered_of, levels_of, AreNew, ArePasses, IsNew, IsPartOf, IsPassOf, IsUntaken, made_in, number_of, passes_in}

-- a pass that is made from another one has that one as new as before
pub still_new : (old new : Pass) → IsNew old → IsUntaken old new → IsNew new
still_new old new is untaken = record {
  seen = λ row. ap (λ (rows : List ObjectRow). entries_at journal_of (get_elem? rows row)) untaken.rows ∙ is.seen row;
  drawn = untaken.drawn ∙ is.drawn;
  levels = ap total untaken.uncounted.levels ∙ is.levels;
  binds = untaken.uncounted.binds ∙ is.binds;
  calls = untaken.calls ∙ is.calls;
  kept = untaken.kept ∙ is.kept;
  rules = λ n.
      let same = untaken.uncounted.rules n in
      (same.rules ∙ (is.rules n).0, same.published ∙ (is.rules n).1);
  dropped = untaken.uncounted.dropped ∙ is.dropped;
  answered = untaken.uncounted.answered ∙ is.answered;
}

-- a new pass answered as many operations as it counts
none_listed : (p : Pass) → IsNew p → length (answered_of p) ≡ total (levels_of p)
none_listed p new = ap (λ (os : List AnsweredOperation). length os) new.answered ∙ sym new.levels

-- the pass after the first one and so many others, which has done nothing
abbrev pub IsOther : Run → ℕ → Pass → Type 0
IsOther run k p = IsPartOf run p × (number_of p ≡ k + 1) × IsNew p

abbrev pub AreOthers : Run → List Pass → Type 0
AreOthers run ps = (k : ℕ) (d : Pass) → k < length ps → IsOther run k (get_or ps k d)

pub one_more : (run : Run) (ps : List Pass) (p : Pass) → AreOthers run ps → IsOther run (length ps) p → AreOthers run (ps ++ p ∷ [])
one_more run ps p are is k d inside = dite (ℕ_discrete k (length ps))
    (λ e. subst (λ (n : ℕ). IsOther run n (get_or (ps ++ p ∷ []) n d)) (sym e) (subst (IsOther run (length ps)) (sym (get_or-append_seam ps p [] d)) is))
    (λ n.
    let before : k < length ps = omega (arith, n, inside, length-append ps (p ∷ [])) in
    subst (IsOther run k) (sym (get_or-append ps (p ∷ []) d k before)) (are k d before))

first_put : (ps : List Pass) (p : Pass) → insert ps 0 p ≡ p ∷ ps
first_put [] p = refl
first_put (q ∷ ps) p = refl

other_is : (run : Run) (k : ℕ) (p : Pass) → k + 1 < passes_in run → IsOther run k p → IsPassOf run p
other_is run k p below is = record {
  part = is.0;
  below = omega (arith, below, is.1);
  first = λ first. absurd (omega (arith, first, is.1));
  apart = ap (λ (cs : List (Log ObjectRow)). length cs) is.2.kept;
  listed = none_listed p is.2;
}

first_is : (run : Run) (p : Pass) → 0 < passes_in run → IsPartOf run p → number_of p ≡ 0 → made_in p ≡ passes_in run → IsNew p → IsPassOf run p
first_is run p there part first made new = record {
  part = part;
  below = omega (arith, there, first);
  first = λ e. made;
  apart = ap (λ (cs : List (Log ObjectRow)). length cs) new.kept;
  listed = none_listed p new;
}

pub all_made : (run : Run) (p : Pass) (ps : List Pass) → 0 < passes_in run → IsPartOf run p → number_of p ≡ 0 → made_in p ≡ passes_in run → IsNew p
    → length ps + 1 ≡ passes_in run → AreOthers run ps → ArePasses run (insert ps 0 p)
all_made run p ps there part first made new count are =
    subst (ArePasses run) (sym (first_put ps p)) (record { count = omega (arith, count); own = own; numbers = numbers })
  where
    own : (k : ℕ) (d : Pass) → k < length (p ∷ ps) → IsPassOf run (get_or (p ∷ ps) k d)
    own zero d inside = first_is run p there part first made new
    own (suc k) d inside = other_is run k (get_or ps k d) (omega (arith, inside, count)) (are k d (omega (arith, inside)))

    numbers : (k : ℕ) (d : Pass) → k < length (p ∷ ps) → number_of (get_or (p ∷ ps) k d) ≡ k
    numbers zero d inside = first
    numbers (suc k) d inside = (are k d (omega (arith, inside))).1 ∙ (omega arith)

pub all_new : (run : Run) (p : Pass) (ps : List Pass) → IsNew p → AreOthers run ps → AreNew (insert ps 0 p)
all_new run p ps new are = subst AreNew (sym (first_put ps p)) each
  where
    each : AreNew (p ∷ ps)
    each zero d inside = new
    each (suc k) d inside = (are k d (omega (arith, inside))).2
