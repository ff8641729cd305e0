-- What all passes of a run know is there once they are gathered.
use Rattle.std.proofs.Common.{◌≡◌, ◌∙◌, ◌<◌, ◌≤◌, ◌+◌, ◌-◌, ◌⊎◌, ℕ, zero, suc, cond, Bool, List, [], ◌∷◌, length, get_or, map, refl, sym, ap, subst, arith, eq-eqb, ne_eqb}
use mathlib.Core.Option.{some}
use lib.ListN.{get_elem?}
use Rattle.std.specs.List.{range_with_len}
use Rattle.std.specs.List.Sorted.{IsPermutation, IsStrictlyIncreasing}
use Rattle.std.proofs.lemmas.List.Sorted.{length_permutation}
use Rattle.object_history.specs.declared.object_row.ObjectRow.{ObjectRow}
use Rattle.turn_rows.specs.declared.view.Log.{Log}
use Rattle.turn_rows.specs.Lists.{sum_below, times}
use Rattle.turn_rows.specs.Passes.{AllDrawn, HasAll, log_numbered, passes_made}
use Rattle.dlr_engine.specs.declared.pass.Pass.{Pass}
use Rattle.dlr_engine.specs.declared.run.Run.{Run}
use Rattle.dlr_engine.specs.Closing.{AreDrawn, all_numbers}
use Rattle.dlr_engine.specs.Passes.{ArePasses, log_in, number_of, numbers_of, passes_in}
use Rattle.dlr_engine.proofs.Numbers.{AreOnce, increasing, permutation, times_in_all}

-- each pass stands at the place of its number, from a first one on
abbrev AreNumberedFrom : ℕ → List Pass → Type 0
AreNumberedFrom first ps = (k : ℕ) (d : Pass) → k < length ps → number_of (get_or ps k d) ≡ first + k

pub log_at : (ps : List Pass) (k : ℕ) (d : Pass) → k < length ps → get_elem? (map log_in ps) k ≡ some (log_in (get_or ps k d))
log_at [] k d inside = absurd (omega (arith, inside))
log_at (p ∷ ps) zero d inside = refl
log_at (p ∷ ps) (suc k) d inside = log_at ps k d (omega (arith, inside))

numbered : (first : ℕ) (ps : List Pass) → AreNumberedFrom first ps → (k : ℕ) (d : Pass) → k < length ps
    → log_numbered (first + k) (map log_in ps) ≡ log_in (get_or ps k d)
numbered first [] are k d inside = absurd (omega (arith, inside))
numbered first (p ∷ ps) are zero d inside =
    ap (λ (b : Bool). cond b (log_in p) (log_numbered (first + 0) (map log_in ps))) (eq-eqb (number_of p) (first + 0) (are 0 d inside))
numbered first (p ∷ ps) are (suc k) d inside =
    let head : number_of p ≡ first + 0 = are 0 d (omega arith) in
    let shift : first + 1 + k ≡ first + suc k = omega arith in
    ap (λ (b : Bool). cond b (log_in p) (log_numbered (first + suc k) (map log_in ps)))
    (ne_eqb (number_of p) (first + suc k) (λ e. omega (arith, e, head)))
    ∙ ap (λ (n : ℕ). log_numbered n (map log_in ps)) (sym shift)
    ∙ numbered (first + 1) ps (λ j e below. are (suc j) e (omega (arith, below)) ∙ (omega arith)) k d (omega (arith, inside))

numbered_here : (run : Run) (ps : List Pass) → ArePasses run ps → (k : ℕ) (d : Pass) → k < length ps
    → log_numbered k (map log_in ps) ≡ log_in (get_or ps k d)
numbered_here run ps are k d inside =
    let e : 0 + k ≡ k = omega arith in
    ap (λ (n : ℕ). log_numbered n (map log_in ps)) (sym e)
    ∙ numbered 0 ps (λ j f below. are.numbers j f below ∙ (omega arith)) k d inside

pub made_is : (run : Run) (ps : List Pass) → 0 < passes_in run → ArePasses run ps → passes_made (map log_in ps) ≡ length ps
made_is run [] there are = absurd (omega (arith, there, are.count))
made_is run (p ∷ ps) there are =
    let inside : 0 < length (p ∷ ps) = omega arith in
    ap (λ (c : Log ObjectRow). c.made) (numbered_here run (p ∷ ps) are 0 p inside)
    ∙ (are.own 0 p inside).first (are.numbers 0 p inside) ∙ sym are.count

has_one : (run : Run) (ps : List Pass) (d : Pass) → 0 < passes_in run → ArePasses run ps → HasAll (map log_in ps)
has_one run ps d there are =
    let made = made_is run ps there are in (
      omega (arith, made, there, are.count),
      λ k below.
          let inside : k < length ps = omega (arith, made, below) in
          (k, log_in (get_or ps k d), log_at ps k d inside, are.numbers k d inside),
    )

-- what all passes know is there
pub has_all : (run : Run) (ps : List Pass) → 0 < passes_in run → ArePasses run ps → HasAll (map log_in ps)
has_all run [] there are = absurd (omega (arith, there, are.count))
has_all run (p ∷ ps) there are = has_one run (p ∷ ps) p there are

length_range : (first n : ℕ) → length (range_with_len first n) ≡ n
length_range first zero = refl
length_range first (suc n) = omega (arith, length_range (first + 1) n)

-- together they drew each number after those of the shared objects once
pub are_drawn : (run : Run) (shared : ℕ) (ps : List Pass) → 0 < passes_in run → ArePasses run ps → AllDrawn shared (map log_in ps)
    → AreDrawn shared ps
are_drawn run shared ps there are drawn =
    let logs = map log_in ps in let last = drawn.0 in let once = drawn.1 in let all = all_numbers ps in
    let draws : ℕ → List ℕ = λ k. (log_numbered k logs).draws in
    let made : passes_made logs ≡ length ps = made_is run ps there are in
    let drew : (k : ℕ) (d : Pass) → k < length ps → draws k ≡ numbers_of (get_or ps k d) =
    λ k d inside. ap (λ (c : Log ObjectRow). c.draws) (numbered_here run ps are k d inside) ∙ sym (get_or ps k d).numbers in
    let n = last - shared in
    let whole : shared + n ≡ last = omega (arith, once.least) in
    let sums : (x : ℕ) → sum_below (passes_made logs) (λ k. times x (draws k)) ≡ times x all =
    λ x. ap (λ (m : ℕ). sum_below m (λ k. times x (draws k))) made ∙ times_in_all x numbers_of ps draws drew in
    let each_once : AreOnce shared n all = record {
      each = λ x from below. sym (sums x) ∙ once.once x from (omega (arith, below, whole));
      no_other = λ x outside. sym (sums x) ∙ once.no_other x (subst (λ (m : ℕ). (x < shared) ⊎ (m ≤ x)) whole outside);
    } in
    let ordered = permutation shared n all each_once in
    let so_many : n ≡ length all = sym (length_range shared n) ∙ length_permutation all (range_with_len shared n) ordered in record {
      numbers = subst (λ (m : ℕ). IsPermutation all (range_with_len shared m)) so_many ordered;
      rising = λ k d inside. subst IsStrictlyIncreasing (drew k d inside) (increasing (draws k) (once.rise k (omega (arith, inside, made))));
    }
