-- Draws that go on from where others ended.
use Rattle.std.proofs.Common.{◌≡◌, ◌∙◌, ℕ, zero, suc, ◌+◌, ◌*◌, ◌++◌, sym, ap, refl, add-zero, add-suc, arith}
use Rattle.drill_script.specs.Draws.{draw, next_state, number_at, state_after}
use Rattle.drill_script.specs.Statements.{chosen, line, statement_at, statement_text}
use Rattle.drill_script.specs.Script.{statements_text}

-- so many draws after so many others
pub state_further : (x m k : ℕ) → state_after (state_after x m) k ≡ state_after x (m + k)
unfolding state_after
state_further x m zero = ap (state_after x) (sym (add-zero m))
state_further x m (suc k) = ap next_state (state_further x m k) ∙ ap (state_after x) (sym (add-suc m k))

-- the draws that follow so many others
pub draw_further : (x m n : ℕ) → draw (state_after x m) n ≡ draw x (m + n)
draw_further x m n = ap number_at (state_further x m (suc n) ∙ ap (state_after x) (add-suc m n))

-- the same, by another number
draw_numbered : (x m n k : ℕ) → m + n ≡ k → draw (state_after x m) n ≡ draw x k
draw_numbered x m n k same = draw_further x m n ∙ ap (draw x) same

-- the statements that follow so many others
pub statement_further : (x f n : ℕ) → statement_at (state_after x (3 * f)) n ≡ statement_at x (f + n)
statement_further x f n =
    let form = draw_numbered x (3 * f) (3 * n) (3 * (f + n)) (omega arith) in
    let member = draw_numbered x (3 * f) (3 * n + 1) (3 * (f + n) + 1) (omega arith) in
    let value = draw_numbered x (3 * f) (3 * n + 2) (3 * (f + n) + 2) (omega arith) in
    λ i. chosen (form i) (member i) (value i)

-- their lines
pub statements_further : (x f n count : ℕ)
    → statements_text (state_after x (3 * f)) n count ≡ statements_text x (f + n) count
unfolding statements_text
statements_further x f n zero = refl
statements_further x f n (suc count) =
    let first = statement_further x f n in
    let same : f + (n + 1) ≡ (f + n) + 1 = omega arith in
    let rest = statements_further x f (n + 1) count ∙ ap (λ k. statements_text x k count) same in
    λ i. line (statement_text (first i)) ++ rest i
