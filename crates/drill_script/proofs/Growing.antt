-- Lists that grow at their end.
use Rattle.std.proofs.Common.{◌≡◌, ◌∙◌, ℕ, zero, suc, ◌+◌, ◌*◌, List, ◌++◌, sym, ap, add-zero, add-one, append_assoc, append-nil, arith}
use Rattle.std.specs.List.{flat_map, range_with_len}
use Rattle.drill_script.specs.Statements.{line, statement_at, statement_text}
use Rattle.drill_script.specs.Script.{statements_text, task_text, tasks_text}

-- what the numbers from `a` on give, one number more
flat_map_next : (g : ℕ → List ℕ) (a n : ℕ)
    → flat_map g (range_with_len a (suc n)) ≡ flat_map g (range_with_len a n) ++ g (a + n)
flat_map_next g a zero = append-nil (g a) ∙ ap g (sym (add-zero a))
flat_map_next g a (suc n) =
    let same : a + 1 + n ≡ a + suc n = omega arith in
    ap (λ t. g a ++ t) (flat_map_next g (a + 1) n)
    ∙ sym (append_assoc (g a) (flat_map g (range_with_len (a + 1) n)) (g (a + 1 + n)))
    ∙ ap (λ k. (g a ++ flat_map g (range_with_len (a + 1) n)) ++ g k) same

-- the lines of the statements, one statement more
pub statements_next : (x n : ℕ)
    → statements_text x 0 (n + 1) ≡ statements_text x 0 n ++ line (statement_text (statement_at x n))
unfolding statements_text
statements_next x n =
    let write : ℕ → List ℕ = λ k. line (statement_text (statement_at x k)) in
    let same : 0 + n ≡ n = omega arith in
    ap (λ k. flat_map write (range_with_len 0 k)) (add-one n) ∙ flat_map_next write 0 n
    ∙ ap (λ k. flat_map write (range_with_len 0 n) ++ write k) same

-- the tasks, one task more
pub tasks_next : (x n : ℕ)
    → tasks_text x (n + 1) ≡ tasks_text x n ++ task_text n (statements_text x (250 * n) 250)
unfolding tasks_text
tasks_next x n =
    let write : ℕ → List ℕ = λ k. task_text k (statements_text x (250 * k) 250) in
    let same : 0 + n ≡ n = omega arith in
    ap (λ k. flat_map write (range_with_len 0 k)) (add-one n) ∙ flat_map_next write 0 n
    ∙ ap (λ k. flat_map write (range_with_len 0 n) ++ write k) same
