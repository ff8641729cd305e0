-- The script of the drill.
use Rattle.std.specs.Prelude.{ℕ, ◌*◌, List, ◌++◌, codes}
use Rattle.std.specs.Fmt.{decimal}
use Rattle.std.specs.List.{flat_map, range_with_len}
use Rattle.drill_script.specs.Draws.{first_state}
use Rattle.drill_script.specs.Statements.{line, statement_at, statement_text}

-- the lines of the statements of these numbers
unfoldable pub statements_text : ℕ → ℕ → ℕ → List ℕ
statements_text x first count = flat_map (λ n. line (statement_text (statement_at x n))) (range_with_len first count)

-- a task, which does its statements fifty times
unfoldable pub task_text : ℕ → List ℕ → List ℕ
task_text task statements =
    line (codes "task t" ++ decimal task ++ codes " {")
    ++ line (codes "let i = 0;")
    ++ line (codes "while (i < 50) {")
    ++ statements
    ++ line (codes "i = (i + 1);")
    ++ line (codes "}")
    ++ line (codes "}")

-- the first tasks, so many of them, with 250 statements each: those of a task follow those of the task before it
unfoldable pub tasks_text : ℕ → ℕ → List ℕ
tasks_text x count = flat_map (λ task. task_text task (statements_text x (250 * task) 250)) (range_with_len 0 count)

-- the script of a seed: a shared object and eight tasks
unfoldable pub drill_text : ℕ → List ℕ
drill_text seed = line (codes "shared s;") ++ tasks_text (first_state seed) 8
