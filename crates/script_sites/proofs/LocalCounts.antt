-- The locals that statements declare, counted one after the other.
use Rattle.std.proofs.Common.{◌≡◌, ◌≤◌, ◌<◌, ℕ, zero, suc, ◌+◌, List, [], ◌∷◌, length, map, sum, take, get_or, arith}
use Rattle.std.proofs.lemmas.List.Sums.{sum_by-cons}
use Rattle.script_grammar.specs.declared.tree.Block.{Block}
use Rattle.script_grammar.specs.declared.tree.Stmt.{Stmt}
use Rattle.script_grammar.specs.declared.tree.Stmt.TheFolds.{fold-roll-Block}
use Rattle.script_sites.specs.Limits.{block_locals, layer_block_locals, layer_stmt_locals, stmt_locals}

pub block_is : (b : Block) → block_locals b ≡ sum (map stmt_locals b.0)
block_is b = fold-roll-Block ℕ ℕ layer_stmt_locals layer_block_locals (record { 0 = b.0 })

-- those of the first statements and of the next are among all
pub no_more : (stmts : List Stmt) (i : ℕ) (d : Stmt) → i < length stmts → sum (map stmt_locals (take i stmts)) + stmt_locals (get_or stmts i d) ≤ sum (map stmt_locals stmts)
no_more [] i d h = absurd (omega arith)
no_more (s ∷ stmts) zero d h = omega (arith, sum_by-cons (λ x. x) (stmt_locals s) (map stmt_locals stmts))
no_more (s ∷ stmts) (suc i) d h =
    let rest = no_more stmts i d (omega arith) in
    omega (arith, sum_by-cons (λ x. x) (stmt_locals s) (map stmt_locals stmts), sum_by-cons (λ x. x) (stmt_locals s) (map stmt_locals (take i stmts)))
