use Rattle.std.proofs.Common.{rules, ◌<◌, arith, ap, sym, ◌∙◌, map, sum}
use Rattle.std.proofs.lemmas.List.{take_all}
use Rattle.script_sites.specs.Limits.{block_locals, stmt_locals}
use Rattle.script_sites.proofs.LocalCounts.{block_is, no_more}
use Rattle.script_sites.proofs.locals.+locals.Goals as goal

pub left_after_block-returns-in_err-left : goal.left_after_block-returns-in_err-left
left_after_block-returns-in_err-left t c =
    let stmts = c.as_slice-stmt-items.result.now in
    let is = block_is c.args.block.now in
    let same = ap (λ z. sum (map stmt_locals z)) c.as_slice-stmt-items.ensures in
    let one = ap stmt_locals c.stmt-item.is in
    let few = no_more stmts c.loop-stmt.stmt-index c.stmt-item.result c.loop-stmt-test.true in
    let passed = c.in_err-left.ensures in
    let h : c.args.room < block_locals c.args.block.now = omega (arith, is, same, one, few, passed, c.loop-stmt.invariant) in
    search (rules, h)

pub left_after_block-returns : goal.left_after_block-returns
left_after_block-returns t c =
    let all = take_all c.loop-stmt.stmt-index c.as_slice-stmt-items.result.now c.loop-stmt-test.false in
    let is = block_is c.args.block.now ∙ ap (λ z. sum (map stmt_locals z)) (sym (all ∙ c.as_slice-stmt-items.ensures)) in
    omega (arith, is, c.loop-stmt.invariant)
