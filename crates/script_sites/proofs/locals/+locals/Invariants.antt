use Rattle.std.proofs.Common.{◌≡◌, ◌+◌, take, map, sum}
use Rattle.script_sites.specs.Limits.{stmt_locals}
use Rattle.script_sites.proofs.locals.+locals.Given as goal

abbrev pub invariant-left_after_block-loop-stmt : goal.invariant-left_after_block-loop-stmt
invariant-left_after_block-loop-stmt l = l.left + sum (map stmt_locals (take l.stmt-index l.stmt-items)) ≡ l.initial.left
