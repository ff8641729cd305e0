use Rattle.std.proofs.Common.{arith}
use Rattle.script_tokens.proofs.IntegerFronts.{one_digit_more}
use Rattle.script_tokens.proofs.lexer.integer.value_of.Goals as goal

pub returns-in_err-checked_mul : goal.returns-in_err-checked_mul
returns-in_err-checked_mul c =
    let more = one_digit_more c.args.digits.now c.loop-digit.digit-index c.loop-digit.value c.digit-item.result c.requires c.loop-digit-test.true c.digit-item.is c.loop-digit.invariant in
    let over = c.in_err-checked_mul.ensures in
    rw c.from_residual.ensures (omega arith)

pub returns-in_err-value : goal.returns-in_err-value
returns-in_err-value c =
    let more = one_digit_more c.args.digits.now c.loop-digit.digit-index c.loop-digit.value c.digit-item.result c.requires c.loop-digit-test.true c.digit-item.is c.loop-digit.invariant in
    let over = c.in_err-value.ensures in
    let product = c.in_ok-checked_mul.ensures in
    rw c.from_residual-in_err-value.ensures (omega arith)

pub loop-digit-preserved : goal.loop-digit-preserved
loop-digit-preserved c =
    let more = one_digit_more c.args.digits.now c.loop-digit.digit-index c.loop-digit.value c.digit-item.result c.requires c.loop-digit-test.true c.digit-item.is c.loop-digit.invariant in
    let product = c.in_ok-checked_mul.ensures in
    let total = c.in_ok-value.ensures in
    omega arith
