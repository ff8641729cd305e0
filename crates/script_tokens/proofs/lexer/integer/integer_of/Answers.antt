use Rattle.std.proofs.Common.{arith}
use Rattle.script_tokens.proofs.IntegerFronts.{zero_means_nothing, great_means_nothing, integer_means, other_leads}
use Rattle.script_tokens.proofs.lexer.integer.integer_of.Goals.{else-digits-gt1-via-then-digits-gt1+else-digits-eq48, else-digits-gt1-via-else-digits-gt1}
use Rattle.script_tokens.proofs.lexer.integer.integer_of.Goals as goal

pub returns-then-digits-eq48 : goal.returns-then-digits-eq48
returns-then-digits-eq48 c =
    zero_means_nothing c.args.digits.now c.index-digits-0.result c.requires c.if-digits-gt1.true c.index-digits-0.is c.if-digits-eq48.true

pub returns-in_err-value : goal.returns-in_err-value
returns-in_err-value c =
    rw c.from_residual.ensures (great_means_nothing c.args.digits.now c.requires (omega (arith, c.in_err-value.ensures)))

pub returns : goal.returns
returns c =
    rw c.ok.ensures.value
    (integer_means c.args.digits.now c.in_ok-value.value c.try_from.result c.requires
    (λ zero. elim c.else-digits-gt1.branch [
      | else-digits-gt1-via-then-digits-gt1+else-digits-eq48 w ↦ other_leads c.args.digits.now w.index-digits-0.result c.requires w.index-digits-0.is w.if-digits-eq48.false zero
      | else-digits-gt1-via-else-digits-gt1 w ↦ w.if-digits-gt1.false
    ])
    c.in_ok-value.ensures c.try_from.ensures)
