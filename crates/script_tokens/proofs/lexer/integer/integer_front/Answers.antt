use Rattle.script_tokens.proofs.LexemeRuns.{digits_run}
use Rattle.script_tokens.proofs.TextFronts.{run_front, run_bad}
use Rattle.script_tokens.proofs.IntegerFronts.{integer_reads}
use Rattle.script_tokens.specs.Lexemes.{IsDigits}
use Rattle.script_tokens.proofs.lexer.integer.integer_front.Goals as goal

pub integer_of-requires : goal.integer_of-requires
integer_of-requires c = (digits_run c.args.text.now c.digits_length-length.result c.requires c.digits_length-length.ensures).lexes

pub returns-in_err-value : goal.returns-in_err-value
returns-in_err-value c =
    rw c.from_residual.ensures
    (run_bad IsDigits c.args.text.now c.digits_length-length.result
    (digits_run c.args.text.now c.digits_length-length.result c.requires c.digits_length-length.ensures) c.in_err-value.ensures)

pub returns : goal.returns
returns c =
    run_front IsDigits c.args.text.now c.digits_length-length.result _
    (digits_run c.args.text.now c.digits_length-length.result c.requires c.digits_length-length.ensures)
    (integer_reads _ c.in_ok-value.value c.in_ok-value.ensures)
