use Rattle.script_grammar.specs.StatementForms.{stmt_form}
use Rattle.script_grammar.proofs.Exits.{exits}
use Rattle.script_grammar.proofs.StatementSteps.{let_name_halts, let_halts, let_read}
use Rattle.script_grammar.proofs.parser.statements.let_at.Goals as goal

pub returns-in_err-name-clause-stop : goal.returns-in_err-name-clause-stop
returns-in_err-name-clause-stop c =
    exits stmt_form _ _ c.in_err-name.field-0.0 c.from_residual.ensures.1
    (let_name_halts _ _ c.in_err-name.ensures.stop)

pub returns-in_err-value-clause-stop : goal.returns-in_err-value-clause-stop
returns-in_err-value-clause-stop c =
    exits stmt_form _ _ c.in_err-value.field-0.0 c.from_residual-in_err-value.ensures.1
    (let_halts _ c.in_ok-name.ensures.read c.in_err-value.ensures.stop)

pub returns-clause-read : goal.returns-clause-read
returns-clause-read c =
    let_read c.in_ok-name.ensures.read c.in_ok-value.ensures.read
