use Rattle.script_grammar.specs.StatementForms.{value_form}
use Rattle.script_grammar.proofs.Exits.{exits}
use Rattle.script_grammar.proofs.StatementSteps.{value_halts, value_end_halts, value_read}
use Rattle.script_grammar.proofs.parser.statements.value_at.Goals as goal

pub returns-in_err-value-clause-stop : goal.returns-in_err-value-clause-stop
returns-in_err-value-clause-stop c =
    exits value_form _ _ c.in_err-value.field-0.0 c.from_residual.ensures.1
    (value_halts _ _ c.in_err-value.ensures.stop)

pub returns-in_err-rest-clause-stop : goal.returns-in_err-rest-clause-stop
returns-in_err-rest-clause-stop c =
    exits value_form _ _ c.in_err-rest.field-0.0 c.from_residual-in_err-rest.ensures.1
    (value_end_halts _ c.in_ok-value.ensures.read c.in_err-rest.ensures.stop)

pub returns-clause-read : goal.returns-clause-read
returns-clause-read c =
    value_read c.in_ok-value.ensures.read c.in_ok-rest.ensures.read
