use Rattle.script_grammar.specs.StatementForms.{assigned_form}
use Rattle.script_grammar.proofs.Exits.{exits}
use Rattle.script_grammar.proofs.StatementSteps.{equal_halts, assigned_halts, assigned_read}
use Rattle.script_grammar.proofs.parser.statements.assigned_at.Goals as goal

pub returns-in_err-rest-clause-stop : goal.returns-in_err-rest-clause-stop
returns-in_err-rest-clause-stop c =
    exits assigned_form _ _ c.in_err-rest.field-0.0 c.from_residual.ensures.1
    (equal_halts _ _ c.in_err-rest.ensures.stop)

pub returns-in_err-value-clause-stop : goal.returns-in_err-value-clause-stop
returns-in_err-value-clause-stop c =
    exits assigned_form _ _ c.in_err-value.field-0.0 c.from_residual-in_err-value.ensures.1
    (assigned_halts _ c.in_ok-rest.ensures.read c.in_err-value.ensures.stop)

pub returns-clause-read : goal.returns-clause-read
returns-clause-read c =
    assigned_read c.in_ok-rest.ensures.read c.in_ok-value.ensures.read
