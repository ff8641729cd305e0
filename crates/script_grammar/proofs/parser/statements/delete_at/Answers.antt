use Rattle.script_grammar.specs.StatementForms.{stmt_form}
use Rattle.script_grammar.proofs.Exits.{exits}
use Rattle.script_grammar.proofs.StatementSteps.{delete_part_halts, delete_halts, delete_read}
use Rattle.script_grammar.proofs.parser.statements.delete_at.Goals as goal

pub returns-in_err-part-clause-stop : goal.returns-in_err-part-clause-stop
returns-in_err-part-clause-stop c =
    exits stmt_form _ _ c.in_err-part.field-0.0 c.from_residual.ensures.1
    (delete_part_halts _ _ c.in_err-part.ensures.stop)

pub returns-in_err-rest-clause-stop : goal.returns-in_err-rest-clause-stop
returns-in_err-rest-clause-stop c =
    exits stmt_form _ _ c.in_err-rest.field-0.0 c.from_residual-in_err-rest.ensures.1
    (delete_halts _ c.in_ok-part.ensures.read c.in_err-rest.ensures.stop)

pub returns-clause-read : goal.returns-clause-read
returns-clause-read c =
    delete_read c.in_ok-part.ensures.read c.in_ok-rest.ensures.read c.deletion_of.ensures
