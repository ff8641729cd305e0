use Rattle.script_grammar.specs.StatementForms.{stmt_form}
use Rattle.script_grammar.proofs.Exits.{exits}
use Rattle.script_grammar.proofs.StatementSteps.{print_halts, print_read}
use Rattle.script_grammar.proofs.parser.statements.print_at.Goals as goal

pub returns-in_err-value-clause-stop : goal.returns-in_err-value-clause-stop
returns-in_err-value-clause-stop c =
    exits stmt_form _ _ c.in_err-value.field-0.0 c.from_residual.ensures.1
    (print_halts _ _ c.in_err-value.ensures.stop)

pub returns-clause-read : goal.returns-clause-read
returns-clause-read c =
    print_read c.in_ok-value.ensures.read
