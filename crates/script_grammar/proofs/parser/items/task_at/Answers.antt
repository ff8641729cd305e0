use Rattle.script_grammar.specs.StatementForms.{declaration_form}
use Rattle.script_grammar.proofs.Exits.{exits}
use Rattle.script_grammar.proofs.ItemRules.{task_name_halts, task_body_halts, task_read}
use Rattle.script_grammar.proofs.parser.items.task_at.Goals as goal

pub returns-in_err-name-clause-stop : goal.returns-in_err-name-clause-stop
returns-in_err-name-clause-stop c =
    exits declaration_form _ _ c.in_err-name.field-0.0 c.from_residual.ensures.1
    (task_name_halts _ _ c.in_err-name.ensures.stop)

pub returns-in_err-body-clause-stop : goal.returns-in_err-body-clause-stop
returns-in_err-body-clause-stop c =
    exits declaration_form _ _ c.in_err-body.field-0.0 c.from_residual-in_err-body.ensures.1
    (task_body_halts _ c.in_ok-name.ensures.read c.in_err-body.ensures.stop)

pub returns-clause-read : goal.returns-clause-read
returns-clause-read c =
    task_read c.in_ok-name.ensures.read c.in_ok-body.ensures.read
