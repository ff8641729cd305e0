use Rattle.script_grammar.specs.StatementForms.{declaration_form}
use Rattle.script_grammar.proofs.Exits.{exits}
use Rattle.script_grammar.proofs.ItemRules.{shared_name_halts, shared_halts, shared_read}
use Rattle.script_grammar.proofs.parser.items.shared_at.Goals as goal

pub returns-in_err-name-clause-stop : goal.returns-in_err-name-clause-stop
returns-in_err-name-clause-stop c =
    exits declaration_form _ _ c.in_err-name.field-0.0 c.from_residual.ensures.1
    (shared_name_halts _ _ c.in_err-name.ensures.stop)

pub returns-in_err-rest-clause-stop : goal.returns-in_err-rest-clause-stop
returns-in_err-rest-clause-stop c =
    exits declaration_form _ _ c.in_err-rest.field-0.0 c.from_residual-in_err-rest.ensures.1
    (shared_halts _ c.in_ok-name.ensures.read c.in_err-rest.ensures.stop)

pub returns-clause-read : goal.returns-clause-read
returns-clause-read c =
    shared_read c.in_ok-name.ensures.read c.in_ok-rest.ensures.read
