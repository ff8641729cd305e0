use Rattle.std.proofs.Common.{sym, subst}
use Rattle.script_grammar.specs.Forms.{Reads}
use Rattle.script_grammar.specs.StatementForms.{params_form}
use Rattle.script_grammar.proofs.Exits.{exits}
use Rattle.script_grammar.proofs.ItemRules.{open_halts, no_params_read, first_name_halts, further_halts, params_read}
use Rattle.script_grammar.proofs.parser.items.params_at.Goals as goal

pub returns-in_err-rest-clause-stop : goal.returns-in_err-rest-clause-stop
returns-in_err-rest-clause-stop c =
    exits params_form _ _ c.in_err-rest.field-0.0 c.from_residual.ensures.1
    (open_halts _ _ c.in_err-rest.ensures.stop)

pub returns-in-Some-clause-read : goal.returns-in-Some-clause-read
returns-in-Some-clause-read c =
    subst (λ z. Reads params_form c.args.tokens.now z c.in-Some.rest.now) (sym c.new.ensures)
    (no_params_read c.in_ok-rest.ensures.read c.in-Some.ensures)

pub returns-in_err-first-clause-stop : goal.returns-in_err-first-clause-stop
returns-in_err-first-clause-stop c =
    exits params_form _ _ c.in_err-first.field-0.0 c.from_residual-in_err-first.ensures.1
    (first_name_halts _ c.in_ok-rest.ensures.read c.in_default.ensures c.in_err-first.ensures.stop)

pub returns-in_err-names-clause-stop : goal.returns-in_err-names-clause-stop
returns-in_err-names-clause-stop c =
    exits params_form _ _ c.in_err-names.field-0.0 c.from_residual-in_err-names.ensures.1
    (further_halts _ c.in_ok-rest.ensures.read c.in_default.ensures c.in_ok-first.ensures.read c.in_err-names.ensures.stop)

pub returns-clause-read : goal.returns-clause-read
returns-clause-read c =
    params_read c.in_ok-rest.ensures.read c.in_default.ensures c.in_ok-first.ensures.read c.in_ok-names.ensures.read
