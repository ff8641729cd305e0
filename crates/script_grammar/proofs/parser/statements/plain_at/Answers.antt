use Rattle.script_grammar.specs.StatementForms.{stmt_form}
use Rattle.script_grammar.proofs.Exits.{exits}
use Rattle.script_grammar.proofs.StatementSteps.{begun_halts, plain_halts, plain_read, no_place_stops, assignment_halts, assignment_read}
use Rattle.script_grammar.proofs.parser.statements.plain_at.Goals as goal

pub returns-in_err-expr-clause-stop : goal.returns-in_err-expr-clause-stop
returns-in_err-expr-clause-stop c =
    exits stmt_form _ _ c.in_err-expr.field-0.0 c.from_residual.ensures.1
    (begun_halts _ c.requires c.in_err-expr.ensures.stop)

pub returns-in_err-rest-clause-stop : goal.returns-in_err-rest-clause-stop
returns-in_err-rest-clause-stop c =
    exits stmt_form _ _ c.in_err-rest.field-0.0 c.from_residual-in_err-rest.ensures.1
    (plain_halts _ c.requires c.in_ok-expr.ensures.read c.in_default.ensures c.in_err-rest.ensures.stop)

pub returns-in_default-clause-read : goal.returns-in_default-clause-read
returns-in_default-clause-read c =
    plain_read c.requires c.in_ok-expr.ensures.read c.in_default.ensures c.in_ok-rest.ensures.read

pub returns-in_default-place_of-clause-stop : goal.returns-in_default-place_of-clause-stop
returns-in_default-place_of-clause-stop c =
    no_place_stops c.requires c.in_ok-expr.ensures.read c.in-Some.ensures c.in_default-place_of.ensures

pub returns-in_err-value-clause-stop : goal.returns-in_err-value-clause-stop
returns-in_err-value-clause-stop c =
    exits stmt_form _ _ c.in_err-value.field-0.0 c.from_residual-in_err-value.ensures.1
    (assignment_halts c.in-Some-place_of.place _ c.requires c.in_ok-expr.ensures.read c.in-Some.ensures c.in-Some-place_of.ensures
    c.in_err-value.ensures.stop)

pub returns-clause-read : goal.returns-clause-read
returns-clause-read c =
    assignment_read c.in-Some-place_of.place c.requires c.in_ok-expr.ensures.read c.in-Some.ensures c.in-Some-place_of.ensures
    c.in_ok-value.ensures.read c.assignment_of.ensures
