use Rattle.script_grammar.specs.StatementForms.{part_form}
use Rattle.script_grammar.proofs.Exits.{exits}
use Rattle.script_grammar.proofs.Places.{part_halts, part_read, no_part_stops}
use Rattle.script_grammar.proofs.parser.places.part_at.Goals as goal

pub returns-in_err-expr-clause-stop : goal.returns-in_err-expr-clause-stop
returns-in_err-expr-clause-stop c =
    exits part_form _ _ c.in_err-expr.field-0.0 c.from_residual.ensures.1 (part_halts _ _ c.in_err-expr.ensures.stop)

pub returns-in-Some-clause-read : goal.returns-in-Some-clause-read
returns-in-Some-clause-read c = part_read c.in_ok-expr.ensures.read c.in-Some.ensures

pub returns-in-None-clause-stop : goal.returns-in-None-clause-stop
returns-in-None-clause-stop c = no_part_stops c.in_ok-expr.ensures.read c.in-None.ensures
