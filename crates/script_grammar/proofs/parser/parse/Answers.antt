use Rattle.std.proofs.Common.{subst}
use Rattle.script_grammar.specs.Halts.{Halts}
use Rattle.script_grammar.specs.StatementForms.{script_form}
use Rattle.script_grammar.proofs.SyntaxPlaces.{read_spells, read_only, stop_place}
use Rattle.script_grammar.proofs.parser.parse.Goals as goal

pub returns-in-Ok-clause-spelled : goal.returns-in-Ok-clause-spelled
returns-in-Ok-clause-spelled c = read_spells c.args.tokens.now c.in-Ok.script c.in-Ok.ensures.read

pub returns-in-Ok-clause-written : goal.returns-in-Ok-clause-written
returns-in-Ok-clause-written c = c.in-Ok.ensures.read.may.0

pub returns-in-Ok-clause-only : goal.returns-in-Ok-clause-only
returns-in-Ok-clause-only c = read_only c.args.tokens.now c.in-Ok.script c.in-Ok.ensures.read

pub returns-in-Err-Stop-clause-refused : goal.returns-in-Err-Stop-clause-refused
returns-in-Err-Stop-clause-refused c =
    stop_place c.args.tokens.now c.in-Err-Stop.rest.now
    (subst (Halts script_form c.args.tokens.now) c.in-Err-Stop.field-0-is c.in-Err-Stop.ensures.stop)
