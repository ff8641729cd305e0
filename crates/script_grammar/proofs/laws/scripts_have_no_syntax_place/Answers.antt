use Rattle.script_grammar.proofs.SyntaxPlaces.{script_has_none}
use Rattle.script_grammar.proofs.laws.scripts_have_no_syntax_place.Goals as goal

pub returns : goal.returns
returns c = script_has_none
