use Rattle.script_grammar.proofs.SyntaxPlaces.{one_place}
use Rattle.script_grammar.proofs.laws.tokens_have_one_syntax_place.Goals as goal

pub returns : goal.returns
returns c = one_place
