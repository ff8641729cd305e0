use Rattle.script_grammar.proofs.ScriptSteps.{script_unique}
use Rattle.script_grammar.proofs.laws.trees_have_distinct_spellings.Goals as goal

pub returns : goal.returns
returns c = script_unique
