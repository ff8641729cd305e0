use Rattle.script_program.proofs.Causes.{one_script}
use Rattle.script_program.proofs.laws.bytes_are_one_script.Goals as goal

pub returns : goal.returns
returns c = one_script c.bytes_have_one_list_of_tokens.ensures c.trees_have_distinct_spellings.ensures
