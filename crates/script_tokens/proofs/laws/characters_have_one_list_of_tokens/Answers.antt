use Rattle.script_tokens.proofs.RefusalLaws.{one_list_at}
use Rattle.script_tokens.proofs.laws.characters_have_one_list_of_tokens.Goals as goal

pub returns : goal.returns
returns c = one_list_at
