use Rattle.script_tokens.proofs.RefusalLaws.{one_list}
use Rattle.script_tokens.proofs.laws.bytes_have_one_list_of_tokens.Goals as goal

pub returns : goal.returns
returns c = one_list
