use Rattle.script_tokens.proofs.RefusalLaws.{not_refused}
use Rattle.script_tokens.proofs.laws.tokens_are_not_refused.Goals as goal

pub returns : goal.returns
returns c = not_refused
