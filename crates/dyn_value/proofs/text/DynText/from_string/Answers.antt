use Rattle.std.proofs.Common.{length, arith, ap}
use Rattle.dyn_value.proofs.Encoding.{text_of_string}
use Rattle.dyn_value.proofs.text.DynText.from_string.Goals as goal

pub returns-clause-proper : goal.returns-clause-proper
returns-clause-proper c = text_of_string c.in_ok-text.text.text.value (omega (arith, ap length c.in_ok-text.ensures.ok))
