use Rattle.dyn_value.proofs.TextAsInt.{text_number}
use Rattle.dyn_value.proofs.conversions.convert.Goals as goal

pub returns-in-Int-clause-number : goal.returns-in-Int-clause-number
returns-in-Int-clause-number c = text_number c.to_int.result c.args.value.now c.args.to c.to_int.ensures
