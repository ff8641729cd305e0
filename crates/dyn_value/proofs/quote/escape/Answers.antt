use Rattle.std.proofs.Common.{sym, ap, arith}
use Rattle.std.specs.Str.{chars}
use Rattle.std.proofs.lemmas.Bool.Decides.{nat_tests}
use Rattle.dyn_value.specs.Texts.{escaped}
use Rattle.dyn_value.proofs.quote.escape.Goals as goal

pub returns-in-34 : goal.returns-in-34
unfolding chars
returns-in-34 c = sym (ap escaped c.in-34.is)

pub returns-in-92 : goal.returns-in-92
unfolding chars
returns-in-92 c = sym (ap escaped c.in-92.is)

pub returns-in-10 : goal.returns-in-10
unfolding chars
returns-in-10 c = sym (ap escaped c.in-10.is)

pub returns-in-9 : goal.returns-in-9
unfolding chars
returns-in-9 c = sym (ap escaped c.in-9.is)

pub returns-in_default : goal.returns-in_default
returns-in_default c = grind (arith, nat_tests)
