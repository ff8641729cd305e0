use Rattle.std.proofs.Common.{sym, ap, subst}
use Rattle.expando_class.specs.Listing.{AreNames, chars_of_each}
use Rattle.expando_class.proofs.Texts.{no_names}
use Rattle.expando_class.proofs.names.Names.empty.Goals as goal

pub invariant_of-result : goal.invariant_of-result
invariant_of-result c = subst AreNames (sym (ap chars_of_each c.new.ensures.items)) no_names
