use Rattle.std.proofs.Common.{sym, ◌∙◌, subst}
use Rattle.expando_class.specs.Listing.{AreNames}
use Rattle.expando_class.proofs.Texts.{cloned}
use Rattle.expando_class.proofs.names.NamesClone.clone.Goals as goal

pub invariant_of-result : goal.invariant_of-result
invariant_of-result c = subst AreNames (sym (cloned c.self.inside.names.items c.in_ok-clone.field-0.items c.in_ok-clone.ensures.cases.0)) c.self.invariant

pub returns : goal.returns
returns c = record { cases = cloned c.self.inside.names.items c.in_ok-clone.field-0.items c.in_ok-clone.ensures.cases.0 ∙ c.self.view_is }
