use Rattle.std.proofs.Common.{◌∙◌}
use Rattle.expando_class.specs.Listing.{names_eq}
use Rattle.expando_class.proofs.Texts.{eq_of_texts}
use Rattle.expando_class.proofs.names.NamesPartialEq.eq.Goals as goal

pub returns : goal.returns
returns c = c.eq.ensures ∙ eq_of_texts c.self.inside.names.items c.other.inside.names.items ∙ (λ i. names_eq (c.self.view_is i) (c.other.view_is i))
