use Rattle.std.proofs.Common.{◌∙◌, ap}
use Rattle.std.specs.List.{fold}
use Rattle.expando_class.specs.Listing.{fed_names}
use Rattle.expando_class.proofs.Texts.{fed_each}
use Rattle.expando_class.proofs.names.NamesHash.hash.Goals as goal

pub returns : goal.returns
returns g c = c.hash.ensures ∙ ap (λ writes. fold g.H.Hasher.write c.args.state.now writes) (fed_each c.self.inside.names.items ∙ ap fed_names c.self.view_is)
