use Rattle.std.proofs.Common.{◌∙◌, ap}
use Rattle.call_site.specs.Places.{ring_in}
use Rattle.call_site.proofs.Words.{zero_ring}
use Rattle.call_site.proofs.sites.Sites.new.Goals as goal

pub returns-clause-rings : goal.returns-clause-rings
returns-clause-rings c site = ap (λ z. ring_in z.0.words site) c.in_ok-table.ensures.4 ∙ zero_ring _ site
