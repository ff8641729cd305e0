use Rattle.std.proofs.Common.{not, rules}
use Rattle.std.proofs.lemmas.Fn.{filter_same}
use Rattle.restrictions.specs.Sets.{is_in}
use Rattle.restrictions.proofs.set.Restrictions.without_own.Goals as goal

pub returns : goal.returns
returns c = filter_same _ (λ r. not (is_in r c.args.self.now)) _ (λ x b q k. (search (rules, k), search (rules, k))) _ _ c.retain.ensures.filtered
