use Rattle.std.proofs.Common.{◌≡◌, ap, sym, ◌∙◌, ◌+◌, length, not, rules}
use Rattle.std.specs.List.{count_by}
use Rattle.restrictions.specs.Sets.{is_in}
use Rattle.restrictions.proofs.Merged.{length-merged}
use Rattle.restrictions.proofs.set.Restrictions.fresh_in.Goals as goal

counted : (c : goal.After-count) → c.count.result ≡ count_by (λ y. not (is_in y c.args.self.now)) c.args.other.now
counted c = search rules

pub returns : goal.returns
returns c = ap (λ n. length c.args.self.now + n) (counted c) ∙ sym (length-merged c.args.self.now c.args.other.now)
