use Rattle.std.proofs.Common.{rules, arith, sym, subst, ◌∙◌, ◌<◌, ◌^◌, get_or, ℕ}
use Rattle.call_site.specs.Places.{count_at}
use Rattle.call_site.proofs.Keeps.{draws, stores}
use Rattle.call_site.proofs.sites.Sites.enter.Goals as goal

pub fetch_add-entries-requires : goal.fetch_add-entries-requires
fetch_add-entries-requires c = let t = c.args.self.now.table.shared in let seat = c.args.pass.now.seat in let few : get_or seat.me.0.words (count_at c.args.site) 0 < 2 ^ 60 = (let a = c.requires.below in let b = c.requires.few in omega arith) in
    (search rules, omega (arith, c.args.self.now.sized), draws t.key.words t.table_id.slots seat.id c.count_at.result seat.me (subst (λ (k : ℕ). get_or seat.me.0.words k 0 < 2 ^ 60) (sym c.count_at.ensures) few))

pub store-requires : goal.store-requires
store-requires c = let t = c.args.self.now.table.shared in let seat = c.fetch_add-entries.new.seat in
    (c.fetch_add-entries.ensures.0 ∙ c.requires.own.0, omega (arith, c.args.self.now.sized), stores t.key.words t.table_id.slots seat.id _ _ seat.me)
