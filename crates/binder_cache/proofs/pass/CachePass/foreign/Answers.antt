use Rattle.std.proofs.Common.{◌<◌, length, sym, ◌∙◌, subst, All}
use Rattle.std.proofs.lemmas.List.Elements.{recursion_from_All}
use Rattle.binder_cache.proofs.Places.{length-in_order}
use Rattle.binder_cache.proofs.pass.CachePass.foreign.Goals as goal

pub returns-clause-all : goal.returns-clause-all
returns-clause-all g c = let v = c.args.self.now in v.counted ∙ sym v.rules.counted
    ∙ sym (length-in_order v.rules.rows.items v.rules.order (recursion_from_All (λ x. x < length v.rules.rows.items) v.rules.order (subst (λ n. All (λ x. x < n) v.rules.order) v.rules.rows.ok.0 v.rules.placed)))
