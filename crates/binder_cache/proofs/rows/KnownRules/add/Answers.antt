use Rattle.std.proofs.Common.{◌<◌, ◌∷◌, ◌∙◌, ap, subst, All}
use Rattle.binder_cache.specs.Row.{in_order}
use Rattle.binder_cache.proofs.Places.{in_order-first}
use Rattle.binder_cache.proofs.rows.KnownRules.add.Goals as goal

pub returns-clause-rules : goal.returns-clause-rules
returns-clause-rules g c = let v = c.args.self.now in record {
  word = c.word_at-word.result;
  new_is = (λ i. in_order (c.push_reserved.ensures.items i) ((c.push_front.ensures.pushed ∙ ap (λ n. n ∷ v.order) (c.len-place.ensures ∙ v.rows.ok.0)) i))
      ∙ in_order-first v.rows.items record { known = c.args.known; word = c.word_at-word.result; note = c.args.note } v.order (subst (λ n. All (λ x. x < n) v.order) v.rows.ok.0 v.placed);
}
