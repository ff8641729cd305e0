use Rattle.std.proofs.Common.{ℕ, ◌<◌, sym, ◌∙◌, vec_len}
use Rattle.std.proofs.lemmas.List.Elements.{All-contains}
use Rattle.std.proofs.lemmas.Option.{slice_get_read}
use Rattle.binder_cache.proofs.Places.{brings_first, moved_length, moved_all, held_at, shown_index}
use Rattle.binder_cache.proofs.rows.KnownRules.find.Goals as goal

pub to_front-requires : goal.to_front-requires
to_front-requires g c = let f = c.in_ok-place.ensures.found in held_at f.before f.after c.in_ok-place.place c.args.self.now.order f.order_is

pub invariant_of-self : goal.invariant_of-self
invariant_of-self g c = let v = c.args.self.now in let f = c.in_ok-place.ensures.found in let s : ℕ = c.in_ok-place.place in let moved = c.to_front.ensures.moved f.before f.after f.order_is in record {
  room = v.room;
  counted = moved_length f.before f.after s v.order c.to_front.new.self f.order_is moved ∙ v.counted;
  once = c.to_front.ensures.order.distinct;
  placed = moved_all (λ x. x < vec_len v.rows) f.before f.after s v.order c.to_front.new.self f.order_is moved v.placed;
  apart = v.apart;
  worded = v.worded;
}

pub index-requires : goal.index-requires
index-requires g c = let v = c.args.self.now in let f = c.in_ok-place.ensures.found in All-contains (λ x. x < vec_len v.rows) v.order c.in_ok-place.place v.placed (held_at f.before f.after c.in_ok-place.place v.order f.order_is)

pub returns-clause-found : goal.returns-clause-found
returns-clause-found g c = let v = c.args.self.now in let P = g.P.Probe.accepts c.args.probe.now in let f = c.in_ok-place.ensures.found in let s : ℕ = c.in_ok-place.place in
    let near : s < vec_len v.rows = All-contains (λ x. x < vec_len v.rows) v.order s v.placed (held_at f.before f.after s v.order f.order_is) in
    let read = slice_get_read v.rows.items (vec_len v.rows) s c.index.result.now v.rows.ok.0 near c.index.ensures in
    brings_first P v.rows.items v.order c.to_front.new.self s f c.to_front.ensures.moved c.index-2.result (shown_index v.rows.items s c.index.result.now f.found read f.shows ∙ sym c.index-2.ensures)
