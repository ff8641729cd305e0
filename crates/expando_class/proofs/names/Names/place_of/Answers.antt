use Rattle.std.proofs.Common.{◌≡◌, ◌≢◌, ℕ, List, All, Some, slice_get, sym, ◌∙◌, ap, subst, arith}
use Rattle.std.specs.List.{slice_index_or}
use Rattle.std.specs.Str.{chars}
use Rattle.std.proofs.lemmas.Slice.Eq.{bytes_eq-Decides}
use Rattle.std.proofs.lemmas.List.Elements.{All-map}
use Rattle.expando_class.specs.Listing.{chars_of_each}
use Rattle.expando_class.proofs.Texts.{chars_in, unlike, text_at}
use Rattle.expando_class.proofs.names.Names.place_of.Goals as goal

pub returns-then-eq-clause-some : goal.returns-then-eq-clause-some
returns-then-eq-clause-some c = let texts = c.deref-other-items.result.now in
    subst (λ (names : List (List ℕ)). slice_get names c.loop-place.place ≡ Some (chars c.args.name.now)) (ap chars_of_each c.deref-other-items.ensures.value ∙ c.self.view_is)
    (text_at texts c.loop-place.place c.other-item.result c.loop-place-test.true c.other-item.is
    ∙ ap (λ bytes. Some (chars bytes)) (sym c.as_str.ensures.value ∙ (bytes_eq-Decides c.as_str.result.now c.args.name.now).0 (sym c.eq.ensures ∙ c.if-eq.true)))

pub returns-clause-none : goal.returns-clause-none
returns-clause-none c = let texts = c.deref-other-items.result.now in
    subst (λ (names : List (List ℕ)). All (λ other. other ≢ chars c.args.name.now) names) (ap chars_of_each c.deref-other-items.ensures.value ∙ c.self.view_is)
    (All-map (λ other. other ≢ chars c.args.name.now) chars_in texts (λ k d l. unlike (slice_index_or texts k d) c.args.name.now c.utf8.name (c.loop-place.invariant k d (omega arith) (omega arith))))
