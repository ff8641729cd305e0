-- How what a pass learns in a row adds up.
use Rattle.std.proofs.Common.{◌≡◌, ℕ, zero, suc, ◌+◌, ◌<◌, ◌≤◌, List, [], ◌∷◌, ◌++◌, length-append, append_assoc, sym, ◌∙◌, ap, subst, arith, All, AllPairs}
use Rattle.std.proofs.lemmas.List.Elements.{All-nil, All-cons, All-append, All-weaker, All-push, All-head, All-tail}
use Rattle.std.proofs.lemmas.List.Kept.{AllPairs-cons}
use Rattle.rule_cells.specs.declared.cells.Cells.{Cells}
use Rattle.rule_cells.specs.declared.cells.Known.{Known}
use Rattle.rule_cells.specs.Cells.{IsKnownOf}
use Rattle.binder_cache.specs.declared.pass.CachePass.{CachePass}
use Rattle.binder_cache.specs.declared.rows.Publication.{Publication}
use Rattle.binder_cache.specs.declared.rows.Row.{Row}
use Rattle.binder_cache.specs.Known.{KnownRule, AddsFirst}
use Rattle.binder_cache.specs.Row.{AreOf, AddsRow}
use Rattle.binder_cache.specs.Pass.{known_of, published_of, foreign_of, looked_of, Learns}

module _ {X : Type 0} (S : X → X → Type 0) where
  pairs_nil : AllPairs S []
  pairs_nil = λ i j d l h. absurd (omega arith)

  pairs_head : (x : X) (xs : List X) → AllPairs S (x ∷ xs) → All (S x) xs
  pairs_head x xs p = λ k d l. p zero (suc k) d (omega arith) (omega arith)

  pairs_tail : (x : X) (xs : List X) → AllPairs S (x ∷ xs) → AllPairs S xs
  pairs_tail x xs p = λ i j d l h. p (suc i) (suc j) d (omega arith) (omega arith)

  -- two lists in order make one where each of the first precedes each of the second
  pairs_append : (xs ys : List X) → AllPairs S xs → AllPairs S ys → All (λ x. All (S x) ys) xs → AllPairs S (xs ++ ys)
  pairs_append [] ys p q r = q
  pairs_append (x ∷ xs) ys p q r = AllPairs-cons S x (xs ++ ys) (All-append (S x) xs ys (pairs_head x xs p) (All-head (λ x. All (S x) ys) x xs r))
      (pairs_append xs ys (pairs_tail x xs p) q (All-tail (λ x. All (S x) ys) x xs r))

module _ {R A : Type 0} where
  -- the rows are of the cells with the new one too
  pub more_of : (cells : Cells (Publication R)) (old new : List (Row R A)) (known : Known (Publication R)) → AddsRow old new known → AreOf cells old → IsKnownOf cells known → AreOf cells new
  more_of cells old new known adds of here = let P : Row R A → Type 0 = λ row. IsKnownOf cells row.known in
      subst (All P) (sym adds.new_is) (All-push P old adds.row of (subst (IsKnownOf cells) (sym adds.known_is) here))

  pub learns_nothing : (Admits : R → A → Type 0) (old new : CachePass R A) → known_of new ≡ known_of old → published_of new ≡ published_of old → foreign_of new ≡ foreign_of old → looked_of old ≤ looked_of new → Learns Admits old new
  learns_nothing Admits old new known published foreign onward = record {
    added = [];
    new_is = known;
    admitted = All-nil (λ (k : KnownRule R A). Admits k.rule k.note);
    newest_first = pairs_nil (λ one other. other.index < one.index);
    looked = All-nil (λ (k : KnownRule R A). (looked_of old ≤ k.index) × (k.index < looked_of new));
    onward = onward;
    foreign = omega arith;
    few = new.few.1;
    published = published;
  }

  pub learns_one : (Admits : R → A → Type 0) (old new : CachePass R A) (index : ℕ) (rule : R) (note : A) → AddsFirst (known_of old) (known_of new) index rule note → Admits rule note → looked_of old ≤ index → index < looked_of new
      → published_of new ≡ published_of old → foreign_of new ≡ foreign_of old + 1 → Learns Admits old new
  learns_one Admits old new index rule note adds admits low high published foreign = let known : KnownRule R A = record { index = index; word = adds.word; rule = rule; note = note } in record {
    added = known ∷ [];
    new_is = adds.new_is;
    admitted = All-cons (λ (k : KnownRule R A). Admits k.rule k.note) known [] admits (All-nil (λ (k : KnownRule R A). Admits k.rule k.note));
    newest_first = AllPairs-cons (λ one other. other.index < one.index) known [] (All-nil (λ (k : KnownRule R A). k.index < index)) (pairs_nil (λ one other. other.index < one.index));
    looked = All-cons (λ (k : KnownRule R A). (looked_of old ≤ k.index) × (k.index < looked_of new)) known [] (low, high) (All-nil (λ (k : KnownRule R A). (looked_of old ≤ k.index) × (k.index < looked_of new)));
    onward = omega arith;
    foreign = foreign;
    few = new.few.1;
    published = published;
  }

  pub learns_more : (Admits More : R → A → Type 0) → ((rule : R) (note : A) → More rule note → Admits rule note) → (old mid new : CachePass R A) → Learns Admits old mid → Learns More mid new → Learns Admits old new
  learns_more Admits More weaker old mid new p q = let S : KnownRule R A → KnownRule R A → Type 0 = λ one other. other.index < one.index in
      let Between : KnownRule R A → Type 0 = λ k. (looked_of old ≤ k.index) × (k.index < looked_of new) in let onward : looked_of old ≤ looked_of new = (let a = p.onward in let b = q.onward in omega arith) in record {
        added = q.added ++ p.added;
        new_is = q.new_is ∙ ap (λ ks. q.added ++ ks) p.new_is ∙ sym (append_assoc q.added p.added (known_of old));
        admitted = All-append (λ (k : KnownRule R A). Admits k.rule k.note) q.added p.added (All-weaker (λ (k : KnownRule R A). More k.rule k.note) (λ (k : KnownRule R A). Admits k.rule k.note) (λ k. weaker k.rule k.note) q.added q.admitted) p.admitted;
        newest_first = pairs_append S q.added p.added q.newest_first p.newest_first
            (λ i d l. λ j e m. (let a = (q.looked i d l).0 in let b = (p.looked j e m).1 in omega arith));
        looked = All-append Between q.added p.added
            (All-weaker (λ (k : KnownRule R A). (looked_of mid ≤ k.index) × (k.index < looked_of new)) Between (λ k h. (let a = h.0 in let b = p.onward in omega arith, h.1)) q.added q.looked)
            (All-weaker (λ (k : KnownRule R A). (looked_of old ≤ k.index) × (k.index < looked_of mid)) Between (λ k h. (h.0, let a = h.1 in let b = q.onward in omega arith)) p.added p.looked);
        onward = onward;
        foreign = let a = p.foreign in let b = q.foreign in let c = length-append q.added p.added in omega arith;
        few = new.few.1;
        published = q.published ∙ p.published;
      }
