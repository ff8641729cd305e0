-- That an index is known.
use Rattle.std.proofs.Common.{◌≡◌, ℕ, List, ◌∷◌, ◌++◌, refl, sym, subst, arith, Option, Some, None, slice_get, Any, IfSome}
use Rattle.std.specs.Prelude.{option_map}
use Rattle.std.proofs.lemmas.Option.{slice_get_within, get_or_from_slice_get}
use Rattle.binder_cache.specs.Known.{KnownRule, Knows, BringsFirst, AddsFirst}

module _ {R A : Type 0} where
  first_known : (found : KnownRule R A) (rest new : List (KnownRule R A)) → new ≡ found ∷ rest → Knows new found.index
  first_known found rest new e = subst (λ (ks : List (KnownRule R A)). Knows ks found.index) (sym e) (0, found, omega arith, refl, refl)

  pub brings_known : (P : R → Type 0) (old new : List (KnownRule R A)) (index : ℕ) → BringsFirst P old new index → Knows new index
  brings_known P old new index b = subst (Knows new) b.index_is (first_known b.found (b.before ++ b.after) new b.new_is)

  pub adds_known : (old new : List (KnownRule R A)) (index : ℕ) (rule : R) (note : A) → AddsFirst old new index rule note → Knows new index
  adds_known old new index rule note a = first_known record { index = index; word = a.word; rule = rule; note = note } old new a.new_is

  pub named_known : (known : List (KnownRule R A)) (word index : ℕ) → Any (λ k. (k.word ≡ word) × (k.index ≡ index)) known → Knows known index
  named_known known word index a = (a.0, a.1, a.2, a.3, a.4.1)

  pub place_known : (known : List (KnownRule R A)) (place : ℕ) (r : Option ℕ) → r ≡ option_map (λ k. k.index) (slice_get known place) → IfSome r (Knows known)
  place_known known place r e = subst (λ (o : Option ℕ). IfSome o (Knows known)) (sym e)
      (elim (slice_get known place) as (λ o. slice_get known place ≡ o → IfSome (option_map (λ (k : KnownRule R A). k.index) o) (Knows known)) [
        | None ↦ λ h. tt
        | Some k ↦ λ h. (place, k, slice_get_within known place k h, get_or_from_slice_get known place k k h, refl)
      ] refl)
