-- Texts that are distinct, from a place on.
use Rattle.std.proofs.Common.{◌≡◌, ◌<◌, ◌≤◌, ℕ, suc, ◌+◌, true, false, Bool, List, [], ◌∷◌, length, drop, get_or, refl, sym, ap, ◌∙◌, subst, arith, add-one, drop-cons}
use Rattle.std.specs.List.{AllByRecursion, IsDistinct, list_any}
use Rattle.std.specs.Prelude.{◌↔◌}
use Rattle.std.proofs.lemmas.List.{drop_all}
use Rattle.std.proofs.lemmas.Map.Keys.{IsDistinct-head, IsDistinct-tail, IsDistinct-cons}

module _ {K : Type 0} (e : K → K → Bool) where
  -- no key is equal to one of these, by the test
  pub none_among : (k : K) (ks : List K) → list_any (e k) ks ≡ false → AllByRecursion (λ y. e k y ≡ false) ks
  none_among k [] none = tt
  none_among k (x ∷ ks) none = by_test (e k x) refl (λ h. none_among k ks h)
    where
      by_test : (b : Bool) → e k x ≡ b → (list_any (e k) ks ≡ false → AllByRecursion (λ y. e k y ≡ false) ks) → AllByRecursion (λ y. e k y ≡ false) (x ∷ ks)
      by_test true same rest = let no : list_any (e k) (x ∷ ks) ≡ true = rw same refl in cc
      by_test false other rest = (other, rest (let same : list_any (e k) (x ∷ ks) ≡ list_any (e k) ks = rw other refl in sym same ∙ none))

  pub some_among : (k : K) (ks : List K) → list_any (e k) ks ≡ true → AllByRecursion (λ y. e k y ≡ false) ks → ⊥
  some_among k [] some all = cc
  some_among k (x ∷ ks) some all =
      let first : e k x ≡ false = all.0 in
      some_among k ks (let same : list_any (e k) (x ∷ ks) ≡ list_any (e k) ks = rw first refl in sym same ∙ some) all.1

  -- one key more in front
  pub distinct_cons : (k : K) (ks : List K) → list_any (e k) ks ≡ false → IsDistinct e (k ∷ ks) ↔ IsDistinct e ks
  distinct_cons k ks none = (IsDistinct-tail e k ks, IsDistinct-cons e k ks (none_among k ks none))

  pub repeated : (k : K) (ks : List K) → list_any (e k) ks ≡ true → IsDistinct e (k ∷ ks) → ⊥
  repeated k ks some distinct = some_among k ks some (IsDistinct-head e k ks distinct)

  -- the keys from a place on: the one that stands there, and those after it
  from_place : (ks : List K) (place : ℕ) (k : K) → place < length ks → k ≡ get_or ks place k → drop place ks ≡ k ∷ drop (place + 1) ks
  from_place ks place k within here =
      drop-cons ks place k within ∙ ap (λ (x : K). x ∷ drop (suc place) ks) (sym here) ∙ ap (λ (n : ℕ). k ∷ drop n ks) (sym (add-one place))

  pub distinct_from : (ks : List K) (place : ℕ) (k : K) → place < length ks → k ≡ get_or ks place k → list_any (e k) (drop (place + 1) ks) ≡ false
      → IsDistinct e (drop place ks) ↔ IsDistinct e (drop (place + 1) ks)
  distinct_from ks place k within here none = rw (from_place ks place k within here) (distinct_cons k (drop (place + 1) ks) none)

  pub repeated_from : (ks : List K) (place : ℕ) (k : K) → place < length ks → k ≡ get_or ks place k → list_any (e k) (drop (place + 1) ks) ≡ true
      → IsDistinct e (drop place ks) → ⊥
  repeated_from ks place k within here some distinct =
      repeated k (drop (place + 1) ks) some (subst (IsDistinct e) (from_place ks place k within here) distinct)

  -- past the end there is none
  pub distinct_past : (ks : List K) (place : ℕ) → length ks ≤ place → IsDistinct e (drop place ks)
  unfolding IsDistinct
  distinct_past ks place past = rw (drop_all place ks past) tt
