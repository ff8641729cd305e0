-- Known rules in another order are the same ones, and their words differ still.
use Rattle.std.proofs.Common.{◌≡◌, ◌≢◌, ℕ, suc, false, List, [], ◌∷◌, map, sym, ap, ◌∙◌, arith, Contains, AllPairs, eqb, ne_eqb, eq-eqb, ⊎_elim}
use Rattle.std.specs.List.{AllByRecursion, IsDistinct}
use Rattle.std.specs.List.Sorted.{IsPermutation}
use Rattle.std.proofs.lemmas.Bool.Decides.{Decides-eqb, same_from_decides}
use Rattle.std.proofs.lemmas.List.Kept.{AllPairs-cons}
use Rattle.std.proofs.lemmas.List.Sorted.{IsPermutation-map}
use Rattle.std.proofs.lemmas.Map.Keys.{IsDistinct-IsPermutation}
use Rattle.binder_cache.specs.Known.{KnownRule}
use Rattle.cache_levels.specs.Memories.{AreApart}
use Rattle.cache_levels.proofs.Members.{all_from, contains_cases, contains_first, contains_later}

flips : (m n : ℕ) → eqb m n ≡ eqb n m
flips m n = let d = Decides-eqb n m in same_from_decides (eqb m n) (eqb n m) (Decides-eqb m n) (λ e. sym (d.0 e), λ e. d.1 (sym e))

module _ {X : Type 0} (f : X → ℕ) where
  unlike_all : (n : ℕ) (ys : List X) → ((y : X) → Contains ys y → n ≢ f y) → AllByRecursion (λ m. eqb n m ≡ false) (map f ys)
  unlike_all n [] g = tt
  unlike_all n (y ∷ ys) g = (ne_eqb n (f y) (g y (contains_first y ys)), unlike_all n ys (λ z c. g z (contains_later y ys z c)))

  unlike_one : (n : ℕ) (ys : List X) → AllByRecursion (λ m. eqb n m ≡ false) (map f ys) → (y : X) → Contains ys y → eqb n (f y) ≡ false
  unlike_one n [] a y c = absurd (let l = c.1 in omega arith)
  unlike_one n (z ∷ ys) a y c = ⊎_elim (λ (e : z ≡ y). ap (λ (x : X). eqb n (f x)) (sym e) ∙ a.0) (λ (d : Contains ys y). unlike_one n ys a.1 y d) (contains_cases z ys y c)

  distinct_from : (xs : List X) → AllPairs (λ one other. f one ≢ f other) xs → IsDistinct eqb (map f xs)
  unfolding IsDistinct
  distinct_from [] h = tt
  distinct_from (x ∷ xs) h = (
    unlike_all (f x) xs (λ y c e. h 0 (suc c.0) y (omega arith) (let l = c.1 in omega arith) (e ∙ ap f (sym c.2))),
    distinct_from xs (λ i j d l m. h (suc i) (suc j) d (omega arith) (omega arith)),
  )

  apart_from : (xs : List X) → IsDistinct eqb (map f xs) → AllPairs (λ one other. f one ≢ f other) xs
  unfolding IsDistinct
  apart_from [] h = λ i j d l m. absurd (omega arith)
  apart_from (x ∷ xs) h = AllPairs-cons (λ one other. f one ≢ f other) x xs
      (all_from (λ y. f x ≢ f y) xs (λ y c e. let no : eqb (f x) (f y) ≡ false = unlike_one (f x) xs h.0 y c in let yes = eq-eqb (f x) (f y) e in absurd (cc)))
      (apart_from xs h.1)

pub apart_stays : {R A : Type 0} (old new : List (KnownRule R A)) → IsPermutation old new → AreApart old → AreApart new
apart_stays {R} {A} old new moved apart = let word : KnownRule R A → ℕ = λ k. k.word in
    apart_from word new (IsDistinct-IsPermutation eqb flips (map word old) (map word new) (IsPermutation-map word old new moved) (distinct_from word old apart))
