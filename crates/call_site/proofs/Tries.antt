-- The tries of a ring's words, by their age.
use Rattle.std.proofs.Common.{◌≡◌, ℕ, zero, suc, ◌<◌, List, [], ◌∷◌, get_or, refl, ap, ◌∙◌, arith, All}
use Rattle.std.proofs.lemmas.List.Elements.{All-nil, All-cons}
use Rattle.binder_cache.specs.Known.{KnownRule}
use Rattle.call_site.specs.Places.{each_of, entered_in, entries_in, place_of, ring_at, count_at, target_at, target_in}
use Rattle.call_site.specs.declared.memo.Memo.{Memo}
use Rattle.call_site.specs.Chosen.{Hits, PassedOver, FirstHit}

pub all_each : (P : ℕ → Type 0) (f : ℕ → ℕ) (n : ℕ) → ((i : ℕ) → i < n → P (f i)) → All P (each_of f n)
unfolding each_of
all_each P f zero h = All-nil P
all_each P f (suc n) h = All-cons P (f 0) (each_of (λ i. f (suc i)) n) (h 0 (omega arith)) (all_each P (λ i. f (suc i)) n (λ i l. h (suc i) (omega arith)))

module _ {R A : Type 0} (P : R → Type 0) (known : List (KnownRule R A)) where
  pub hit_at : (f : ℕ → ℕ) (n i index : ℕ) → i < n → ((j : ℕ) → j < i → PassedOver P known (f j)) → Hits P known (f i) index → FirstHit P known (each_of f n) index
  unfolding each_of
  hit_at f zero i index l over hits = absurd (omega arith)
  hit_at f (suc n) zero index l over hits = record { before = []; word = f 0; after = each_of (λ i. f (suc i)) n; ring_is = refl; over = All-nil (PassedOver P known); hits = hits }
  hit_at f (suc n) (suc i) index l over hits = let r = hit_at (λ i. f (suc i)) n i index (omega arith) (λ j m. over (suc j) (omega arith)) hits in
      record { before = f 0 ∷ r.before; word = r.word; after = r.after; ring_is = ap (λ z. f 0 ∷ z) r.ring_is; over = All-cons (PassedOver P known) (f 0) r.before (over 0 (omega arith)) r.over; hits = r.hits }

-- the word found at a site's target
pub target_is : (words : List ℕ) (site at word : ℕ) → at ≡ target_at site → word ≡ get_or words at 0 → word ≡ target_in words site
target_is words site at word at_is found = found ∙ ap (λ i. get_or words i 0) at_is

-- the word found at an age (0 is the word entered last), while only one pass was made
pub found_is : (memo memo' : Memo) → memo' ≡ memo → memo.made ≡ 1 → (site entries word age count place at : ℕ)
    → count ≡ count_at site → place ≡ place_of entries age → at ≡ ring_at site place
    → (memo.made ≡ 1 → entries ≡ get_or memo.words count 0) → (memo'.made ≡ 1 → word ≡ get_or memo'.words at 0) → word ≡ entered_in memo.words site age
found_is memo memo' same one site entries word age count place at count_is place_is at_is counted found =
    let e : entries ≡ entries_in memo.words site = counted one ∙ ap (λ i. get_or memo.words i 0) count_is in
    let is : at ≡ ring_at site (place_of (entries_in memo.words site) age) = at_is ∙ ap (ring_at site) (place_is ∙ ap (λ n. place_of n age) e) in
    found (ap (λ (z : Memo). z.made) same ∙ one) ∙ (λ k. get_or (same k).words (is k) 0)
