-- What a settled word changes in the list of all words.
use Rattle.std.proofs.Common.{◌≡◌, ◌≢◌, ℕ, zero, suc, ◌+◌, ◌%◌, ◌<◌, List, ◌∷◌, length, get_or, set, take, replicate, sym, refl, ap, ◌∙◌, subst, arith, length-set, get_or-set_same, get_or-set_other}
use Rattle.call_site.specs.Places.{target_at, ring_at, count_at, target_in, entries_in, place_of, entered_in, each_of, ring_in}
use Rattle.call_site.specs.Settled.{Entered}

each_same : (f g : ℕ → ℕ) (n : ℕ) → ((i : ℕ) → i < n → f i ≡ g i) → each_of f n ≡ each_of g n
unfolding each_of
each_same f g zero same = refl
each_same f g (suc n) same = λ k. same 0 (omega arith) k ∷ each_same (λ i. f (suc i)) (λ i. g (suc i)) n (λ i l. same (suc i) (omega arith)) k

take_each : (f : ℕ → ℕ) (n m : ℕ) → take n (each_of f (n + m)) ≡ each_of f n
unfolding each_of
take_each f zero m = refl
take_each f (suc n) m = subst (λ k. take (suc n) (each_of f k) ≡ each_of f (suc n)) (let e : suc (n + m) ≡ suc n + m = omega arith in e) (ap (λ z. f 0 ∷ z) (take_each (λ i. f (suc i)) n m))

-- the words of a site that a change elsewhere leaves
pub ring_stays : (old new : List ℕ) (site : ℕ) → entries_in new site ≡ entries_in old site → ((place : ℕ) → place < 10 → get_or new (ring_at site place) 0 ≡ get_or old (ring_at site place) 0) → ring_in new site ≡ ring_in old site
ring_stays old new site count words = each_same (entered_in new site) (entered_in old site) 10
    (λ age l. ap (λ n. get_or new (ring_at site (place_of n age)) 0) count ∙ words (place_of (entries_in old site) age) (omega arith))

-- the place of a word once one more was entered
place_on : (entries age : ℕ) → age < 9 → place_of (entries + 1) (suc age) ≡ place_of entries age
place_on entries age l = omega arith

place_first : (entries : ℕ) → place_of (entries + 1) 0 ≡ entries % 10
place_first entries = omega arith

place_else : (entries age : ℕ) → age < 9 → place_of entries age ≢ entries % 10
place_else entries age l e = omega arith

-- the ring after a word was entered over the one that was entered first
pub ring_entered : (old new : List ℕ) (site word : ℕ) → count_at site < length old → new ≡ set (set old (count_at site) (entries_in old site + 1)) (ring_at site (entries_in old site % 10)) word → ring_in new site ≡ word ∷ take 9 (ring_in old site)
unfolding each_of
ring_entered old new site word near is = let n : ℕ = entries_in old site in let mid : List ℕ = set old (count_at site) (n + 1) in let new' : List ℕ = set mid (ring_at site (n % 10)) word in
    let wide : length mid ≡ length old = length-set old (count_at site) (n + 1) in
    let count : entries_in new site ≡ n + 1 = ap (λ (l : List ℕ). get_or l (count_at site) 0) is ∙ get_or-set_other mid (ring_at site (n % 10)) (count_at site) word 0 (λ e. omega arith) ∙ get_or-set_same old (count_at site) (n + 1) 0 near in
    let at : (age : ℕ) → entered_in new site age ≡ get_or new' (ring_at site (place_of (n + 1) age)) 0 = (λ age k. get_or (is k) (ring_at site (place_of (count k) age)) 0) in
    let first : entered_in new site 0 ≡ word = at 0 ∙ ap (λ p. get_or new' (ring_at site p) 0) (place_first n) ∙ get_or-set_same mid (ring_at site (n % 10)) word 0 (omega arith) in
    let next : (age : ℕ) → age < 9 → entered_in new site (suc age) ≡ entered_in old site age = (λ age l. at (suc age) ∙ ap (λ p. get_or new' (ring_at site p) 0) (place_on n age l)
    ∙ get_or-set_other mid (ring_at site (n % 10)) (ring_at site (place_of n age)) word 0 (λ e. place_else n age l (omega arith))
    ∙ get_or-set_other old (count_at site) (ring_at site (place_of n age)) (n + 1) 0 (λ e. omega arith)) in
    λ k. first k ∷ (each_same (λ i. entered_in new site (suc i)) (entered_in old site) 9 next ∙ sym (take_each (entered_in old site) 9 1)) k

pub zeros_at : (n i : ℕ) → ◌≡◌ {A = ℕ} (get_or (replicate n 0) i 0) 0
zeros_at zero i = refl
zeros_at (suc n) zero = refl
zeros_at (suc n) (suc i) = zeros_at n i

-- what is entered leaves the words of other sites and this one's target
module _ (old new : List ℕ) (site word made : ℕ) (near : count_at site < length old) (e : Entered made site word (set old (target_at site) word) new) where
  abbrev mid : List ℕ
  mid = set old (target_at site) word

  abbrev counted : List ℕ
  counted = set mid (count_at site) (entries_in mid site + 1)

  stays : (i : ℕ) → i ≢ target_at site → i ≢ count_at site → i ≢ ring_at site e.place → get_or new i 0 ≡ get_or old i 0
  stays i t c r = ap (λ (l : List ℕ). get_or l i 0) e.new_is ∙ get_or-set_other counted (ring_at site e.place) i word 0 r ∙ get_or-set_other mid (count_at site) i (entries_in mid site + 1) 0 c ∙ get_or-set_other old (target_at site) i word 0 t

  pub settled_target : target_in new site ≡ word
  settled_target = let l = e.within in ap (λ (l : List ℕ). get_or l (target_at site) 0) e.new_is ∙ get_or-set_other counted (ring_at site e.place) (target_at site) word 0 (λ q. omega arith)
      ∙ get_or-set_other mid (count_at site) (target_at site) (entries_in mid site + 1) 0 (λ q. omega arith) ∙ get_or-set_same old (target_at site) word 0 (omega arith)

  pub settled_others : (other : ℕ) → other ≢ site → (target_in new other ≡ target_in old other) × (ring_in new other ≡ ring_in old other)
  settled_others other ne = let l = e.within in (
    stays (target_at other) (λ q. ne (omega arith)) (λ q. omega arith) (λ q. omega arith),
    ring_stays old new other (stays (count_at other) (λ q. omega arith) (λ q. ne (omega arith)) (λ q. omega arith)) (λ place m. stays (ring_at other place) (λ q. omega arith) (λ q. omega arith) (λ q. ne (omega arith))),
  )

  pub settled_ring : made ≡ 1 → ring_in new site ≡ word ∷ take 9 (ring_in old site)
  settled_ring one = let wide : length mid ≡ length old = length-set old (target_at site) word in
      ring_entered mid new site word (omega arith) (e.new_is ∙ ap (λ p. set counted (ring_at site p) word) (e.alone one))
      ∙ ap (λ (r : List ℕ). word ∷ take 9 r) (ring_stays old mid site (get_or-set_other old (target_at site) (count_at site) word 0 (λ q. omega arith)) (λ place l. get_or-set_other old (target_at site) (ring_at site place) word 0 (λ q. omega arith)))

pub zero_ring : (n : ℕ) (site : ℕ) → ring_in (replicate n 0) site ≡ replicate 10 0
unfolding each_of
zero_ring n site = let z : (age : ℕ) → ◌≡◌ {A = ℕ} (entered_in (replicate n 0) site age) 0 = λ age. zeros_at n (ring_at site (place_of (entries_in (replicate n 0) site) age)) in
    each_same (entered_in (replicate n 0) site) (λ _. 0) 10 (λ i _. z i)

-- an exchanged target leaves all rings and the other targets
module _ (old : List ℕ) (site word : ℕ) (near : target_at site < length old) where
  pub exchanged_target : target_in (set old (target_at site) word) site ≡ word
  exchanged_target = get_or-set_same old (target_at site) word 0 near

  pub exchanged_ring : (other : ℕ) → ring_in (set old (target_at site) word) other ≡ ring_in old other
  exchanged_ring other = ring_stays old (set old (target_at site) word) other (get_or-set_other old (target_at site) (count_at other) word 0 (λ q. omega arith)) (λ place l. get_or-set_other old (target_at site) (ring_at other place) word 0 (λ q. omega arith))

  pub exchanged_other : (other : ℕ) → other ≢ site → target_in (set old (target_at site) word) other ≡ target_in old other
  exchanged_other other ne = get_or-set_other old (target_at site) (target_at other) word 0 (λ q. ne (omega arith))
