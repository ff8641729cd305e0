-- What the two directions of a ring do when a link changes.
use Rattle.std.proofs.Common.{◌≡◌, ℕ, zero, suc, ◌<◌, ◌≤◌, ◌⊎◌, ⊎_elim, ◌+◌, ◌-◌, add-one, false, cond, List, [], ◌∷◌, ◌++◌, length, get_or, refl, sym, ◌∙◌, ap, subst, arith, Option, Some, None, slice_get, inl, inr, Contains, All}
use Rattle.std.proofs.Math.ListN.{set, length-set}
use Rattle.std.proofs.Math.Dec.{eqb}
use Rattle.std.proofs.lemmas.Bool.{eqb-false, eqb-true, ne_eqb, lt-ltb}
use Rattle.std.proofs.lemmas.List.{get_or-set_other}
use Rattle.std.proofs.lemmas.Grind.{get_or-set_at}
use Rattle.std.proofs.lemmas.List.Elements.{All-from_recursion, recursion_from_All, All-contains}
use Rattle.std.proofs.lemmas.Option.{get_or_from_slice_get, slice_get_within}
use Rattle.std.proofs.lemmas.Map.Steps.{length-le_from_distinct_below}
use Rattle.std.proofs.lemmas.Map.Views.{Contains-from_any}
use Rattle.std.specs.List.{AllByRecursion, IsDistinct}
use Rattle.rule_order.specs.Order.{IsOrder}
use Rattle.rule_order.specs.Ring.{walk, indexes_along, Leads, IsRing}

-- x is no element
abbrev pub Apart : ℕ → List ℕ → Type 0
Apart x xs = AllByRecursion (λ y. eqb x y ≡ false) xs

apart_sym : (x y : ℕ) → eqb x y ≡ false → eqb y x ≡ false
apart_sym x y h = ne_eqb y x (λ e. eqb-false x y h (sym e))

-- what holds of each element of two lists
module _ (P : ℕ → Type 0) where
  each_left : (us vs : List ℕ) → AllByRecursion P (us ++ vs) → AllByRecursion P us
  each_left [] vs h = tt
  each_left (x ∷ xs) vs h = (h.0, each_left xs vs h.1)

  each_right : (us vs : List ℕ) → AllByRecursion P (us ++ vs) → AllByRecursion P vs
  each_right [] vs h = h
  each_right (x ∷ xs) vs h = each_right xs vs h.1

  each_cut : (us : List ℕ) (i : ℕ) (vs : List ℕ) → AllByRecursion P (us ++ i ∷ vs) → AllByRecursion P (us ++ vs)
  each_cut [] i vs h = h.1
  each_cut (x ∷ xs) i vs h = (h.0, each_cut xs i vs h.1)

  each_at : (us : List ℕ) (i : ℕ) (vs : List ℕ) → AllByRecursion P (us ++ i ∷ vs) → P i
  each_at [] i vs h = h.0
  each_at (x ∷ xs) i vs h = each_at xs i vs h.1

-- without one of its elements a list of distinct ones is distinct, and lacks it
IsDistinct-cut : (us : List ℕ) (i : ℕ) (vs : List ℕ) → IsDistinct eqb (us ++ i ∷ vs) → IsDistinct eqb (us ++ vs)
unfolding IsDistinct
IsDistinct-cut [] i vs h = h.1
IsDistinct-cut (x ∷ xs) i vs h = (each_cut (λ y. eqb x y ≡ false) xs i vs h.0, IsDistinct-cut xs i vs h.1)

apart_cut : (us : List ℕ) (i : ℕ) (vs : List ℕ) → IsDistinct eqb (us ++ i ∷ vs) → Apart i (us ++ vs)
unfolding IsDistinct
apart_cut [] i vs h = h.0
apart_cut (x ∷ xs) i vs h = (apart_sym x i (each_at (λ y. eqb x y ≡ false) xs i vs h.0), apart_cut xs i vs h.1)

apart_below : (n : ℕ) (xs : List ℕ) → AllByRecursion (λ x. x < n) xs → Apart n xs
apart_below n [] h = tt
apart_below n (x ∷ xs) h = (ne_eqb n x (λ e. let l : x < n = h.0 in absurd (omega arith)), apart_below n xs h.1)

absent_from_apart : (x : ℕ) (xs : List ℕ) → Apart x xs → Contains xs x → ⊥
absent_from_apart x xs h c = eqb-false x x (All-contains (λ y. eqb x y ≡ false) xs x (All-from_recursion (λ y. eqb x y ≡ false) xs h) c) refl

apart_from_absent : (x : ℕ) (xs : List ℕ) → (Contains xs x → ⊥) → Apart x xs
apart_from_absent x [] h = tt
apart_from_absent x (y ∷ ys) h = (ne_eqb x y (λ e. h (0, omega arith, sym e)), apart_from_absent x ys (λ c. h (suc c.0, (let l : c.0 < length ys = c.1 in omega arith), c.2)))

-- where an element stands
pub found : (xs : List ℕ) (i k : ℕ) → k < length xs → get_or xs k i ≡ i → (before : List ℕ) × (after : List ℕ) × (xs ≡ before ++ i ∷ after)
found [] i k l e = absurd (omega arith)
found (x ∷ xs) i zero l e = ([], xs, ap (λ y. y ∷ xs) e)
found (x ∷ xs) i (suc k) l e = let f = found xs i k (omega arith) e in (x ∷ f.0, f.1, ap (λ ys. x ∷ ys) f.2)

-- the walk along the links of a list is the list
walk-leads : (n p : List ℕ) (room a : ℕ) (xs : List ℕ) → AllByRecursion (λ x. x < 128) xs → length xs ≤ room → Leads n p a xs 128 → walk room n (get_or n a 0) ≡ xs
unfolding walk
walk-leads n p zero a [] small fits l = refl
walk-leads n p (suc room) a [] small fits l = subst (λ x. walk (suc room) n x ≡ []) (sym l.0) refl
walk-leads n p zero a (x ∷ xs) small fits l = absurd (omega arith)
walk-leads n p (suc room) a (x ∷ xs) small fits l = subst (λ y. walk (suc room) n y ≡ x ∷ xs) (sym l.0)
    (subst (λ b. cond b (x ∷ walk room n (get_or n x 0)) [] ≡ x ∷ xs) (sym (lt-ltb x 128 small.0)) (ap (λ ys. x ∷ ys) (walk-leads n p room x xs small.1 (omega arith) l.2)))

-- the way to an element, and the way on from it
leads_before : (n p : List ℕ) (a : ℕ) (us : List ℕ) (i : ℕ) (vs : List ℕ) (b : ℕ) → Leads n p a (us ++ i ∷ vs) b → Leads n p a us i
leads_before n p a [] i vs b l = (l.0, l.1)
leads_before n p a (x ∷ xs) i vs b l = (l.0, l.1, leads_before n p x xs i vs b l.2)

leads_after : (n p : List ℕ) (a : ℕ) (us : List ℕ) (i : ℕ) (vs : List ℕ) (b : ℕ) → Leads n p a (us ++ i ∷ vs) b → Leads n p i vs b
leads_after n p a [] i vs b l = l.2
leads_after n p a (x ∷ xs) i vs b l = leads_after n p x xs i vs b l.2

-- what holds of each place of a way holds of the one before its end, and of the one after its start
last_holds : (P : ℕ → Type 0) (n p : List ℕ) (a : ℕ) (xs : List ℕ) (b : ℕ) → P a → AllByRecursion P xs → Leads n p a xs b → P (get_or p b 0)
last_holds P n p a [] b h all l = subst P (sym l.1) h
last_holds P n p a (x ∷ xs) b h all l = last_holds P n p x xs b all.0 all.1 l.2

first_holds : (P : ℕ → Type 0) (n p : List ℕ) (a : ℕ) (xs : List ℕ) (b : ℕ) → P b → AllByRecursion P xs → Leads n p a xs b → P (get_or n a 0)
first_holds P n p a [] b h all l = subst P (sym l.0) h
first_holds P n p a (x ∷ xs) b h all l = subst P (sym l.0) all.0

-- a new link elsewhere leaves a way as it was
leads_stay : (n p : List ℕ) (i j a : ℕ) (xs : List ℕ) (b : ℕ) → eqb i a ≡ false → eqb j b ≡ false → Apart i xs → Apart j xs → Leads n p a xs b → Leads (set n i j) (set p j i) a xs b
leads_stay n p i j a [] b na nb ni nj l = (get_or-set_other n i a j 0 (λ e. eqb-false i a na (sym e)) ∙ l.0, get_or-set_other p j b i 0 (λ e. eqb-false j b nb (sym e)) ∙ l.1)
leads_stay n p i j a (x ∷ xs) b na nb ni nj l = (
  get_or-set_other n i a j 0 (λ e. eqb-false i a na (sym e)) ∙ l.0,
  get_or-set_other p j x i 0 (λ e. eqb-false j x nj.0 (sym e)) ∙ l.1,
  leads_stay n p i j x xs b ni.0 nb ni.1 nj.1 l.2,
)

-- a new link from a place right before a way makes the way begin there
leads_from : (n p : List ℕ) (i j a c : ℕ) (xs : List ℕ) (b : ℕ) → length n ≡ 129 → length p ≡ 129 → i ≤ 128 → j ≤ 128 → i ≡ a → get_or n c 0 ≡ j → IsDistinct eqb xs → Apart a xs → Apart b xs → Leads n p c xs b
    → Leads (set n i j) (set p j i) a xs b
unfolding IsDistinct
leads_from n p i j a c [] b nl pl il jl ia cj distinct na nb l = (
  get_or-set_at n i a j 0 (sym ia) (omega arith) ∙ sym cj ∙ l.0,
  get_or-set_at p j b i 0 (sym l.0 ∙ cj) (omega arith) ∙ ia,
)
leads_from n p i j a c (x ∷ xs) b nl pl il jl ia cj distinct na nb l = let jx : j ≡ x = sym cj ∙ l.0 in (
  get_or-set_at n i a j 0 (sym ia) (omega arith) ∙ jx,
  get_or-set_at p j x i 0 (sym jx) (omega arith) ∙ ia,
  leads_stay n p i j x xs b (subst (λ z. eqb z x ≡ false) (sym ia) na.0) (subst (λ z. eqb z b ≡ false) (sym jx) (apart_sym b x nb.0)) (subst (λ z. Apart z xs) (sym ia) na.1) (subst (λ z. Apart z xs) (sym jx) distinct.0) l.2,
)

-- a link past one element cuts it out of the way
leads_cut : (n p : List ℕ) (i before after a : ℕ) (us vs : List ℕ) (b : ℕ) → length n ≡ 129 → length p ≡ 129 → before ≤ 128 → after ≤ 128 → get_or p i 0 ≡ before → get_or n i 0 ≡ after
    → IsDistinct eqb (us ++ vs) → Apart a (us ++ vs) → Apart b (us ++ vs) → Leads n p a us i → Leads n p i vs b → Leads (set n before after) (set p after before) a (us ++ vs) b
unfolding IsDistinct
leads_cut n p i before after a [] vs b nl pl bl al pb na distinct far_a far_b l r = leads_from n p before after a i vs b nl pl bl al (sym pb ∙ l.1) na distinct far_a far_b r
leads_cut n p i before after a (x ∷ xs) vs b nl pl bl al pb na distinct far_a far_b l r =
    let from_a : ℕ → Type 0 = λ y. eqb a y ≡ false in let from_x : ℕ → Type 0 = λ y. eqb x y ≡ false in
    let apart_before : eqb a before ≡ false = subst from_a pb (last_holds from_a n p x xs i far_a.0 (each_left from_a xs vs far_a.1) l.2) in
    let apart_after : eqb x after ≡ false = subst from_x na (first_holds from_x n p i vs b (apart_sym b x far_b.0) (each_right from_x xs vs distinct.0) r) in (
      get_or-set_other n before a after 0 (eqb-false a before apart_before) ∙ l.0,
      get_or-set_other p after x before 0 (eqb-false x after apart_after) ∙ l.1,
      leads_cut n p i before after x xs vs b nl pl bl al pb na distinct.1 distinct.0 far_b.1 l.2 r,
    )

each_le : (xs : List ℕ) → AllByRecursion (λ x. x < 128) xs → AllByRecursion (λ x. x ≤ 128) xs
each_le [] h = tt
each_le (x ∷ xs) h = (let l : x < 128 = h.0 in omega arith, each_le xs h.1)

-- a list of distinct indexes with links in both directions is the one that the ring holds
pub ring_of : (n p xs : List ℕ) → (length n ≡ 129) × (length p ≡ 129) → IsOrder xs → Leads n p 128 xs 128 → (indexes_along n ≡ xs) × IsRing n p
ring_of n p xs places order l = let small = recursion_from_All (λ x. x < 128) xs order.small in
    let fits : length xs ≤ 128 = length-le_from_distinct_below xs 128 order.distinct (λ q h. All-contains (λ x. x < 128) xs q order.small (Contains-from_any {eq = eqb} (λ x y e. eqb-true x y e) q xs h)) in
    let is : indexes_along n ≡ xs = walk-leads n p 128 128 xs small fits l in
    (is, record { places = places; linked = subst (λ ys. Leads n p 128 ys 128) (sym is) l; order = subst IsOrder (sym is) order })

-- an index that the ring holds
module _ (n p : List ℕ) (ring : IsRing n p) (us : List ℕ) (i : ℕ) (vs : List ℕ) (split : indexes_along n ≡ us ++ i ∷ vs) where
  order_here : IsOrder (us ++ i ∷ vs)
  order_here = subst IsOrder split ring.order

  small_here : AllByRecursion (λ x. x < 128) (us ++ i ∷ vs)
  small_here = recursion_from_All (λ x. x < 128) (us ++ i ∷ vs) order_here.small

  linked_here : Leads n p 128 (us ++ i ∷ vs) 128
  linked_here = subst (λ ys. Leads n p 128 ys 128) split ring.linked

  pub index_small : i < 128
  index_small = each_at (λ x. x < 128) us i vs small_here

  pub previous_small : get_or p i 0 ≤ 128
  previous_small = last_holds (λ x. x ≤ 128) n p 128 us i (omega arith) (each_le us (each_left (λ x. x < 128) us (i ∷ vs) small_here)) (leads_before n p 128 us i vs 128 linked_here)

  pub next_small : get_or n i 0 ≤ 128
  next_small = first_holds (λ x. x ≤ 128) n p i vs 128 (omega arith) (each_le vs (each_right (λ x. x < 128) us (i ∷ vs) small_here).1) (leads_after n p 128 us i vs 128 linked_here)

  order_without : IsOrder (us ++ vs)
  order_without = record {
    distinct = IsDistinct-cut us i vs order_here.distinct;
    small = All-from_recursion (λ x. x < 128) (us ++ vs) (each_cut (λ x. x < 128) us i vs small_here);
  }

  pub absent_without : Contains (us ++ vs) i → ⊥
  absent_without = absent_from_apart i (us ++ vs) (apart_cut us i vs order_here.distinct)

  pub ring_without : (indexes_along (set n (get_or p i 0) (get_or n i 0)) ≡ us ++ vs) × IsRing (set n (get_or p i 0) (get_or n i 0)) (set p (get_or n i 0) (get_or p i 0))
  ring_without = let nl = ring.places.0 in let pl = ring.places.1 in let far : Apart 128 (us ++ vs) = apart_below 128 (us ++ vs) (each_cut (λ x. x < 128) us i vs small_here) in
      ring_of (set n (get_or p i 0) (get_or n i 0)) (set p (get_or n i 0) (get_or p i 0)) (us ++ vs) (length-set n (get_or p i 0) (get_or n i 0) ∙ nl, length-set p (get_or n i 0) (get_or p i 0) ∙ pl) order_without
      (leads_cut n p i (get_or p i 0) (get_or n i 0) 128 us vs 128 nl pl previous_small next_small refl refl order_without.distinct far far (leads_before n p 128 us i vs 128 linked_here) (leads_after n p 128 us i vs 128 linked_here))

-- an index that the ring does not hold, put first
module _ (n p : List ℕ) (ring : IsRing n p) where
  pub first_small : get_or n 128 0 ≤ 128
  first_small = first_holds (λ x. x ≤ 128) n p 128 (indexes_along n) 128 (omega arith) (each_le (indexes_along n) (recursion_from_All (λ x. x < 128) (indexes_along n) ring.order.small)) ring.linked

  order_pushed : (i : ℕ) → i < 128 → (Contains (indexes_along n) i → ⊥) → IsOrder (i ∷ indexes_along n)
  unfolding IsDistinct
  order_pushed i small absent = record {
    distinct = (apart_from_absent i (indexes_along n) absent, ring.order.distinct);
    small = All-from_recursion (λ x. x < 128) (i ∷ indexes_along n) (small, recursion_from_All (λ x. x < 128) (indexes_along n) ring.order.small);
  }

  pub ring_pushed : (i : ℕ) → i < 128 → (Contains (indexes_along n) i → ⊥) → let f = get_or n 128 0 in
      (indexes_along (set (set n i f) 128 i) ≡ i ∷ indexes_along n) × IsRing (set (set n i f) 128 i) (set (set p f i) i 128)
  ring_pushed i small absent = let nl = ring.places.0 in let pl = ring.places.1 in let f : ℕ = get_or n 128 0 in let xs : List ℕ = indexes_along n in let apart : Apart i xs = apart_from_absent i xs absent in
      let far : Apart 128 xs = apart_below 128 xs (recursion_from_All (λ x. x < 128) xs ring.order.small) in let il : i ≤ 128 = omega arith in
      let on : Leads (set n i f) (set p f i) i xs 128 = leads_from n p i f i 128 xs 128 nl pl il first_small refl refl ring.order.distinct apart far ring.linked in
      let no : eqb 128 i ≡ false = ne_eqb 128 i (λ e. absurd (omega arith)) in
      let l₁ : length (set n i f) ≡ 129 = length-set n i f ∙ nl in let l₂ : length (set p f i) ≡ 129 = length-set p f i ∙ pl in
      ring_of (set (set n i f) 128 i) (set (set p f i) i 128) (i ∷ xs) (length-set (set n i f) 128 i ∙ l₁, length-set (set p f i) i 128 ∙ l₂) (order_pushed i small absent) (
        get_or-set_at (set n i f) 128 128 i 0 refl (omega arith),
        get_or-set_at (set p f i) i i 128 0 refl (omega arith),
        leads_stay (set n i f) (set p f i) 128 i i xs 128 no (apart_sym 128 i no) far apart on,
      )

-- what a place of a way leads to
after_place : (n p : List ℕ) (a : ℕ) (xs : List ℕ) (b k i : ℕ) → Leads n p a xs b → slice_get xs k ≡ Some i → (slice_get xs (suc k) ≡ Some (get_or n i 0)) ⊎ ((slice_get xs (suc k) ≡ None) × (get_or n i 0 ≡ b))
after_place n p a [] b k i l e = absurd (cc)
after_place n p a (x ∷ []) b zero i l e = let is : x ≡ i = cc in inr (refl, subst (λ z. get_or n z 0 ≡ b) is l.2.0)
after_place n p a (x ∷ y ∷ ys) b zero i l e = let is : x ≡ i = cc in inl (ap Some (sym (subst (λ z. get_or n z 0 ≡ y) is l.2.0)))
after_place n p a (x ∷ xs) b (suc k) i l e = after_place n p x xs b k i l.2 e

-- the last place of a way
last_place : (n p : List ℕ) (a x : ℕ) (xs : List ℕ) (b : ℕ) → Leads n p a (x ∷ xs) b → slice_get (x ∷ xs) (length xs) ≡ Some (get_or p b 0)
last_place n p a x [] b l = ap Some (sym l.2.1)
last_place n p a x (y ∷ ys) b l = last_place n p x y ys b l.2

-- what a place of the ring names, an index or the end, is what the list has there
pub first_along : (n p xs : List ℕ) → AllByRecursion (λ x. x < 128) xs → Leads n p 128 xs 128 → (r : Option ℕ) → (get_or n 128 0 < 128 → r ≡ Some (get_or n 128 0)) → (get_or n 128 0 ≡ 128 → r ≡ None) → r ≡ slice_get xs 0
first_along n p [] small l r some none = none l.0
first_along n p (x ∷ xs) small l r some none = some (subst (λ z. z < 128) (sym l.0) small.0) ∙ ap Some l.0

pub last_along : (n p xs : List ℕ) → AllByRecursion (λ x. x < 128) xs → Leads n p 128 xs 128 → (r : Option ℕ) → (get_or p 128 0 < 128 → r ≡ Some (get_or p 128 0)) → (get_or p 128 0 ≡ 128 → r ≡ None) → r ≡ slice_get xs (length xs - 1)
last_along n p [] small l r some none = none l.1
last_along n p (x ∷ xs) small l r some none = let at : length (x ∷ xs) - 1 ≡ length xs = omega arith in
    some (last_holds (λ z. z < 128) n p x xs 128 small.0 small.1 l.2) ∙ sym (last_place n p 128 x xs 128 l) ∙ ap (slice_get (x ∷ xs)) (sym at)

pub next_along : (n p xs : List ℕ) → All (λ x. x < 128) xs → Leads n p 128 xs 128 → (i : ℕ) (r : Option ℕ) → (get_or n i 0 < 128 → r ≡ Some (get_or n i 0)) → (get_or n i 0 ≡ 128 → r ≡ None)
    → (k : ℕ) → slice_get xs k ≡ Some i → r ≡ slice_get xs (k + 1)
next_along n p xs small l i r some none k e = rw add-one (⊎_elim
    (λ (s : slice_get xs (suc k) ≡ Some (get_or n i 0)). some (subst (λ z. z < 128) (get_or_from_slice_get xs (suc k) (get_or n i 0) 0 s) (small (suc k) 0 (slice_get_within xs (suc k) (get_or n i 0) s))) ∙ sym s)
    (λ (s : (slice_get xs (suc k) ≡ None) × (get_or n i 0 ≡ 128)). none s.1 ∙ sym s.0)
    (after_place n p 128 xs 128 k i l e))
