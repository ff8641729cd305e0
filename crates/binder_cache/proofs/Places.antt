-- The rules at the places of an order, beside the rows that hold them.
use Rattle.std.proofs.Common.{◌≡◌, ◌≢◌, ℕ, zero, suc, ◌+◌, ◌<◌, ◌≤◌, ◌^◌, ◌⊎◌, ⊎_elim, inl, inr, true, false, cond, List, [], ◌∷◌, ◌++◌, length, take, drop, get_or, refl, sym, ◌∙◌, ap, subst, arith, Option, Some, None, slice_get, Contains, All, AllPairs, length-append}
use Rattle.std.specs.Prelude.{option_map}
use Rattle.std.specs.List.{AllByRecursion, AllWithin, IsDistinct, cons_option}
use Rattle.std.proofs.Math.Dec.{eqb, ltb}
use Rattle.std.proofs.lemmas.Bool.{eqb-false, eqb-true, lt-ltb, ltb-true}
use Rattle.std.proofs.lemmas.Bool.Decides.{eqb_tells}
use Rattle.std.proofs.lemmas.List.{take_more}
use Rattle.std.proofs.lemmas.List.Elements.{All-from_recursion, recursion_from_All, All-contains, All-cons, All-push, filter_map-append, Contains-append_right}
use Rattle.std.proofs.lemmas.List.Kept.{AllPairs-cons}
use Rattle.std.proofs.lemmas.Map.Steps.{length-le_from_distinct_below}
use Rattle.std.proofs.lemmas.Map.Views.{Contains-from_any}
use Rattle.std.proofs.lemmas.Option.{slice_get_within, get_or_from_slice_get, slice_get-get_or, none-some, slice_get_past}
use Rattle.rule_cells.specs.Cells.{index_of}
use Rattle.binder_cache.specs.declared.rows.Row.{Row}
use Rattle.binder_cache.specs.Known.{KnownRule, BringsFirst}
use Rattle.binder_cache.specs.Row.{shown, shown_at, in_order, word_for, HasWords, IsFirst}

-- a number is in a list, or differs from each of its elements
place_of : (s : ℕ) (xs : List ℕ) → Contains xs s ⊎ AllByRecursion (λ y. eqb s y ≡ false) xs
place_of s [] = inr tt
place_of s (x ∷ xs) = ⊎_elim (λ (h : (eqb s x ≡ true) × (s ≡ x)). inl (0, omega arith, sym h.1))
    (λ (h : (eqb s x ≡ false) × (s ≢ x)). ⊎_elim (λ (c : Contains xs s). inl (suc c.0, (let l : c.0 < length xs = c.1 in omega arith), c.2)) (λ (a : AllByRecursion (λ y. eqb s y ≡ false) xs). inr (h.0, a)) (place_of s xs))
    (eqb_tells s x)

-- an order of as many places as there are below a number has each
pub each_placed : (order : List ℕ) (n s : ℕ) → IsDistinct eqb order → All (λ x. x < n) order → length order ≡ n → s < n → Contains order s
unfolding IsDistinct
each_placed order n s distinct below counted here = ⊎_elim (λ (c : Contains order s). c)
    (λ (a : AllByRecursion (λ y. eqb s y ≡ false) order). absurd (
    let more : length (s ∷ order) ≤ n = length-le_from_distinct_below (s ∷ order) n (a, distinct) (λ q t. All-contains (λ x. x < n) (s ∷ order) q (All-cons (λ x. x < n) s order here below) (Contains-from_any {eq = eqb} (λ x y e. eqb-true x y e) q (s ∷ order) t)) in
    omega arith))
    (place_of s order)

-- words differ where places and indexes do
pub word_small : (s i : ℕ) → i < 2 ^ 63 → word_for s i ≡ i + 1
word_small s i l = subst (λ b. cond b (i + 1) (2 ^ 63 + 1 + s) ≡ i + 1) (sym (lt-ltb i (2 ^ 63) l)) refl

pub word_named : (s i : ℕ) → word_for s i ≢ 0
word_named s i = elim (ltb i (2 ^ 63)) as (λ b. cond b (i + 1) (2 ^ 63 + 1 + s) ≢ 0) [ true ↦ λ e. absurd (omega arith) | false ↦ λ e. absurd (omega arith) ]

pub word_apart : (s t i j : ℕ) → s ≢ t → i ≢ j → word_for s i ≢ word_for t j
word_apart s t i j places indexes =
    elim (ltb i (2 ^ 63)) as (λ b. ltb i (2 ^ 63) ≡ b → cond b (i + 1) (2 ^ 63 + 1 + s) ≢ word_for t j) [
      | true ↦ λ h. let small : i < 2 ^ 63 = ltb-true i (2 ^ 63) h in elim (ltb j (2 ^ 63)) as (λ b. i + 1 ≢ cond b (j + 1) (2 ^ 63 + 1 + t)) [ true ↦ λ e. indexes (omega arith) | false ↦ λ e. absurd (omega arith) ]
      | false ↦ λ h. elim (ltb j (2 ^ 63)) as (λ b. ltb j (2 ^ 63) ≡ b → 2 ^ 63 + 1 + s ≢ cond b (j + 1) (2 ^ 63 + 1 + t)) [
        | true ↦ λ k. let small : j < 2 ^ 63 = ltb-true j (2 ^ 63) k in λ e. absurd (omega arith)
        | false ↦ λ k e. places (omega arith)
      ] refl
    ] refl

nothing : (order : List ℕ) → AllByRecursion (λ _. Unit {0}) order
nothing [] = tt
nothing (s ∷ order) = (tt, nothing order)

split_at : (order : List ℕ) (i s : ℕ) → slice_get order i ≡ Some s → order ≡ take i order ++ s ∷ drop (suc i) order
split_at [] i s e = absurd (none-some s e)
split_at (t ∷ order) zero s e = ap (λ z. z ∷ order) (let r : t ≡ s = cc in r)
split_at (t ∷ order) (suc i) s e = ap (λ z. t ∷ z) (split_at order i s e)

-- an element that comes first leaves the length, and what holds of each
pub moved_length : (us vs : List ℕ) (s : ℕ) (old new : List ℕ) → old ≡ us ++ s ∷ vs → new ≡ s ∷ us ++ vs → length new ≡ length old
moved_length us vs s old new e f = let p : length old ≡ length us + suc (length vs) = ap length e ∙ length-append us (s ∷ vs) in let q : length new ≡ suc (length us + length vs) = ap length f ∙ ap suc (length-append us vs) in omega arith

moved_each : (P : ℕ → Type 0) (us vs : List ℕ) (s : ℕ) → AllByRecursion P (us ++ s ∷ vs) → AllByRecursion P (s ∷ us ++ vs)
moved_each P [] vs s h = h
moved_each P (x ∷ us) vs s h = let m = moved_each P us vs s h.1 in (m.0, (h.0, m.1))

pub moved_all : (P : ℕ → Type 0) (us vs : List ℕ) (s : ℕ) (old new : List ℕ) → old ≡ us ++ s ∷ vs → new ≡ s ∷ us ++ vs → All P old → All P new
moved_all P us vs s old new e f all = subst (All P) (sym f) (All-from_recursion P (s ∷ us ++ vs) (moved_each P us vs s (recursion_from_All P (us ++ s ∷ vs) (subst (All P) e all))))

pub held_at : (us vs : List ℕ) (s : ℕ) (xs : List ℕ) → xs ≡ us ++ s ∷ vs → Contains xs s
held_at us vs s xs e = subst (λ z. Contains z s) (sym e) (Contains-append_right us (s ∷ vs) s (0, omega arith, refl))

pub placed_at : (xs : List ℕ) (k s : ℕ) → slice_get xs k ≡ Some s → Contains xs s
placed_at xs k s e = (k, slice_get_within xs k s e, get_or_from_slice_get xs k s s e)

module _ {X : Type 0} where
  contains_more : (o : Option X) (xs : List X) (x : X) → Contains xs x → Contains (cons_option o xs) x
  contains_more None xs x c = c
  contains_more (Some y) xs x c = (suc c.0, (let l : c.0 < length xs = c.1 in omega arith), c.2)

  pub item_at : (xs : List X) (s : ℕ) → s < length xs → (x : X) × (slice_get xs s ≡ Some x)
  item_at [] s l = absurd (omega arith)
  item_at (x ∷ xs) zero l = (x, refl)
  item_at (x ∷ xs) (suc s) l = item_at xs s (omega arith)

  none_past : (xs : List X) (i : ℕ) → slice_get xs i ≡ None → length xs ≤ i
  none_past [] i e = omega arith
  none_past (x ∷ xs) zero e = absurd (none-some x (sym e))
  none_past (x ∷ xs) (suc i) e = let l : length xs ≤ i = none_past xs i e in omega arith

  slice_get-append : (xs : List X) (y : X) (s : ℕ) → s < length xs → slice_get (xs ++ y ∷ []) s ≡ slice_get xs s
  slice_get-append [] y s l = absurd (omega arith)
  slice_get-append (x ∷ xs) y zero l = refl
  slice_get-append (x ∷ xs) y (suc s) l = slice_get-append xs y s (omega arith)

  slice_get-last : (xs : List X) (y : X) → slice_get (xs ++ y ∷ []) (length xs) ≡ Some y
  slice_get-last [] y = refl
  slice_get-last (x ∷ xs) y = slice_get-last xs y

module _ {R A : Type 0} where
  -- none of the first rows has this index, or this word
  abbrev pub NoneAt : List (Row R A) → ℕ → ℕ → Type 0
  NoneAt rows index n = AllWithin (λ (row : Row R A). index_of row.known ≢ index) rows 0 n

  abbrev pub NoneNamed : List (Row R A) → ℕ → ℕ → Type 0
  NoneNamed rows word n = AllWithin (λ (row : Row R A). row.word ≢ word) rows 0 n

  -- what holds of each row that an order names holds of each of its rules
  pub each_shown : (P : KnownRule R A → Type 0) (Q : ℕ → Type 0) (rows : List (Row R A)) → ((s : ℕ) (row : Row R A) → Q s → slice_get rows s ≡ Some row → P (shown row))
      → (order : List ℕ) → AllByRecursion Q order → AllByRecursion P (in_order rows order)
  each_shown P Q rows step [] all = tt
  each_shown P Q rows step (s ∷ order) all = elim (slice_get rows s) as (λ o. slice_get rows s ≡ o → AllByRecursion P (cons_option (option_map shown o) (in_order rows order))) [
    | None ↦ λ e. each_shown P Q rows step order all.1
    | Some row ↦ λ e. (step s row all.0 e, each_shown P Q rows step order all.1)
  ] refl

  -- what holds of each row holds of each rule
  pub all_shown : (P : KnownRule R A → Type 0) (rows : List (Row R A)) (order : List ℕ) → All (λ row. P (shown row)) rows → All P (in_order rows order)
  all_shown P rows order all = All-from_recursion P (in_order rows order) (each_shown P (λ _. Unit {0}) rows
      (λ s row _ e. subst (λ (z : Row R A). P (shown z)) (get_or_from_slice_get rows s row row e) (all s row (slice_get_within rows s row e))) order (nothing order))

  -- a pair of rules of an order that names each place once
  pub each_pair : (S : KnownRule R A → KnownRule R A → Type 0) (rows : List (Row R A)) → ((s t : ℕ) (a b : Row R A) → s ≢ t → slice_get rows s ≡ Some a → slice_get rows t ≡ Some b → S (shown a) (shown b))
      → (order : List ℕ) → IsDistinct eqb order → AllPairs S (in_order rows order)
  unfolding IsDistinct
  each_pair S rows step [] distinct = λ i j d l h. absurd (omega arith)
  each_pair S rows step (s ∷ order) distinct = elim (slice_get rows s) as (λ o. slice_get rows s ≡ o → AllPairs S (cons_option (option_map shown o) (in_order rows order))) [
    | None ↦ λ e. each_pair S rows step order distinct.1
    | Some a ↦ λ e. AllPairs-cons S (shown a) (in_order rows order)
        (All-from_recursion (S (shown a)) (in_order rows order) (each_shown (S (shown a)) (λ t. eqb s t ≡ false) rows (λ t b n f. step s t a b (eqb-false s t n) e f) order distinct.0))
        (each_pair S rows step order distinct.1)
  ] refl

  pub rows_apart : (rows : List (Row R A)) → AllPairs (λ one other. index_of one.known ≢ index_of other.known) rows → (s t : ℕ) (a b : Row R A) → s ≢ t → slice_get rows s ≡ Some a → slice_get rows t ≡ Some b → index_of a.known ≢ index_of b.known
  rows_apart rows apart s t a b places e f = let s_in : s < length rows = slice_get_within rows s a e in let t_in : t < length rows = slice_get_within rows t b f in
      let at : (d : Row R A) → (get_or rows s d ≡ a) × (get_or rows t d ≡ b) = λ d. (get_or_from_slice_get rows s a d e, get_or_from_slice_get rows t b d f) in
      ⊎_elim (λ (l : s < t). subst (λ (z : Row R A × Row R A). index_of z.0.known ≢ index_of z.1.known) (λ i. ((at a).0 i, (at a).1 i)) (apart s t a l t_in))
      (λ (l : t < s). λ q. subst (λ (z : Row R A × Row R A). index_of z.1.known ≢ index_of z.0.known) (λ i. ((at a).0 i, (at a).1 i)) (apart t s a l s_in) (sym q))
      (let c : (s < t) ⊎ (t < s) = grind arith in c)

  pub indexes_apart : (rows : List (Row R A)) → AllPairs (λ one other. index_of one.known ≢ index_of other.known) rows → (order : List ℕ) → IsDistinct eqb order → AllPairs (λ one other. one.index ≢ other.index) (in_order rows order)
  indexes_apart rows apart order distinct = each_pair (λ one other. one.index ≢ other.index) rows (λ s t a b n e f. rows_apart rows apart s t a b n e f) order distinct

  word_is : (rows : List (Row R A)) → HasWords rows → (s : ℕ) (a : Row R A) → slice_get rows s ≡ Some a → a.word ≡ word_for s (index_of a.known)
  word_is rows words s a e = subst (λ (z : Row R A). z.word ≡ word_for s (index_of z.known)) (get_or_from_slice_get rows s a a e) (words s a (slice_get_within rows s a e))

  pub words_apart : (rows : List (Row R A)) → AllPairs (λ one other. index_of one.known ≢ index_of other.known) rows → HasWords rows → (order : List ℕ) → IsDistinct eqb order → AllPairs (λ one other. one.word ≢ other.word) (in_order rows order)
  words_apart rows apart words order distinct = each_pair (λ one other. one.word ≢ other.word) rows (λ s t a b n e f same.
      word_apart s t (index_of a.known) (index_of b.known) n (rows_apart rows apart s t a b n e f) (sym (word_is rows words s a e) ∙ same ∙ word_is rows words t b f)) order distinct

  -- a row's word by its index
  pub row_word : (rows : List (Row R A)) → HasWords rows → (row : Row R A) → Contains rows row → (index_of row.known < 2 ^ 63 → row.word ≡ index_of row.known + 1) × (row.word ≢ 0)
  row_word rows words row c = let is : row.word ≡ word_for c.0 (index_of row.known) = subst (λ (z : Row R A). z.word ≡ word_for c.0 (index_of z.known)) c.2 (words c.0 row c.1) in
      ((λ l. is ∙ word_small c.0 (index_of row.known) l), λ z. word_named c.0 (index_of row.known) (sym is ∙ z))

  -- the only row with its index
  pub only_row : (rows : List (Row R A)) → AllPairs (λ one other. index_of one.known ≢ index_of other.known) rows → (order : List ℕ) (row : Row R A) → Contains rows row → All (λ known. known.index ≡ index_of row.known → known ≡ shown row) (in_order rows order)
  only_row rows apart order row c = let P : KnownRule R A → Type 0 = λ known. known.index ≡ index_of row.known → known ≡ shown row in
      let here : slice_get rows c.0 ≡ Some row = slice_get-get_or rows c.0 row c.1 ∙ ap Some c.2 in
      All-from_recursion P (in_order rows order) (each_shown P (λ _. Unit {0}) rows
      (λ s a _ e same. ⊎_elim (λ (h : (eqb s c.0 ≡ true) × (s ≡ c.0)). let q : Some a ≡ Some row = sym e ∙ ap (slice_get rows) h.1 ∙ here in ap shown (let r : a ≡ row = cc in r))
      (λ (h : (eqb s c.0 ≡ false) × (s ≢ c.0)). absurd (rows_apart rows apart s c.0 a row h.1 e here same)) (eqb_tells s c.0)) order (nothing order))

  -- the rule of a row whose place the order names
  in_order_has : (rows : List (Row R A)) (order : List ℕ) (s : ℕ) (row : Row R A) → slice_get rows s ≡ Some row → (k : ℕ) → k < length order → get_or order k s ≡ s → Contains (in_order rows order) (shown row)
  in_order_has rows [] s row e k l h = absurd (omega arith)
  in_order_has rows (t ∷ order) s row e zero l h = let at : shown_at rows t ≡ Some (shown row) = ap (λ z. shown_at rows z) h ∙ ap (option_map shown) e in
      subst (λ (o : Option (KnownRule R A)). Contains (cons_option o (in_order rows order)) (shown row)) (sym at) (0, omega arith, refl)
  in_order_has rows (t ∷ order) s row e (suc k) l h = contains_more (shown_at rows t) (in_order rows order) (shown row) (in_order_has rows order s row e k (omega arith) h)

  pub row_known : (rows : List (Row R A)) (order : List ℕ) → IsDistinct eqb order → All (λ x. x < length rows) order → length order ≡ length rows → (row : Row R A) → Contains rows row → Contains (in_order rows order) (shown row)
  row_known rows order distinct below counted row c = let o = each_placed order (length rows) c.0 distinct below counted c.1 in
      in_order_has rows order c.0 row (slice_get-get_or rows c.0 row c.1 ∙ ap Some c.2) o.0 o.1 o.2

  -- the rule at a place of the order
  pub in_order_at : (rows : List (Row R A)) (order : List ℕ) → AllByRecursion (λ x. x < length rows) order → (p s : ℕ) → slice_get order p ≡ Some s → slice_get (in_order rows order) p ≡ shown_at rows s
  in_order_at rows [] below p s e = absurd (none-some s e)
  in_order_at rows (t ∷ order) below p s e = let o = item_at rows t below.0 in let at : shown_at rows t ≡ Some (shown o.0) = ap (option_map shown) o.1 in
      subst (λ (z : Option (KnownRule R A)). slice_get (cons_option z (in_order rows order)) p ≡ shown_at rows s) (sym at)
      (elim p as (λ q. slice_get (t ∷ order) q ≡ Some s → slice_get (shown o.0 ∷ in_order rows order) q ≡ shown_at rows s) [
        | zero ↦ λ h. sym at ∙ ap (λ z. shown_at rows z) (let r : t ≡ s = cc in r)
        | suc q ↦ λ h. in_order_at rows order below.1 q s h
      ] e)

  pub length-in_order : (rows : List (Row R A)) (order : List ℕ) → AllByRecursion (λ x. x < length rows) order → length (in_order rows order) ≡ length order
  length-in_order rows [] below = refl
  length-in_order rows (t ∷ order) below = let o = item_at rows t below.0 in let at : shown_at rows t ≡ Some (shown o.0) = ap (option_map shown) o.1 in
      subst (λ (z : Option (KnownRule R A)). length (cons_option z (in_order rows order)) ≡ suc (length order)) (sym at) (ap suc (length-in_order rows order below.1))

  pub at_none : (rows : List (Row R A)) (order : List ℕ) → All (λ x. x < length rows) order → (i place : ℕ) → slice_get order i ≡ None → i ≤ place → slice_get (in_order rows order) place ≡ None
  at_none rows order below i place e l = let short : length order ≤ i = none_past order i e in let same : length (in_order rows order) ≡ length order = length-in_order rows order (recursion_from_All (λ x. x < length rows) order below) in
      slice_get_past (in_order rows order) place (omega arith)

  pub at_some : (rows : List (Row R A)) (order : List ℕ) → All (λ x. x < length rows) order → (place s : ℕ) (row : Row R A) → slice_get order place ≡ Some s → slice_get rows s ≡ Some row → slice_get (in_order rows order) place ≡ Some (shown row)
  at_some rows order below place s row e f = in_order_at rows order (recursion_from_All (λ x. x < length rows) order below) place s e ∙ ap (option_map shown) f

  -- one row more, whose place stands first
  in_order-more : (rows : List (Row R A)) (row : Row R A) (order : List ℕ) → AllByRecursion (λ x. x < length rows) order → in_order (rows ++ row ∷ []) order ≡ in_order rows order
  in_order-more rows row [] below = refl
  in_order-more rows row (s ∷ order) below = λ i. cons_option (option_map shown (slice_get-append rows row s below.0 i)) (in_order-more rows row order below.1 i)

  pub in_order-first : (rows : List (Row R A)) (row : Row R A) (order : List ℕ) → All (λ x. x < length rows) order → in_order (rows ++ row ∷ []) (length rows ∷ order) ≡ shown row ∷ in_order rows order
  in_order-first rows row order below = λ i. cons_option (option_map shown (slice_get-last rows row i)) (in_order-more rows row order (recursion_from_All (λ x. x < length rows) order below) i)

  -- the walk along the order, one place on
  pub more_fail : (P : KnownRule R A → Type 0) (rows : List (Row R A)) (order : List ℕ) (i s : ℕ) (row : Row R A) → slice_get order i ≡ Some s → slice_get rows s ≡ Some row → P (shown row) → All P (in_order rows (take i order)) → All P (in_order rows (take (i + 1) order))
  more_fail P rows order i s row at e here all =
      let on : take (i + 1) order ≡ take i order ++ s ∷ [] = take_more order i 0 (slice_get_within order i s at) ∙ ap (λ z. take i order ++ z ∷ []) (get_or_from_slice_get order i s 0 at) in
      let last : in_order rows (s ∷ []) ≡ shown row ∷ [] = ap (λ (o : Option (Row R A)). cons_option (option_map shown o) []) e in
      subst (All P) (sym (ap (in_order rows) on ∙ filter_map-append (shown_at rows) (take i order) (s ∷ []) ∙ ap (λ zs. in_order rows (take i order) ++ zs) last)) (All-push P (in_order rows (take i order)) (shown row) all here)

  pub first_at : (P : R → Type 0) (rows : List (Row R A)) (order : List ℕ) (i s : ℕ) (row : Row R A) → slice_get order i ≡ Some s → slice_get rows s ≡ Some row → P (shown row).rule → All (λ known. ¬ P known.rule) (in_order rows (take i order)) → IsFirst P rows order s
  first_at P rows order i s row at e here all = record { before = take i order; after = drop (suc i) order; order_is = split_at order i s at; fails = all; found = shown row; shows = ap (option_map shown) e; passes = here }

  pub brings_first : (P : R → Type 0) (rows : List (Row R A)) (old new : List ℕ) (s : ℕ) (f : IsFirst P rows old s) → ((before after : List ℕ) → old ≡ before ++ s ∷ after → new ≡ s ∷ before ++ after)
      → (index : ℕ) → f.found.index ≡ index → BringsFirst P (in_order rows old) (in_order rows new) index
  brings_first P rows old new s f moved index is =
      let here : (order : List ℕ) → in_order rows (s ∷ order) ≡ f.found ∷ in_order rows order = λ order. ap (λ (o : Option (KnownRule R A)). cons_option o (in_order rows order)) f.shows in
      record {
        before = in_order rows f.before;
        found = f.found;
        after = in_order rows f.after;
        old_is = ap (in_order rows) f.order_is ∙ filter_map-append (shown_at rows) f.before (s ∷ f.after) ∙ ap (λ zs. in_order rows f.before ++ zs) (here f.after);
        new_is = ap (in_order rows) (moved f.before f.after f.order_is) ∙ here (f.before ++ f.after) ∙ ap (λ zs. f.found ∷ zs) (filter_map-append (shown_at rows) f.before f.after);
        fails = f.fails;
        passes = f.passes;
        index_is = is;
      }

  pub shown_index : (rows : List (Row R A)) (s : ℕ) (row : Row R A) (found : KnownRule R A) → slice_get rows s ≡ Some row → shown_at rows s ≡ Some found → found.index ≡ index_of row.known
  shown_index rows s row found e f = let q : Some found ≡ Some (shown row) = sym f ∙ ap (option_map shown) e in ap (λ (k : KnownRule R A). k.index) (let r : found ≡ shown row = cc in r)
