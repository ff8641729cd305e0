-- What a pass knows of the rules of each binder.
use Rattle.std.proofs.Common.{◌≡◌, ◌∙◌, ℕ, zero, suc, ◌+◌, ◌<◌, ◌≤◌, ⊎_elim, List, [], ◌∷◌, ◌++◌, length, get_or, slice_get, slice_set, Option, None, Some, refl, sym, ap, subst, arith}
use Rattle.std.proofs.lemmas.Bool.{cases_lt}
use Rattle.std.proofs.lemmas.Option.{slice_get_within, slice_get-get_or}
use Rattle.std.specs.Option.{option_map}
use Rattle.binder_cache.specs.declared.cache.Cache.{Cache}
use Rattle.expando_class.specs.declared.table.ClassTable.{ClassTable}
use Rattle.standard_binders.specs.declared.binder.Binder.{Binder}
use Rattle.standard_binders.specs.Functions.{Functions}
use Rattle.rule.specs.declared.rule.Rule.{Rule}
use Rattle.known_rules.specs.declared.known.KnownRules.{KnownRules}
use Rattle.known_rules.specs.Adoptions.{Setting, setting}
use Rattle.known_rules.specs.Knowledge.{published_in, rules_in, setting_of}
use Rattle.dlr_engine.specs.Knowing.{KnowsEach, KnowsNone, rules_of, setting_with}

module _ {A : Type 0} where
  got_before : (xs : List A) (x : A) (n : ℕ) → n < length xs → slice_get (xs ++ x ∷ []) n ≡ slice_get xs n
  got_before [] x n inside = absurd (omega (arith, inside))
  got_before (y ∷ ys) x zero inside = refl
  got_before (y ∷ ys) x (suc n) inside = got_before ys x n (omega (arith, inside))

  got_last : (xs : List A) (x : A) → slice_get (xs ++ x ∷ []) (length xs) ≡ Some x
  got_last [] x = refl
  got_last (y ∷ ys) x = got_last ys x

  got_past : (xs : List A) (n : ℕ) → length xs ≤ n → slice_get xs n ≡ None
  got_past [] n past = refl
  got_past (y ∷ ys) zero past = absurd (omega (arith, past))
  got_past (y ∷ ys) (suc n) past = got_past ys n (omega (arith, past))

  got_set : (xs : List A) (n : ℕ) (x : A) → n < length xs → slice_get (slice_set xs n x) n ≡ Some x
  got_set [] n x inside = absurd (omega (arith, inside))
  got_set (y ∷ ys) zero x inside = refl
  got_set (y ∷ ys) (suc n) x inside = got_set ys n x (omega (arith, inside))

  got_some : (xs : List A) (n : ℕ) → n < length xs → (x : A) × (slice_get xs n ≡ Some x)
  got_some [] n inside = absurd (omega (arith, inside))
  got_some (y ∷ ys) zero inside = (y, refl)
  got_some (y ∷ ys) (suc n) inside = got_some ys n (omega (arith, inside))

  same_some : (a b : A) → Some a ≡ Some b → a ≡ b
  same_some a b is = cc

-- where an element is put in the place of one with the same image, all images stay
set_kept : {A B : Type 0} (f : A → B) (xs : List A) (n m : ℕ) (x d : A) → f x ≡ f (get_or xs n d)
    → option_map f (slice_get (slice_set xs n x) m) ≡ option_map f (slice_get xs m)
set_kept f [] n m x d same = refl
set_kept f (y ∷ ys) zero zero x d same = ap (λ b. Some b) same
set_kept f (y ∷ ys) zero (suc m) x d same = refl
set_kept f (y ∷ ys) (suc n) zero x d same = refl
set_kept f (y ∷ ys) (suc n) (suc m) x d same = set_kept f ys n m x d same

-- what was mapped, where there is an image
mapped_some : {A B : Type 0} (f : A → B) (x : Option A) (b : B) → option_map f x ≡ Some b → (a : A) × (x ≡ Some a) × (f a ≡ b)
mapped_some f None b is = cc
mapped_some f (Some a) b is = (a, refl, same_some (f a) b is)

-- for each of so many binders there is what is known of its rules
abbrev pub KnowsFirst : List (Cache Rule) → List Binder → Functions → ClassTable → List KnownRules → ℕ → Type 0
KnowsFirst caches binders functions table known count = (n : ℕ) → n < count
    → option_map setting_of (slice_get known n) ≡ setting_with functions table (slice_get caches n) (slice_get binders n)

pub first_more : (caches : List (Cache Rule)) (binders : List Binder) (functions : Functions) (table : ClassTable) (known : List KnownRules)
    (k : KnownRules) (cache d : Cache Rule) (b e : Binder) (count : ℕ) → length known ≡ count → count < length caches → count < length binders
    → cache ≡ get_or caches count d → b ≡ get_or binders count e
    → setting_of k ≡ setting cache b functions table → KnowsFirst caches binders functions table known count
    → KnowsFirst caches binders functions table (known ++ k ∷ []) (count + 1)
first_more caches binders functions table known k cache d b e count long inside within cache_is binder_is is first =
    λ n below. ⊎_elim (λ (before : n < count).
    ap (option_map setting_of) (got_before known k n (omega (arith, before, long))) ∙ first n before)
    (λ (past : count ≤ n).
    let here : length known ≡ n = omega (arith, past, below, long) in
    let place : count ≡ n = omega (arith, past, below) in
    subst (λ (m : ℕ). option_map setting_of (slice_get (known ++ k ∷ []) m) ≡ setting_with functions table (slice_get caches m) (slice_get binders m)) place
    (subst (λ (m : ℕ). option_map setting_of (slice_get (known ++ k ∷ []) m) ≡ setting_with functions table (slice_get caches count) (slice_get binders count)) long
    (ap (option_map setting_of) (got_last known k) ∙ ap (λ (s : Setting). Some s) is
    ∙ ap (λ (x : Cache Rule). Some (setting x b functions table)) cache_is
    ∙ ap (λ (x : Binder). Some (setting (get_or caches count d) x functions table)) binder_is
    ∙ ap (λ (x : Option (Cache Rule)). setting_with functions table x (Some (get_or binders count e))) (sym (slice_get-get_or caches count d inside))
    ∙ ap (setting_with functions table (slice_get caches count)) (sym (slice_get-get_or binders count e within))))) (cases_lt n count)

pub all_first : (caches : List (Cache Rule)) (binders : List Binder) (functions : Functions) (table : ClassTable) (known : List KnownRules)
    (count : ℕ) → length caches ≡ length binders → length known ≡ count → length binders ≤ count
    → KnowsFirst caches binders functions table known count → KnowsEach caches binders functions table known
all_first caches binders functions table known count same long all first = λ n.
    ⊎_elim (λ (before : n < count). first n before)
    (λ (past : count ≤ n).
    ap (option_map setting_of) (got_past known n (omega (arith, past, long)))
    ∙ ap (λ (x : Option (Cache Rule)). setting_with functions table x (slice_get binders n)) (sym (got_past caches n (omega (arith, past, all, same)))))
    (cases_lt n count)

-- of no binder a rule is known, nor where of one binder more none is
pub none_more : (known : List KnownRules) (k : KnownRules) → rules_in k ≡ [] → published_in k ≡ 0 → KnowsNone known → KnowsNone (known ++ k ∷ [])
none_more [] k rules published none zero = (rules, published)
none_more [] k rules published none (suc n) = none n
none_more (x ∷ known) k rules published none zero = none 0
none_more (x ∷ known) k rules published none (suc n) = none_more known k rules published (λ m. none (suc m)) n

known_some : (s : Setting) (x : Option KnownRules) → option_map setting_of x ≡ Some s → (k : KnownRules) × (x ≡ Some k) × (setting_of k ≡ s)
known_some s x is = mapped_some setting_of x s is

-- what is known of a binder's rules is of its cache
pub knows_at : (caches : List (Cache Rule)) (binders : List Binder) (functions : Functions) (table : ClassTable) (known : List KnownRules)
    (n : ℕ) (b : Binder) → length caches ≡ length binders → KnowsEach caches binders functions table known → slice_get binders n ≡ Some b
    → (n < length caches) × (n < length known)
    × ((k : KnownRules) (c : Cache Rule) → setting_of (get_or known n k) ≡ setting (get_or caches n c) b functions table)
knows_at caches binders functions table known n b same each at =
    let low = slice_get_within binders n b at in
    let inside : n < length caches = omega (arith, low, same) in
    let cache = got_some caches n inside in
    let is : option_map setting_of (slice_get known n) ≡ Some (setting cache.0 b functions table) =
    each n ∙ ap (λ (x : Option (Cache Rule)). setting_with functions table x (slice_get binders n)) cache.1
    ∙ ap (λ (x : Option Binder). setting_with functions table (Some cache.0) x) at in
    let k = known_some (setting cache.0 b functions table) (slice_get known n) is in
    let within : n < length known = slice_get_within known n k.0 k.1 in (
      inside,
      within,
      λ d c.
          ap setting_of (same_some (get_or known n d) k.0 (sym (slice_get-get_or known n d within) ∙ k.1)) ∙ k.2
          ∙ ap (λ (x : Cache Rule). setting x b functions table)
          (same_some cache.0 (get_or caches n c) (sym cache.1 ∙ slice_get-get_or caches n c inside)),
    )

-- and so it is after a call
pub knows_set : (caches : List (Cache Rule)) (binders : List Binder) (functions : Functions) (table : ClassTable) (known : List KnownRules)
    (n : ℕ) (k d : KnownRules) → setting_of k ≡ setting_of (get_or known n d) → KnowsEach caches binders functions table known
    → KnowsEach caches binders functions table (slice_set known n k)
knows_set caches binders functions table known n k d same each = λ m. set_kept setting_of known n m k d same ∙ each m

pub rules_set : (known : List KnownRules) (n : ℕ) (k : KnownRules) → n < length known → rules_of (slice_get (slice_set known n k) n) ≡ rules_in k
rules_set known n k inside = ap rules_of (got_set known n k inside)
