-- The numbers of sites, and the binders that have them.
use Rattle.std.proofs.Common.{◌≡◌, inl, inr, ℕ, zero, suc, ◌+◌, ◌<◌, ◌≤◌, max, Bool, true, List, [], ◌∷◌, length, map, Some, refl, sym, ap, ◌∙◌, subst, arith, slice_get, get_or}
use Rattle.std.specs.Prelude.{nat_le}
use Rattle.std.specs.List.{All, list_all}
use Rattle.std.specs.Option.{option_map}
use Rattle.std.proofs.lemmas.Bool.{and_from, and_parts, cases_lt}
use Rattle.std.proofs.lemmas.Bool.Decides.{nat_tests, Decides-eqb}
use Rattle.std.proofs.lemmas.Grind.{get_or_default_zero}
use Rattle.std.proofs.lemmas.List.{length-map}
use Rattle.std.proofs.lemmas.Option.{slice_get_cases, slice_get_within, slice_get-get_or, slice_get-map}
use Rattle.standard_binders.specs.declared.binder.Binder.{Binder}
use Rattle.standard_binders.specs.Functions.{HaveFewParameters}
use Rattle.script_grammar.specs.declared.tree.Function.{Function}
use Rattle.script_sites.specs.Limits.{has_few_parameters}
use Rattle.script_sites.specs.Numbering.{IsNumbering, is_in_first_order}
use Rattle.script_program.specs.Names.{has_short_names}
use Rattle.script_program.specs.Programs.{params_of}

pub sites_number : (at_sites : List Binder) (sites : List ℕ) (binders : List Binder) → IsNumbering at_sites sites binders → length sites ≡ length at_sites
sites_number at_sites sites binders is = sym (length-map sites (slice_get binders)) ∙ ap length is.each ∙ length-map at_sites Some

-- the binder at a site is the one that has the site's number
pub numbered_at : (at_sites : List Binder) (sites : List ℕ) (binders : List Binder) (i : ℕ) (d : Binder) → IsNumbering at_sites sites binders → i < length at_sites →
    slice_get binders (get_or sites i 0) ≡ Some (get_or at_sites i d)
numbered_at at_sites sites binders i d is h =
    let lengths = sites_number at_sites sites binders is in
    let within : i < length sites = omega arith in
    let left : slice_get (map (slice_get binders) sites) i ≡ Some (slice_get binders (get_or sites i 0)) =
    slice_get-map (slice_get binders) sites i ∙ ap (option_map (slice_get binders)) (slice_get-get_or sites i 0 within) in
    let right : slice_get (map Some at_sites) i ≡ Some (Some (get_or at_sites i d)) =
    slice_get-map Some at_sites i ∙ ap (option_map Some) (slice_get-get_or at_sites i d h) in
    let both = ap (λ z. slice_get z i) is.each in
    cc

-- each site's number is one of a binder
pub numbers_within : (at_sites : List Binder) (sites : List ℕ) (binders : List Binder) → IsNumbering at_sites sites binders → All (λ n. n < length binders) sites
numbers_within at_sites sites binders is k d h =
    let lengths = sites_number at_sites sites binders is in
    elim ((slice_get_cases at_sites k).1) [
      | inl f ↦ subst (λ n. n < length binders) (sym (get_or_default_zero sites k d h))
          (slice_get_within binders (get_or sites k 0) (get_or at_sites k f.0) (numbered_at at_sites sites binders k f.0 is f.1))
      | inr past ↦ absurd (omega arith)
    ]

pub few : (n most : ℕ) → nat_le n most ≡ true → n ≤ most
few n most h = grind (arith, nat_tests)

-- sites are numbered, so they are as few as the binders at them
pub few_sites : (at_sites : List Binder) (sites : List ℕ) (binders : List Binder) → IsNumbering at_sites sites binders → nat_le (length at_sites) 4096 ≡ true → length sites ≤ 4096
few_sites at_sites sites binders is limit = let h = few (length at_sites) 4096 limit in omega (arith, sites_number at_sites sites binders is)

-- each number from the known ones on is the number of a site
number_is_used : (known : ℕ) (ns : List ℕ) (all k : ℕ) → is_in_first_order known ns all ≡ true → known ≤ k → k < all → (i : ℕ) × (i < length ns) × (get_or ns i 0 ≡ k)
number_is_used known [] all k e low high = let same = (Decides-eqb known all).0 e in absurd (omega arith)
number_is_used known (n ∷ ns) all k e low high =
    let p = and_parts (nat_le n known) (is_in_first_order (max known (n + 1)) ns all) e in
    elim (cases_lt k (max known (n + 1))) [
      | inl below ↦ (0, omega arith, (let small : n ≤ known = grind (arith, nat_tests) in omega arith))
      | inr above ↦ let next = number_is_used (max known (n + 1)) ns all k p.1 above high in (suc next.0, omega arith, next.2)
    ]

-- what holds of all holds of the one at a place
pub of_all : {A : Type 0} (p : A → Bool) (xs : List A) (i : ℕ) (x : A) → list_all p xs ≡ true → slice_get xs i ≡ Some x → p x ≡ true
of_all p [] i x all at = cc
of_all p (y ∷ ys) zero x all at = let same : y ≡ x = cc in ap p (sym same) ∙ (and_parts (p y) (list_all p ys) all).0
of_all p (y ∷ ys) (suc i) x all at = of_all p ys i x (and_parts (p y) (list_all p ys) all).1 at

-- and holds of all where it holds of each
from_each : {A : Type 0} (p : A → Bool) (xs : List A) → ((i : ℕ) (x : A) → slice_get xs i ≡ Some x → p x ≡ true) → list_all p xs ≡ true
from_each p [] each = refl
from_each p (x ∷ xs) each = and_from (p x) (list_all p xs) (each 0 x refl) (from_each p xs (λ i y at. each (suc i) y at))

-- a numbered binder stands at a site
at_a_site : (at_sites : List Binder) (sites : List ℕ) (binders : List Binder) (k : ℕ) (b : Binder) → IsNumbering at_sites sites binders → slice_get binders k ≡ Some b →
    (i : ℕ) × (slice_get at_sites i ≡ Some b)
at_a_site at_sites sites binders k b is at =
    let inside = slice_get_within binders k b at in
    let used = number_is_used 0 sites (length binders) k is.ordered (omega arith) inside in
    let lengths = sites_number at_sites sites binders is in
    let within : used.0 < length at_sites = omega arith in
    let found = numbered_at at_sites sites binders used.0 b is within in
    (used.0, slice_get-get_or at_sites used.0 b within ∙ sym found ∙ ap (slice_get binders) used.2 ∙ at)

-- where the binders at all sites carry short names, all that are numbered do
pub binders_short : (at_sites : List Binder) (sites : List ℕ) (binders : List Binder) → IsNumbering at_sites sites binders →
    list_all has_short_names at_sites ≡ true → list_all has_short_names binders ≡ true
binders_short at_sites sites binders is all = from_each has_short_names binders
    (λ k b at. let site = at_a_site at_sites sites binders k b is at in of_all has_short_names at_sites site.0 b all site.1)

counted : (known : ℕ) (ns : List ℕ) (all : ℕ) → is_in_first_order known ns all ≡ true → all ≤ known + length ns
counted known [] all e = let same = (Decides-eqb known all).0 e in omega arith
counted known (n ∷ ns) all e =
    let p = and_parts (nat_le n known) (is_in_first_order (max known (n + 1)) ns all) e in
    let small = few n known p.0 in
    let rest = counted (max known (n + 1)) ns all p.1 in
    omega arith

-- there are no more binders than sites
pub few_binders : (at_sites : List Binder) (sites : List ℕ) (binders : List Binder) → IsNumbering at_sites sites binders → nat_le (length at_sites) 4096 ≡ true → length binders ≤ 4096
few_binders at_sites sites binders is limit =
    let sites_few = few_sites at_sites sites binders is limit in
    let count = counted 0 sites (length binders) is.ordered in
    omega arith

-- no function has many parameters
pub params_few : (fs : List Function) → list_all has_few_parameters fs ≡ true → HaveFewParameters (map params_of fs)
params_few [] all k d less = absurd (omega arith)
params_few (f ∷ fs) all zero d less = few (length f.params) 16 (and_parts (has_few_parameters f) (list_all has_few_parameters fs) all).0
params_few (f ∷ fs) all (suc k) d less = params_few fs (and_parts (has_few_parameters f) (list_all has_few_parameters fs) all).1 k d (omega arith)
