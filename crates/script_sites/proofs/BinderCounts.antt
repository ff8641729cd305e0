-- The numbered binders are as many as the distinct ones.
use Rattle.std.proofs.Common.{◌≡◌, ◌≢◌, inl, inr, ℕ, suc, ◌+◌, ◌<◌, ◌≤◌, max, true, List, [], ◌∷◌, length, Some, sym, ap, ◌∙◌, arith, slice_get, get_or}
use Rattle.std.specs.Prelude.{nat_le}
use Rattle.std.specs.List.{Contains}
use Rattle.std.specs.Set.{distinct_count, is_member}
use Rattle.std.proofs.lemmas.Bool.{and_parts, cases_lt}
use Rattle.std.proofs.lemmas.Bool.Decides.{nat_tests, same_from_decides, Decides-like, Decides-eqb}
use Rattle.std.proofs.lemmas.List.{length-map}
use Rattle.std.proofs.lemmas.Map.Made.{IsDistinct-from_AllPairs, length-from_keys, is_member-Decides}
use Rattle.std.proofs.lemmas.Option.{slice_get_within, slice_get-get_or, get_or_from_slice_get}
use Rattle.standard_binders.proofs.SameBinders.{is_same_binder-Decides, is_same_binder-IsEquivalence}
use Rattle.standard_binders.specs.Binders.{is_same_binder}
use Rattle.standard_binders.specs.declared.binder.Binder.{Binder}
use Rattle.script_sites.specs.Numbering.{IsNumbering, is_in_first_order}
use Rattle.script_sites.proofs.Numbers.{numbered_at}

-- each number from the known ones on is the number of a site
number_is_used : (known : ℕ) (ns : List ℕ) (all k : ℕ) → is_in_first_order known ns all ≡ true → known ≤ k → k < all → (i : ℕ) × (i < length ns) × (get_or ns i 0 ≡ k)
number_is_used known [] all k e low high = let same = (Decides-eqb known all).0 e in absurd (omega arith)
number_is_used known (n ∷ ns) all k e low high =
    let p = and_parts (nat_le n known) (is_in_first_order (max known (n + 1)) ns all) e in
    elim (cases_lt k (max known (n + 1))) [
      | inl below ↦ (0, omega arith, (let small : n ≤ known = grind (arith, nat_tests) in omega arith))
      | inr above ↦ let next = number_is_used (max known (n + 1)) ns all k p.1 above high in (suc next.0, omega arith, next.2)
    ]

binder_at_site : (at_sites : List Binder) (sites : List ℕ) (binders : List Binder) (q : Binder) → IsNumbering at_sites sites binders → Contains at_sites q → Contains binders q
binder_at_site at_sites sites binders q is h =
    let found = numbered_at at_sites sites binders h.0 q is h.1 in
    (get_or sites h.0 0, slice_get_within binders (get_or sites h.0 0) (get_or at_sites h.0 q) found, get_or_from_slice_get binders (get_or sites h.0 0) (get_or at_sites h.0 q) q found ∙ h.2)

sites_number : (at_sites : List Binder) (sites : List ℕ) (binders : List Binder) → IsNumbering at_sites sites binders → length sites ≡ length at_sites
sites_number at_sites sites binders is = sym (length-map sites (slice_get binders)) ∙ ap length is.each ∙ length-map at_sites Some

site_of_binder : (at_sites : List Binder) (sites : List ℕ) (binders : List Binder) (q : Binder) → IsNumbering at_sites sites binders → Contains binders q → Contains at_sites q
site_of_binder at_sites sites binders q is h =
    let used = number_is_used 0 sites (length binders) h.0 is.ordered (omega arith) h.1 in
    let lengths = sites_number at_sites sites binders is in
    let within : used.0 < length at_sites = omega arith in
    let found : slice_get binders h.0 ≡ Some (get_or at_sites used.0 q) =
    ap (slice_get binders) (sym used.2) ∙ numbered_at at_sites sites binders used.0 q is within in
    (used.0, within, sym (get_or_from_slice_get binders h.0 (get_or at_sites used.0 q) q found) ∙ h.2)

apart : (binders : List Binder) → ((i j : ℕ) (b : Binder) → slice_get binders i ≡ Some b → slice_get binders j ≡ Some b → i ≡ j) →
    (i j : ℕ) (d : Binder) → i < j → j < length binders → get_or binders i d ≢ get_or binders j d
apart binders distinct i j d less within same =
    let inside : i < length binders = omega arith in
    let equal = distinct i j (get_or binders j d) (slice_get-get_or binders i d inside ∙ ap Some same) (slice_get-get_or binders j d within) in
    omega arith

-- so many binders are numbered as distinct ones stand at the sites
pub numbered_count : (at_sites : List Binder) (sites : List ℕ) (binders : List Binder) → IsNumbering at_sites sites binders → length binders ≡ distinct_count is_same_binder at_sites
numbered_count at_sites sites binders is =
    length-from_keys is_same_binder-IsEquivalence binders at_sites
    (IsDistinct-from_AllPairs is_same_binder-Decides binders (apart binders is.distinct))
    (λ q. same_from_decides (is_member is_same_binder binders q) (is_member is_same_binder at_sites q)
    (is_member-Decides is_same_binder-Decides binders q)
    (Decides-like (is_member is_same_binder at_sites q) (binder_at_site at_sites sites binders q is) (site_of_binder at_sites sites binders q is) (is_member-Decides is_same_binder-Decides at_sites q)))
