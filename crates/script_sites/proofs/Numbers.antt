-- One more site is numbered.
use Rattle.std.proofs.Common.{◌≡◌, ◌≢◌, inl, inr, ℕ, ◌+◌, ◌<◌, ◌≤◌, max, true, ◌==◌, List, [], ◌∷◌, ◌++◌, length, map, Some, refl, sym, ap, ◌∙◌, subst, arith, slice_get, length-append, get_or, take}
use Rattle.std.specs.Prelude.{nat_le}
use Rattle.std.proofs.lemmas.Bool.{and_from, and_parts}
use Rattle.std.proofs.lemmas.List.{take_more, length-map}
use Rattle.std.proofs.lemmas.Option.{slice_get_within, slice_get-get_or, slice_get-map}
use Rattle.std.specs.Option.{option_map}
use Rattle.std.proofs.lemmas.Bool.Decides.{nat_tests}
use Rattle.standard_binders.specs.declared.binder.Binder.{Binder}
use Rattle.script_sites.proofs.Lists.{grown_get, last_get, grown_got}
use Rattle.script_sites.specs.Numbering.{IsNumbering, IsNumberOf, Known, Next, is_in_first_order}

grown_each : (bs : List Binder) (x : Binder) (ns : List ℕ) (known : List Binder) → map (slice_get bs) ns ≡ map Some known → map (slice_get (bs ++ x ∷ [])) ns ≡ map Some known
grown_each bs x [] [] e = refl
grown_each bs x [] (a ∷ known) e = cc
grown_each bs x (n ∷ ns) [] e = cc
grown_each bs x (n ∷ ns) (a ∷ known) e =
    let first : slice_get bs n ≡ Some a = cc in
    let rest : map (slice_get bs) ns ≡ map Some known = cc in
    let one = grown_get bs x a n first in
    let others = grown_each bs x ns known rest in
    cc

one_more_each : (bs : List Binder) (ns : List ℕ) (known : List Binder) (n : ℕ) (b : Binder) → map (slice_get bs) ns ≡ map Some known → slice_get bs n ≡ Some b → map (slice_get bs) (ns ++ n ∷ []) ≡ map Some (known ++ b ∷ [])
one_more_each bs [] [] n b e f = ap (λ z. z ∷ []) f
one_more_each bs [] (a ∷ known) n b e f = cc
one_more_each bs (m ∷ ns) [] n b e f = cc
one_more_each bs (m ∷ ns) (a ∷ known) n b e f =
    let first : slice_get bs m ≡ Some a = cc in
    let rest : map (slice_get bs) ns ≡ map Some known = cc in
    let others = one_more_each bs ns known n b rest f in
    cc

one_more_ordered : (known : ℕ) (ns : List ℕ) (all n : ℕ) → is_in_first_order known ns all ≡ true → n ≤ all → is_in_first_order known (ns ++ n ∷ []) (max all (n + 1)) ≡ true
one_more_ordered known [] all n e h = and_from (nat_le n known) (max known (n + 1) == max all (n + 1)) (grind (arith, nat_tests)) (grind (arith, nat_tests))
one_more_ordered known (m ∷ ns) all n e h =
    let p = and_parts (nat_le m known) (is_in_first_order (max known (m + 1)) ns all) e in
    and_from (nat_le m known) (is_in_first_order (max known (m + 1)) (ns ++ n ∷ []) (max all (n + 1))) p.0 (one_more_ordered (max known (m + 1)) ns all n p.1 h)

one_more_distinct : (bs : List Binder) (b : Binder) → ((k : ℕ) → slice_get bs k ≢ Some b)
    → ((i j : ℕ) (x : Binder) → slice_get bs i ≡ Some x → slice_get bs j ≡ Some x → i ≡ j)
    → (i j : ℕ) (x : Binder) → slice_get (bs ++ b ∷ []) i ≡ Some x → slice_get (bs ++ b ∷ []) j ≡ Some x → i ≡ j
one_more_distinct bs b none distinct i j x e f =
    elim (grown_got bs b x i e) [
      | inl g ↦ elim (grown_got bs b x j f) [ inl h ↦ distinct i j x g h | inr h ↦ absurd (none i (g ∙ ap Some (sym h.1))) ]
      | inr g ↦ elim (grown_got bs b x j f) [ inl h ↦ absurd (none j (h ∙ ap Some (sym g.1))) | inr h ↦ g.0 ∙ sym h.0 ]
    ]

-- the numbering goes on with the number of the next site's binder
pub one_more_numbered : (known : List Binder) (ns : List ℕ) (old new : List Binder) (n : ℕ) (b : Binder) → IsNumbering known ns old → IsNumberOf b old new n → IsNumbering (known ++ b ∷ []) (ns ++ n ∷ []) new
one_more_numbered known ns old new n b is (Known found same) =
    let within = slice_get_within old n b found in
    let all : max (length old) (n + 1) ≡ length old = omega arith in
    subst (IsNumbering (known ++ b ∷ []) (ns ++ n ∷ [])) (sym same) (record {
      each = one_more_each old ns known n b is.each found;
      distinct = is.distinct;
      ordered = subst (λ z. is_in_first_order 0 (ns ++ n ∷ []) z ≡ true) all (one_more_ordered 0 ns (length old) n is.ordered (omega arith));
    })
one_more_numbered known ns old new n b is (Next none at grown) =
    let all : max (length old) (n + 1) ≡ length (old ++ b ∷ []) = omega (arith, length-append old (b ∷ [])) in
    subst (IsNumbering (known ++ b ∷ []) (ns ++ n ∷ [])) (sym grown) (record {
      each = one_more_each (old ++ b ∷ []) ns known n b (grown_each old b ns known is.each) (ap (slice_get (old ++ b ∷ [])) at ∙ last_get old b);
      distinct = one_more_distinct old b none is.distinct;
      ordered = subst (λ z. is_in_first_order 0 (ns ++ n ∷ []) z ≡ true) all (one_more_ordered 0 ns (length old) n is.ordered (omega arith));
    })

-- no more numbers than sites
pub few_more : (old new : List Binder) (n sites : ℕ) (b : Binder) → length old ≤ sites → IsNumberOf b old new n → length new ≤ sites + 1
few_more old new n sites b h (Known found same) = omega (arith, ap length same)
few_more old new n sites b h (Next none at grown) = omega (arith, ap length grown, length-append old (b ∷ []))

pub one_more_taken : (at_sites : List Binder) (i : ℕ) (d : Binder) (ns : List ℕ) (old new : List Binder) (n : ℕ) → i < length at_sites → IsNumbering (take i at_sites) ns old → IsNumberOf (get_or at_sites i d) old new n → IsNumbering (take (i + 1) at_sites) (ns ++ n ∷ []) new
one_more_taken at_sites i d ns old new n h is number =
    subst (λ z. IsNumbering z (ns ++ n ∷ []) new) (sym (take_more at_sites i d h)) (one_more_numbered (take i at_sites) ns old new n (get_or at_sites i d) is number)

-- the binder at a site is the one that has the site's number
pub numbered_at : (at_sites : List Binder) (sites : List ℕ) (binders : List Binder) (i : ℕ) (d : Binder) → IsNumbering at_sites sites binders → i < length at_sites → slice_get binders (get_or sites i 0) ≡ Some (get_or at_sites i d)
numbered_at at_sites sites binders i d is h =
    let lengths : length sites ≡ length at_sites = sym (length-map sites (slice_get binders)) ∙ ap length is.each ∙ length-map at_sites Some in
    let within : i < length sites = omega arith in
    let left : slice_get (map (slice_get binders) sites) i ≡ Some (slice_get binders (get_or sites i 0)) =
    slice_get-map (slice_get binders) sites i ∙ ap (option_map (slice_get binders)) (slice_get-get_or sites i 0 within) in
    let right : slice_get (map Some at_sites) i ≡ Some (Some (get_or at_sites i d)) =
    slice_get-map Some at_sites i ∙ ap (option_map Some) (slice_get-get_or at_sites i d h) in
    let both = ap (λ z. slice_get z i) is.each in
    cc
