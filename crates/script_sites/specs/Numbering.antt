-- The numbers of sites and of their binders.
use Rattle.std.specs.Prelude.{◌≡◌, ◌≢◌, ℕ, ◌+◌, max, Bool, true, ◌==◌, ◌&&◌, nat_le, List, [], ◌∷◌, ◌++◌, length, map, slice_get, Some}
use Rattle.standard_binders.specs.declared.binder.Binder.{Binder}

-- whether the numbers come in the order of their first uses, from so many known ones on, up to so many in all
abbrev pub is_in_first_order : ℕ → List ℕ → ℕ → Bool
is_in_first_order known [] all = known == all
is_in_first_order known (n ∷ ns) all = nat_le n known && is_in_first_order (max known (n + 1)) ns all

-- Each site has the number of its binder. The binders are distinct, and numbered in the order of their first
-- sites.
pub record IsNumbering (at_sites : List Binder) (sites : List ℕ) (binders : List Binder) : Type 0 where
  pub each : map (slice_get binders) sites ≡ map Some at_sites
  pub distinct : (i j : ℕ) (b : Binder) → slice_get binders i ≡ Some b → slice_get binders j ≡ Some b → i ≡ j
  pub ordered : is_in_first_order 0 sites (length binders) ≡ true

-- the number of a binder: its place among the known ones, or the next, which makes it known
pub data IsNumberOf (b : Binder) (old new : List Binder) (n : ℕ) : Type 0 where
  Known : slice_get old n ≡ Some b → new ≡ old → IsNumberOf b old new n
  Next : ((k : ℕ) → slice_get old k ≢ Some b) → n ≡ length old → new ≡ old ++ b ∷ [] → IsNumberOf b old new n
