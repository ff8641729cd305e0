-- When a claim holds.
use Rattle.std.specs.Prelude.{◌≡◌, ◌≢◌, ℕ, ◌==◌, All, List, [], ◌∷◌, ◌++◌, length, remove, slice_get, Option, None, Some}
use Rattle.standard_binders.specs.Functions.{Functions}
use Rattle.rule_model.specs.declared.claim.Claim.{Claim}
use Rattle.rule_model.specs.declared.claim.ClassClaim.{ClassClaim}
use Rattle.rule_model.specs.declared.claim.FunClaim.{FunClaim}

-- the list has the name at the place, or nowhere
abbrev pub IsPlaced : List (List ℕ) → List ℕ → Option ℕ → Type 0
IsPlaced names name (Some place) = slice_get names place ≡ Some name
IsPlaced names name None = All (λ other. other ≢ name) names

-- the list with the name at the end, or without the place
abbrev pub changed : List (List ℕ) → List ℕ → Option ℕ → List (List ℕ)
changed names name (Some place) = remove names place
changed names name None = names ++ name ∷ []

-- what is claimed of a list of names and, where a class after it is named, of the names of that class
pub record ListHolds (c : ClassClaim) (names more : List (List ℕ)) : Type 0 where
  pub placed : IsPlaced names c.name c.place
  pub full : c.full ≡ (length names == 64)
  pub after : (n : ℕ) → c.after ≡ Some n → more ≡ changed names c.name c.place

-- the part of a claim on a class, of its names and those of the class after
pub record ClassHolds (claim : Claim) (names more : List (List ℕ)) : Type 0 where
  pub lists : (c : ClassClaim) → claim.class ≡ Some c → ListHolds c names more

-- the part of a claim on a function: it is one of these, with these parameters
pub record FunHolds (claim : Claim) (functions : Functions) : Type 0 where
  pub params : (f : FunClaim) → claim.fun ≡ Some f → slice_get functions f.number ≡ Some f.params

-- the number of the class after, where a claim names one
abbrev pub class_after : Claim → Option ℕ
class_after claim = elim claim.class [ Some c ↦ c.after | None ↦ None ]
