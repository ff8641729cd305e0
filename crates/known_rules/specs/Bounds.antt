-- What the claim of a rule that was just bound holds of.
use Rattle.std.specs.Prelude.{◌≡◌, ℕ, List, Option, Some, IsSomeAnd}
use Rattle.expando_class.specs.declared.class.ClassRef.{ClassRef}
use Rattle.expando_class.specs.declared.pass.ClassPass.{ClassPass}
use Rattle.expando_class.specs.Class.{names_of, number_of}
use Rattle.expando_class.specs.Pass.{class_map}
use Rattle.rule_model.specs.declared.claim.Claim.{Claim}
use Rattle.rule_model.specs.declared.claim.ClassClaim.{ClassClaim}
use Rattle.rule_model.specs.Claims.{FunHolds, ListHolds}
use Rattle.standard_binders.specs.Functions.{Functions}

-- what is claimed of a class holds of this one, and of a class after that the pass knows
abbrev pub IsClaimedOf : ClassPass → ClassClaim → ClassRef → Type 0
IsClaimedOf pass c class = (number_of class ≡ c.class)
    × ((more : List (List ℕ))
    × (ListHolds c (names_of class) more × ((n : ℕ) → c.after ≡ Some n → class_map pass n ≡ Some more)))

-- a claim holds: what it says of a class, of the one that was lent, and what it says of a function, of these
pub record IsClaimedFor (functions : Functions) (pass : ClassPass) (class : Option ClassRef) (claim : Claim)
    : Type 0 where
  pub lists : (c : ClassClaim) → claim.class ≡ Some c → IsSomeAnd class (IsClaimedOf pass c)
  pub fun : FunHolds claim functions
