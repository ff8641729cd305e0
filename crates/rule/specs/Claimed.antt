-- Whether a claim holds of the classes that a table shows and of the functions of a script.
use Rattle.std.specs.Prelude.{◌≡◌, ◌≢◌, ◌⊎◌, ◌==◌, ℕ, List, length, Option, None, Some, IsSomeAnd, IfSome}
use Rattle.std.specs.Option.{option_map}
use Rattle.expando_class.specs.declared.class.ClassRef.{ClassRef}
use Rattle.expando_class.specs.declared.table.ClassTable.{ClassTable}
use Rattle.expando_class.specs.Class.{number_of, names_of, IsClassOf}
use Rattle.standard_binders.specs.Functions.{Functions}
use Rattle.tree_eval.specs.States.{names_after}
use Rattle.rule_model.specs.declared.claim.Claim.{Claim}
use Rattle.rule_model.specs.declared.claim.ClassClaim.{ClassClaim}
use Rattle.rule_model.specs.Claims.{ClassHolds, FunHolds, IsPlaced, ListHolds, class_after}
use Rattle.rule.specs.declared.claimed.Adopted.{Adopted}
use Rattle.rule.specs.declared.claimed.Claimed.{Claimed}
use Rattle.rule.specs.declared.claimed.Claimed.TheVariants.{Holds, Fails, Unseen}

-- the number of the class of which a claim says something
abbrev pub class_named : Claim → Option ℕ
class_named claim = option_map (λ (c : ClassClaim). c.class) claim.class

-- the table shows this class, which has the number
abbrev pub IsShown : ClassTable → ℕ → ClassRef → Type 0
IsShown table number class = IsClassOf table class × (number_of class ≡ number)

-- where a number is named, the class of this number is there, and else none is
abbrev pub IsNamed : ClassTable → Option ℕ → Option ClassRef → Type 0
IsNamed table None class = class ≡ None
IsNamed table (Some number) class = IsSomeAnd class (IsShown table number)

-- the classes are those that the claim names, and it holds of them and of these functions
pub record IsAdopted (functions : Functions) (table : ClassTable) (claim : Claim) (adopted : Adopted) : Type 0 where
  pub class : IsNamed table (class_named claim) adopted.class
  pub after : IsNamed table (class_after claim) adopted.after
  pub lists : ClassHolds claim (names_after adopted.class) (names_after adopted.after)
  pub fun : FunHolds claim functions

-- what is claimed of the names of the class alone
abbrev pub IsAsClaimed : ClassClaim → List (List ℕ) → Type 0
IsAsClaimed c names = IsPlaced names c.name c.place × (c.full ≡ (length names == 64))

-- The table shows the class, and maybe the class after. What is claimed does not hold of their names; where no class
-- after is shown, it does not hold whichever names that one has.
pub record IsContradicted (table : ClassTable) (c : ClassClaim) : Type 0 where
  pub class : ClassRef
  pub after : Option ClassRef
  pub shown : IsShown table c.class class
  pub shown_after : IfSome after (λ other. IsClassOf table other × (c.after ≡ Some (number_of other)))
  pub contradicted : (more : List (List ℕ)) → IfSome after (λ other. names_of other ≡ more)
      → ListHolds c (names_of class) more → ⊥

-- the number of the class that was not shown: of the class itself, or, where that one was shown, of the class after
abbrev pub number_unseen : ClassClaim → Option ClassRef → Option ℕ
number_unseen c None = Some c.class
number_unseen c (Some class) = c.after

-- A class that is named was not shown, which is not the root. Where the class itself was shown, it is as claimed.
pub record IsUnseen (table : ClassTable) (c : ClassClaim) : Type 0 where
  pub class : Option ClassRef
  pub unseen : IsSomeAnd (number_unseen c class) (λ number. number ≢ 0)
  pub shown : IfSome class (λ class. IsShown table c.class class × IsAsClaimed c (names_of class))

-- what is answered of a claim on a class, by what the table shows
abbrev pub IsAnsweredOf : ClassTable → ClassClaim → Claimed → Type 0
IsAnsweredOf table c (Holds adopted) =
    IsSomeAnd adopted.class (IsShown table c.class) × IsNamed table c.after adopted.after
    × ListHolds c (names_after adopted.class) (names_after adopted.after)
IsAnsweredOf table c Fails = IsContradicted table c
IsAnsweredOf table c Unseen = IsUnseen table c

-- what is answered of a claim, by these functions and by what the table shows of classes
abbrev pub IsAnswered : Functions → ClassTable → Claim → Claimed → Type 0
IsAnswered functions table claim (Holds adopted) = IsAdopted functions table claim adopted
IsAnswered functions table claim Fails =
    (FunHolds claim functions → ⊥) ⊎ IsSomeAnd claim.class (IsContradicted table)
IsAnswered functions table claim Unseen = FunHolds claim functions × IsSomeAnd claim.class (IsUnseen table)
