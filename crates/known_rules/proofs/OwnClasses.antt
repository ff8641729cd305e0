-- That a claim which holds of the target's class and of a class after that the pass knows is adopted with these classes.
use Rattle.std.proofs.Common.{◌≡◌, ◌∙◌, ℕ, List, Option, None, Some, IfSome, IsSomeAnd, refl, sym, ap, subst}
use Rattle.std.specs.Option.{option_map}
use Rattle.expando_class.specs.declared.class.ClassRef.{ClassRef}
use Rattle.expando_class.specs.declared.pass.ClassPass.{ClassPass}
use Rattle.expando_class.specs.declared.table.ClassTable.{ClassTable}
use Rattle.expando_class.specs.Class.{IsClassOf, names_of, number_of}
use Rattle.expando_class.specs.Pass.{class_map}
use Rattle.rule_model.specs.declared.claim.Claim.{Claim}
use Rattle.rule_model.specs.declared.claim.ClassClaim.{ClassClaim}
use Rattle.rule_model.specs.Claims.{ListHolds, class_after}
use Rattle.standard_binders.specs.Functions.{Functions}
use Rattle.tree_eval.specs.States.{names_after}
use Rattle.rule.specs.Claimed.{IsAdopted, IsNamed, IsShown, class_named}
use Rattle.known_rules.specs.Bounds.{IsClaimedFor, IsClaimedOf}

pub after_is : (claim : Claim) (class : Option ClassClaim) → claim.class ≡ class
    → class_after claim ≡ elim class [ Some c ↦ c.after | None ↦ None ]
after_is claim class is = ap (λ (k : Option ClassClaim). elim k [ Some c ↦ c.after | None ↦ None ]) is

pub named_is : (claim : Claim) (class : Option ClassClaim) → claim.class ≡ class
    → class_named claim ≡ option_map (λ (c : ClassClaim). c.class) class
named_is claim class is = ap (option_map (λ (c : ClassClaim). c.class)) is

-- The class after as the pass knows it: where one is named, it is there, with its number and its names.
pub record IsKnownAfter (table : ClassTable) (pass : ClassPass) (number : Option ℕ) (after : Option ClassRef) : Type 0 where
  pub of : IfSome after (IsClassOf table)
  pub names : (n : ℕ) → number ≡ Some n → option_map names_of after ≡ class_map pass n
  pub number_is : (n : ℕ) → number ≡ Some n → IfSome after (λ class. number_of class ≡ n)
  pub none : number ≡ None → after ≡ None

shown_lent : (table : ClassTable) (pass : ClassPass) (c : ClassClaim) (class : Option ClassRef) → IfSome class (IsClassOf table)
    → IsSomeAnd class (IsClaimedOf pass c) → IsSomeAnd class (IsShown table c.class)
shown_lent table pass c None own claimed = absurd claimed
shown_lent table pass c (Some class) own claimed = (own, claimed.0)

-- it is there where the pass knows some names of its number
there_after : (table : ClassTable) (n : ℕ) (after : Option ClassRef) (more : List (List ℕ)) → option_map names_of after ≡ Some more
    → IfSome after (IsClassOf table) → IfSome after (λ class. number_of class ≡ n) → IsSomeAnd after (IsShown table n)
there_after table n None more names own number = cc
there_after table n (Some class) more names own number = (own, number)

shown_after : (table : ClassTable) (pass : ClassPass) (number : Option ℕ) (after : Option ClassRef) → IsKnownAfter table pass number after
    → ((n : ℕ) → number ≡ Some n → (more : List (List ℕ)) × (class_map pass n ≡ Some more)) → IsNamed table number after
shown_after table pass None after known some = known.none refl
shown_after table pass (Some n) after known some =
    let more = some n refl in there_after table n after more.0 (known.names n refl ∙ more.1) known.of (known.number_is n refl)

names_some : (after : Option ClassRef) (more : List (List ℕ)) → option_map names_of after ≡ Some more → names_after after ≡ more
names_some None more is = cc
names_some (Some class) more is = some_names (names_of class) more is
  where
    some_names : (a b : List (List ℕ)) → Some a ≡ Some b → a ≡ b
    some_names a b e = cc

knows_after : (pass : ClassPass) (c : ClassClaim) (class : Option ClassRef) → IsSomeAnd class (IsClaimedOf pass c) → (n : ℕ) → c.after ≡ Some n
    → (more : List (List ℕ)) × (class_map pass n ≡ Some more)
knows_after pass c None claimed n is = absurd claimed
knows_after pass c (Some class) claimed n is = (claimed.1.0, claimed.1.1.1 n is)

lists_lent : (table : ClassTable) (pass : ClassPass) (c : ClassClaim) (class after : Option ClassRef) → IsKnownAfter table pass c.after after
    → IsSomeAnd class (IsClaimedOf pass c) → ListHolds c (names_after class) (names_after after)
lists_lent table pass c None after known claimed = absurd claimed
lists_lent table pass c (Some class) after known claimed =
    let more = claimed.1.0 in let holds = claimed.1.1.0 in record {
      placed = holds.placed;
      full = holds.full;
      after = λ n e. names_some after more (known.names n e ∙ claimed.1.1.1 n e) ∙ holds.after n e;
    }

same_claim : (c d : ClassClaim) → Some c ≡ Some d → c ≡ d
same_claim c d is = cc

-- a claim on a class
pub own_adopted : (functions : Functions) (table : ClassTable) (pass : ClassPass) (claim : Claim) (c : ClassClaim) (class after : Option ClassRef)
    → claim.class ≡ Some c → IfSome class (IsClassOf table) → IsKnownAfter table pass c.after after → IsClaimedFor functions pass class claim
    → IsAdopted functions table claim (record { class = class; after = after })
own_adopted functions table pass claim c class after is own known claimed = record {
  class = subst (λ (n : Option ℕ). IsNamed table n class) (sym (named_is claim (Some c) is)) (shown_lent table pass c class own (claimed.lists c is));
  after = subst (λ (n : Option ℕ). IsNamed table n after) (sym (after_is claim (Some c) is))
      (shown_after table pass c.after after known (knows_after pass c class (claimed.lists c is)));
  lists = record {
    lists = λ d e. subst (λ (k : ClassClaim). ListHolds k (names_after class) (names_after after)) (same_claim c d (sym is ∙ e))
        (lists_lent table pass c class after known (claimed.lists c is));
  };
  fun = claimed.fun;
}
