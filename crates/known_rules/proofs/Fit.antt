-- That an adopted rule which passes on a class fits its states, and names the class after.
use Rattle.std.proofs.Common.{◌≡◌, ◌∙◌, ℕ, List, Option, None, Some, IfSome, IsSomeAnd, refl, sym, ap, subst}
use Rattle.std.proofs.Math.Logic.{∥∥₁_elim}
use Rattle.std.proofs.Props.{props}
use Rattle.std.specs.Option.{option_map}
use Rattle.dyn_value.specs.declared.value.Value.{Value}
use Rattle.expando_class.specs.declared.class.ClassRef.{ClassRef}
use Rattle.expando_class.specs.declared.table.ClassTable.{ClassTable}
use Rattle.expando_class.specs.Class.{IsClassOf, names_of, number_of}
use Rattle.expr_tree.specs.Meanings.{passes}
use Rattle.expr_tree.specs.Trees.{root}
use Rattle.rule_model.specs.declared.claim.ClassClaim.{ClassClaim}
use Rattle.rule_model.specs.Claims.{ListHolds, class_after}
use Rattle.rule_model.specs.Soundness.{named_class}
use Rattle.standard_binders.specs.Functions.{Functions}
use Rattle.tree_eval.specs.States.{names_after}
use Rattle.rule.specs.declared.claimed.Adopted.{Adopted}
use Rattle.rule.specs.declared.rule.Rule.{Rule}
use Rattle.rule.specs.Claimed.{IsAdopted, IsNamed, IsShown}
use Rattle.rule.specs.Fitting.{Fits}
use Rattle.rule.specs.Rules.{IsSoundRule, body_of, claim_of}
use Rattle.known_rules.specs.Guarding.{FitsClass, Passes, state_with}
use Rattle.known_rules.proofs.OwnClasses.{named_is}

number_prop : (m n : ℕ) → IsProp (m ≡ n)
number_prop m n = hlevel props

after_prop : (a b : Option ℕ) → IsProp (a ≡ b)
after_prop a b = hlevel props

-- it passes on the class alone of which it claims something
guarded : (r : Rule) (operands : List Value) (class : ℕ) (c : ClassClaim) → IsSoundRule r → Passes operands class r → (claim_of r).class ≡ Some c
    → class ≡ c.class
guarded r operands class c sound passes is = ∥∥₁_elim sound (number_prop class c.class) (λ s. s.guarded c operands class is passes)

-- the class of this number that was adopted has the names of this one
lists_of : (table : ClassTable) (adopted : Option ClassRef) (class : ClassRef) (c : ClassClaim) (more : List (List ℕ))
    → ((k : ClassRef) → adopted ≡ Some k → number_of k ≡ number_of class → names_of k ≡ names_of class) → number_of class ≡ c.class
    → IsSomeAnd adopted (IsShown table c.class) → ListHolds c (names_after adopted) more → ListHolds c (names_of class) more
lists_of table None class c more same guard shown holds = absurd shown
lists_of table (Some k) class c more same guard shown holds =
    subst (λ (names : List (List ℕ)). ListHolds c names more) (same k refl (shown.1 ∙ sym guard)) holds

fits_of : (r : Rule) (functions : Functions) (table : ClassTable) (adopted : Adopted) (operands : List Value) (class : ClassRef) (values : List Value)
    → IsSoundRule r → IsAdopted functions table (claim_of r) adopted → Passes operands (number_of class) r
    → ((k : ClassRef) → adopted.class ≡ Some k → number_of k ≡ number_of class → names_of k ≡ names_of class)
    → Fits r operands (state_with class values) (names_after adopted.after)
fits_of r functions table adopted operands class values sound is passes same = record {
  passes = passes;
  holds = record {
    lists = λ c e. lists_of table adopted.class class c (names_after adopted.after) same (guarded r operands (number_of class) c sound passes e)
        (subst (λ (n : Option ℕ). IsNamed table n adopted.class) (named_is (claim_of r) (Some c) e) is.class) (is.lists.lists c e);
  };
}

number_named : (table : ClassTable) (number : Option ℕ) (after : Option ClassRef) → IsNamed table number after → option_map number_of after ≡ number
number_named table None after named = ap (option_map number_of) named
number_named table (Some n) None named = absurd named
number_named table (Some n) (Some class) named = ap (λ (m : ℕ). Some m) named.1

own_named : (table : ClassTable) (number : Option ℕ) (after : Option ClassRef) → IsNamed table number after → IfSome after (IsClassOf table)
own_named table None after named = subst (λ (k : Option ClassRef). IfSome k (IsClassOf table)) (sym named) tt
own_named table (Some n) None named = tt
own_named table (Some n) (Some class) named = named.0

-- the class after that was adopted is the one that the body names
after_named : (r : Rule) (functions : Functions) (table : ClassTable) (adopted : Adopted) → IsSoundRule r
    → IsAdopted functions table (claim_of r) adopted → option_map number_of adopted.after ≡ named_class (root (body_of r))
after_named r functions table adopted sound is =
    number_named table (class_after (claim_of r)) adopted.after is.after
    ∙ ∥∥₁_elim sound (after_prop (class_after (claim_of r)) (named_class (root (body_of r)))) (λ s. s.moves)

-- and it is one of the table
after_own : (r : Rule) (functions : Functions) (table : ClassTable) (adopted : Adopted) → IsAdopted functions table (claim_of r) adopted
    → IfSome adopted.after (IsClassOf table)
after_own r functions table adopted is = own_named table (class_after (claim_of r)) adopted.after is.after

pub fits_class : (r : Rule) (functions : Functions) (table : ClassTable) (adopted : Adopted) (operands : List Value) (class : ClassRef)
    → IsSoundRule r → IsAdopted functions table (claim_of r) adopted → Passes operands (number_of class) r
    → ((k : ClassRef) → adopted.class ≡ Some k → number_of k ≡ number_of class → names_of k ≡ names_of class)
    → FitsClass r operands table class adopted.after
fits_class r functions table adopted operands class sound is passes same = record {
  sound = sound;
  fits = λ values. fits_of r functions table adopted operands class values sound is passes same;
  named = after_named r functions table adopted sound is;
  own = after_own r functions table adopted is;
}
