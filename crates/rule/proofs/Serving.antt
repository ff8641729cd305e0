-- What a bound rule serves for: the operation on the operands that its metaobjects describe.
use Rattle.std.proofs.Common.{◌≡◌, ℕ, true, List, ◌∷◌, Option, None, Some, IsSome, IsSomeAnd, is_some, refl, sym, ◌∙◌, ap, subst}
use Rattle.std.proofs.Math.Logic.{∥∥₁_elim}
use Rattle.dyn_value.specs.declared.value.Value.{Value}
use Rattle.dyn_value.specs.declared.value.Value.TheVariants as value
use Rattle.expando_class.specs.declared.class.ClassRef.{ClassRef}
use Rattle.expando_class.specs.declared.pass.ClassPass.{ClassPass}
use Rattle.expando_class.specs.Class.{number_of, names_of}
use Rattle.expando_class.specs.Pass.{class_map}
use Rattle.expr_tree.specs.Meanings.{State}
use Rattle.standard_binders.specs.declared.binder.Binder.{Binder}
use Rattle.standard_binders.specs.Functions.{Functions}
use Rattle.object_model.specs.Accesses.{Access, access_of}
use Rattle.object_model.specs.Members.{Members, AreMembers}
use Rattle.object_model.specs.Plain.{plain_step}
use Rattle.object_model.specs.Steps.{step_by}
use Rattle.rule_model.specs.declared.claim.Claim.{Claim}
use Rattle.rule_model.specs.declared.claim.ClassClaim.{ClassClaim}
use Rattle.rule_model.specs.Claims.{ClassHolds, ListHolds, class_after}
use Rattle.rule_model.specs.Soundness.{Answers, Does, Suit, looks_at_none}
use Rattle.rule_model.specs.States.{HasMembers}
use Rattle.meta_object.specs.declared.meta.MetaObject.{MetaObject}
use Rattle.meta_object.specs.Bindings.{IsClaimed}
use Rattle.meta_object.specs.Metas.{Describes, target_class}
use Rattle.rule.specs.declared.rule.Rule.{Rule}
use Rattle.rule.specs.Rules.{IsBoundRule, IsSoundRule, binder_of, body_of, claim_of}
use Rattle.rule.proofs.Truncated.{answers_prop, does_prop}

named_after : (claim : Claim) (c : ClassClaim) → claim.class ≡ Some c → class_after claim ≡ c.after
named_after claim c e = ap (λ (k : Option ClassClaim). elim k [ Some d ↦ d.after | None ↦ None ]) e

-- with another list of the class after, where that list is the same where the claim names the class
listed : (c : ClassClaim) (names one other : List (List ℕ)) → ListHolds c names one → ((n : ℕ) → c.after ≡ Some n → one ≡ other) → ListHolds c names other
listed c names one other h same = record { placed = h.placed; full = h.full; after = λ n e. sym (same n e) ∙ h.after n e }

shown_class : (target : Option ClassRef) (class : ClassRef) (P : ClassRef → Type 0) → target ≡ Some class → IsSomeAnd target P → P class
shown_class target class P is h = subst (λ (t : Option ClassRef). IsSomeAnd t P) is h

-- the class after is known where the target shows a class
known_there : (pass : ClassPass) (c : ClassClaim) (n : ℕ) (target : Option ClassRef) → c.after ≡ Some n
    → IsSomeAnd target (λ shown. (number_of shown ≡ c.class) × ((more : List (List ℕ)) × (ListHolds c (names_of shown) more × ((n : ℕ) → c.after ≡ Some n → class_map pass n ≡ Some more)))) → IsSome (class_map pass n)
known_there pass c n None e h = absurd h
known_there pass c n (Some shown) e h = ap is_some (h.1.1.1 n e)

after_known : (functions : Functions) (pass : ClassPass) (metas : List MetaObject) (claim : Claim) (class : Option ClassClaim) (n : ℕ) → claim.class ≡ class → IsClaimed functions pass metas claim → class_after claim ≡ Some n → IsSome (class_map pass n)
after_known functions pass metas claim None n is holds e = let no : None ≡ Some n = sym (ap (λ (k : Option ClassClaim). elim k [ Some d ↦ d.after | None ↦ None ]) is) ∙ e in cc
after_known functions pass metas claim (Some c) n is holds e = known_there pass c n (target_class metas) (sym (named_after claim c is) ∙ e) (holds.class c is)

-- The claim of a bound rule holds of the class that the target shows, and of the class after as the pass knows it.
pub bound_holds : (functions : Functions) (pass : ClassPass) (b : Binder) (metas : List MetaObject) (r : Rule) (class : ClassRef) (more : List (List ℕ))
    → IsBoundRule functions pass b metas r → target_class metas ≡ Some class → ((n : ℕ) → class_after (claim_of r) ≡ Some n → class_map pass n ≡ Some more)
    → ClassHolds (claim_of r) (names_of class) more
bound_holds functions pass b metas r class more bound is known = record {
  lists = λ c e. (
      let h = shown_class (target_class metas) class (λ shown. (number_of shown ≡ c.class) × ((listed : List (List ℕ)) × (ListHolds c (names_of shown) listed × ((n : ℕ) → c.after ≡ Some n → class_map pass n ≡ Some listed)))) is (bound.holds.class c e) in
      listed c (names_of class) h.1.0 more h.1.1.0 (λ n after. (
      let both : Some h.1.0 ≡ Some more = sym (h.1.1.1 n after) ∙ known n (named_after (claim_of r) c e ∙ after) in cc)));
}

-- The pass knows the class after of a bound rule.
pub bound_knows : (functions : Functions) (pass : ClassPass) (b : Binder) (metas : List MetaObject) (r : Rule) → IsBoundRule functions pass b metas r → (n : ℕ) → class_after (claim_of r) ≡ Some n → IsSome (class_map pass n)
bound_knows functions pass b metas r bound n e = after_known functions pass metas (claim_of r) (claim_of r).class n refl bound.holds e

-- The body of a bound rule does to an object of this state what the operation does.
pub bound_does : (functions : Functions) (pass : ClassPass) (b : Binder) (metas : List MetaObject) (r : Rule) (s : State) (ms : Members) (more : List (List ℕ)) (o : ℕ) (arguments : List Value) (access : Access)
    → IsSoundRule r → IsBoundRule functions pass b metas r → Describes metas (value.Obj o ∷ arguments) s.class → HasMembers s ms → AreMembers ms
    → access_of b arguments ≡ Some access → ClassHolds (claim_of r) s.names more
    → Does (body_of r) (value.Obj o ∷ arguments) more s (step_by access ms)
bound_does functions pass b metas r s ms more o arguments access sound bound described has are reaches holds =
    ∥∥₁_elim sound (does_prop (body_of r) (value.Obj o ∷ arguments) more s (step_by access ms)) (λ h.
    h.object s ms more o arguments access has are (ap (λ (k : Binder). access_of k arguments) bound.binder_is ∙ reaches)
    (bound.passing (value.Obj o ∷ arguments) s.class described) holds)

-- The body of a bound rule answers an operation that looks at no object.
pub bound_answers : (functions : Functions) (pass : ClassPass) (b : Binder) (metas : List MetaObject) (r : Rule) (s : State) (operands : List Value)
    → IsSoundRule r → IsBoundRule functions pass b metas r → Describes metas operands s.class → looks_at_none b operands ≡ true → Suit b operands
    → Answers (body_of r) operands s (plain_step functions b operands)
bound_answers functions pass b metas r s operands sound bound described none suit =
    subst (λ (k : Binder). looks_at_none k operands ≡ true → Suit k operands → Answers (body_of r) operands s (plain_step functions k operands)) bound.binder_is
    (λ none suit. ∥∥₁_elim sound (answers_prop (body_of r) operands s (plain_step functions (binder_of r) operands)) (λ h.
    h.plain functions s operands none suit (bound.passing operands s.class described) bound.holds.fun))
    none suit
