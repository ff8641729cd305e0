-- A sound rule under a map of classes.
use Rattle.std.proofs.Common.{◌≡◌, ℕ, Bool, true, List, [], ◌∷◌, Option, None, Some, unwrap_or, refl, sym, ◌∙◌, ap, subst}
use Rattle.dyn_value.specs.declared.value.Value.{Value}
use Rattle.dyn_value.specs.declared.value.Value.TheVariants as value
use Rattle.dyn_value.specs.declared.outcome.Outcome.{Outcome}
use Rattle.expr_tree.specs.declared.node.Node.{Node}
use Rattle.expr_tree.specs.declared.node.Node.TheVariants.{Append, Remove}
use Rattle.expr_tree.specs.Meanings.{State, state_after}
use Rattle.expr_tree.specs.Trees.{root}
use Rattle.expr_tree.proofs.Plain.{state_plain}
use Rattle.standard_binders.specs.declared.binder.Binder.{Binder}
use Rattle.standard_binders.specs.Functions.{Functions}
use Rattle.object_model.specs.Accesses.{Access, access_of}
use Rattle.object_model.specs.Members.{Members, AreMembers}
use Rattle.object_model.specs.Plain.{plain_step}
use Rattle.object_model.specs.Steps.{step_by}
use Rattle.rule_model.specs.declared.claim.Claim.{Claim}
use Rattle.rule_model.specs.declared.claim.ClassClaim.{ClassClaim}
use Rattle.rule_model.specs.Claims.{ClassHolds, ListHolds, class_after}
use Rattle.rule_model.specs.ClassMaps.{ClassMap, ClassHoldsIn, HoldsIn, DoesIn, AnswersIn, IsSoundIn}
use Rattle.rule_model.specs.Soundness.{IsSound, Answers, named_class}
use Rattle.rule_model.specs.States.{HasMembers}
use Rattle.rule_model.proofs.Roots.{plain_root}

-- the names of the class after, and what holds of them
record After (classes : ClassMap) (claim : Claim) (names : List (List ℕ)) : Type 0 where
  pub more : List (List ℕ)
  pub holds : ClassHolds claim names more
  pub there : (n : ℕ) → class_after claim ≡ Some n → classes n ≡ Some more

-- where the claim names the class of these names
after_in : (classes : ClassMap) (functions : Functions) (claim : Claim) (number : ℕ) (names : List (List ℕ)) (class : Option ClassClaim) → claim.class ≡ class
    → ((c : ClassClaim) → claim.class ≡ Some c → number ≡ c.class) → HoldsIn classes functions claim → classes number ≡ Some names → After classes claim names
after_in classes functions claim number names None is guarded holds here = record {
  more = [];
  holds = record { lists = λ c e. let no : None ≡ Some c = sym is ∙ e in cc };
  there = λ n e. let no : None ≡ Some n = sym (ap (λ (k : Option ClassClaim). elim k [ Some c ↦ c.after | None ↦ None ]) is) ∙ e in cc;
}
after_in classes functions claim number names (Some c) is guarded holds here =
    let h : ClassHoldsIn classes c = holds.class c is in
    let same : h.names ≡ names = let both : Some h.names ≡ Some names = sym h.class ∙ ap classes (sym (guarded c is)) ∙ here in cc in
    record {
      more = h.more;
      holds = record { lists = λ d e. let one : c ≡ d = let both : Some c ≡ Some d = sym is ∙ e in cc in subst (λ (k : ClassClaim). ListHolds k names h.more) one (subst (λ (ns : List (List ℕ)). ListHolds c ns h.more) same h.lists) };
      there = λ n e. h.after n (sym (ap (λ (k : Option ClassClaim). elim k [ Some d ↦ d.after | None ↦ None ]) is) ∙ e);
    }

-- the class to which a body moves an object is the one that its root names
moved_class : (operands : List Value) (more : List (List ℕ)) (s : State) (n : Node) → (state_after operands more s n).class ≡ unwrap_or (named_class n) s.class
moved_class operands more s (Append c a) = refl
moved_class operands more s (Remove p c) = refl
moved_class operands more s _ = refl

moved_names : (classes : ClassMap) (operands : List Value) (more : List (List ℕ)) (s : State) (n : Node) → classes s.class ≡ Some s.names → ((c : ℕ) → named_class n ≡ Some c → classes c ≡ Some more)
    → classes (state_after operands more s n).class ≡ Some (state_after operands more s n).names
moved_names classes operands more s (Append c a) here there = there c refl
moved_names classes operands more s (Remove p c) here there = there c refl
moved_names classes operands more s _ here there = here

does_in : (classes : ClassMap) (b : Binder) (test : List Value → ℕ → Bool) (body : List Node) (claim : Claim) (s : State) (ms : Members) (o : ℕ) (arguments : List Value) (access : Access)
    → IsSound b test body claim → After classes claim s.names → classes s.class ≡ Some s.names → HasMembers s ms → AreMembers ms
    → access_of b arguments ≡ Some access → test (value.Obj o ∷ arguments) s.class ≡ true → DoesIn classes body claim (value.Obj o ∷ arguments) s (step_by access ms)
does_in classes b test body claim s ms o arguments access sound after here has are reaches passes = record {
  more = after.more;
  does = sound.object s ms after.more o arguments access has are reaches passes after.holds;
  class = moved_class (value.Obj o ∷ arguments) after.more s (root body) ∙ ap (λ (k : Option ℕ). unwrap_or k s.class) (sym sound.moves);
  names = moved_names classes (value.Obj o ∷ arguments) after.more s (root body) here (λ c e. after.there c (sound.moves ∙ e));
}

-- a body that leaves objects alone
plain_in : (body : List Node) (operands : List Value) (s : State) (to : Outcome) → Answers body operands s to → AnswersIn body operands s to
plain_in body operands s to answers = record { answers = answers; stays = λ more. state_plain operands more s (root body) (plain_root body answers.plain) }

pub sound_in_maps : (b : Binder) (test : List Value → ℕ → Bool) (body : List Node) (claim : Claim) → IsSound b test body claim → IsSoundIn b test body claim
sound_in_maps b test body claim sound = record {
  object = λ classes functions s ms o arguments access holds here has are reaches passes.
      does_in classes b test body claim s ms o arguments access sound
      (after_in classes functions claim s.class s.names claim.class refl (λ c e. sound.guarded c (value.Obj o ∷ arguments) s.class e passes) holds here) here has are reaches passes;
  plain = λ classes functions s operands holds here none suit passes. plain_in body operands s (plain_step functions b operands) (sound.plain functions s operands none suit passes holds.fun);
}
