-- What a rule answers that passes on an operation that looks at no object.
use Rattle.std.proofs.Common.{◌≡◌, ◌∙◌, ℕ, true, List, [], ◌∷◌, Result, Ok, Err, IfOk, refl}
use Rattle.std.proofs.Math.Logic.{∥∥₁_elim}
use Rattle.std.proofs.Props.{props}
use Rattle.std.proofs.lemmas.Bool.{and_parts}
use Rattle.std.specs.List.{AllByRecursion, list_all}
use Rattle.std.specs.Prelude.{IsTrue}
use Rattle.dyn_value.specs.declared.outcome.Outcome.{Outcome}
use Rattle.dyn_value.specs.declared.value.Value.{Value}
use Rattle.expr_tree.specs.declared.node.Node.{Node}
use Rattle.expr_tree.specs.Meanings.{IsThere, State, answer_in, is_plain, passes}
use Rattle.expr_tree.specs.Trees.{root}
use Rattle.object_model.specs.Plain.{plain_step}
use Rattle.rule_model.specs.Claims.{FunHolds}
use Rattle.rule_model.specs.Soundness.{Answers, IsSound, Suit, looks_at_none}
use Rattle.standard_binders.specs.Functions.{Functions}
use Rattle.rule.specs.declared.rule.Rule.{Rule}
use Rattle.rule.specs.Rules.{IsSoundRule, binder_of, body_of, claim_of, test_of}
use Rattle.known_rules.specs.Guarding.{Passes}

pub if_ok : {T E : Type 0} {P Q : T → Type 0} (r : Result T E) → ((x : T) → P x → Q x) → IfOk r P → IfOk r Q
if_ok (Ok x) each p = each x p
if_ok (Err e) each p = tt

-- what holds of all nodes of a body holds of its root
root_there : (operands values : List Value) (body : List Node) → AllByRecursion (IsThere operands values) body → IsThere operands values (root body)
root_there operands values [] all = refl
root_there operands values (n ∷ []) all = all.0
root_there operands values (n ∷ m ∷ ns) all = root_there operands values (m ∷ ns) all.1

root_plain : (body : List Node) → IsTrue (list_all is_plain body) → IsTrue (is_plain (root body))
root_plain [] all = refl
root_plain (n ∷ []) all = (and_parts (is_plain n) true all).0
root_plain (n ∷ m ∷ ns) all = root_plain (m ∷ ns) (and_parts (is_plain n) (list_all is_plain (m ∷ ns)) all).1

there_prop : (operands : List Value) (n : Node) → IsProp (IsThere operands [] n)
there_prop operands n = hlevel props

plain_prop : (n : Node) → IsProp (IsTrue (is_plain n))
plain_prop n = hlevel props

outcome_prop : (a b : Outcome) → IsProp (a ≡ b)
outcome_prop a b = hlevel props

-- no object, but a number of a class on which a test passes
abbrev no_object : ℕ → State
no_object class = record { class = class; names = []; values = [] }

-- It serves for the operation: its claim on a function holds, and it passes.
pub record ServesPlain (functions : Functions) (operands : List Value) (class : ℕ) (r : Rule) : Type 0 where
  pub sound : IsSoundRule r
  pub fun : FunHolds (claim_of r) functions
  pub none : looks_at_none (binder_of r) operands ≡ true
  pub suit : Suit (binder_of r) operands
  pub passes : Passes operands class r

answers : (functions : Functions) (operands : List Value) (class : ℕ) (r : Rule) → ServesPlain functions operands class r
    → IsSound (binder_of r) (passes (test_of r)) (body_of r) (claim_of r)
    → Answers (body_of r) operands (no_object class) (plain_step functions (binder_of r) operands)
answers functions operands class r serves sound =
    sound.plain functions (no_object class) operands serves.none serves.suit serves.passes serves.fun

pub plain_there : (functions : Functions) (operands : List Value) (class : ℕ) (r : Rule) → ServesPlain functions operands class r
    → IsThere operands [] (root (body_of r))
plain_there functions operands class r serves =
    ∥∥₁_elim serves.sound (there_prop operands (root (body_of r))) (λ s. root_there operands [] (body_of r)
    (answers functions operands class r serves s).there)

pub plain_plain : (functions : Functions) (operands : List Value) (class : ℕ) (r : Rule) → ServesPlain functions operands class r
    → IsTrue (is_plain (root (body_of r)))
plain_plain functions operands class r serves =
    ∥∥₁_elim serves.sound (plain_prop (root (body_of r))) (λ s. root_plain (body_of r) (answers functions operands class r serves s).plain)

pub plain_answer : (functions : Functions) (operands : List Value) (class : ℕ) (r : Rule) (o : Outcome) → ServesPlain functions operands class r
    → ((s : State) → o ≡ answer_in operands s (root (body_of r))) → o ≡ plain_step functions (binder_of r) operands
plain_answer functions operands class r o serves is =
    ∥∥₁_elim serves.sound (outcome_prop o (plain_step functions (binder_of r) operands)) (λ s. is (no_object class)
    ∙ (answers functions operands class r serves s).outcome)
