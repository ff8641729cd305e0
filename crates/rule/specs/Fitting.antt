-- Where a rule fits an operation on an object, and what its body does there.
use Rattle.std.specs.Prelude.{◌≡◌, ℕ, true, List, ◌∷◌, Option, None, Some}
use Rattle.std.specs.Option.{option_map}
use Rattle.std.proofs.Common.{refl, ap, subst}
use Rattle.std.proofs.Math.Logic.{∥∥₁_map}
use Rattle.dyn_value.specs.declared.value.Value.{Value}
use Rattle.dyn_value.specs.declared.value.Value.TheVariants as value
use Rattle.expr_tree.specs.Meanings.{State, passes}
use Rattle.object_model.specs.Accesses.{Access, access_of}
use Rattle.object_model.specs.Members.{AreMembers, Members}
use Rattle.object_model.specs.Steps.{Step, object_step, step_by}
use Rattle.rule_model.specs.Claims.{ClassHolds}
use Rattle.rule_model.specs.Soundness.{Does}
use Rattle.rule_model.specs.States.{HasMembers}
use Rattle.rule.specs.declared.rule.Rule.{Rule}
use Rattle.rule.specs.Rules.{binder_of, body_of, claim_of, test_of}

-- Its test is true of the operands and the class of the state, and what it claims holds of the names of that class and
-- of the class after.
pub record Fits (r : Rule) (operands : List Value) (s : State) (more : List (List ℕ)) : Type 0 where
  pub passes : passes (test_of r) operands s.class ≡ true
  pub holds : ClassHolds (claim_of r) s.names more

reached : (ms : Members) (access : Option Access) (step : Step) → option_map (λ a. step_by a ms) access ≡ Some step
    → (a : Access) × (access ≡ Some a) × (step_by a ms ≡ step)
reached ms None step is = cc
reached ms (Some a) step is = (a, refl, cc)

-- the body of a rule that fits does what the operation does
pub does_step : (r : Rule) (s : State) (ms : Members) (more : List (List ℕ)) (object : ℕ) (arguments : List Value) (step : Step)
    → HasMembers s ms → AreMembers ms → object_step ms (binder_of r) arguments ≡ Some step
    → Fits r (value.Obj object ∷ arguments) s more → ∥ Does (body_of r) (value.Obj object ∷ arguments) more s step ∥₁
does_step r s ms more object arguments step has are is fits =
    let reach = reached ms (access_of (binder_of r) arguments) step is in
    ∥∥₁_map r.sound (λ sound. subst (Does (body_of r) (value.Obj object ∷ arguments) more s) reach.2
    (sound.object s ms more object arguments reach.0 has are reach.1 fits.passes fits.holds))
