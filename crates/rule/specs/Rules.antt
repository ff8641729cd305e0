-- What a rule is made of, and what a binding makes.
use Rattle.std.specs.Prelude.{◌≡◌, ℕ, true, List, map}
use Rattle.dyn_value.specs.declared.value.Value.{Value}
use Rattle.expando_class.specs.declared.pass.ClassPass.{ClassPass}
use Rattle.expr_tree.specs.declared.node.Node.{Node}
use Rattle.expr_tree.specs.Meanings.{passes}
use Rattle.restrictions.specs.Meanings.{all_hold}
use Rattle.standard_binders.specs.declared.binder.Binder.{Binder}
use Rattle.standard_binders.specs.Functions.{Functions}
use Rattle.rule_model.specs.declared.claim.Claim.{Claim}
use Rattle.rule_model.specs.Soundness.{IsSound}
use Rattle.rule_model.specs.Tests.{form_of, tests_by}
use Rattle.meta_object.specs.declared.meta.MetaObject.{MetaObject}
use Rattle.meta_object.specs.Bindings.{IsClaimed}
use Rattle.meta_object.specs.Metas.{Describes, known_in}
use Rattle.rule.specs.declared.rule.Rule.{Rule}

-- the binder whose operations a rule answers
abbrev pub binder_of : Rule → Binder
binder_of r = r.binder

-- the tree that is true where it serves
abbrev pub test_of : Rule → List Node
test_of r = r.test

-- what it answers
abbrev pub body_of : Rule → List Node
body_of r = r.body

-- what it rests on beside its test
abbrev pub claim_of : Rule → Claim
claim_of r = r.claim

-- it is sound
abbrev pub IsSoundRule : Rule → Type 0
IsSoundRule r = ∥ IsSound (binder_of r) (passes (test_of r)) (body_of r) (claim_of r) ∥₁

-- A rule that was bound for the operation of these metaobjects. It passes exactly where the tests of its binder hold.
pub record IsBoundRule (functions : Functions) (pass : ClassPass) (b : Binder) (metas : List MetaObject) (r : Rule)
    : Type 0 where
  pub binder_is : binder_of r ≡ b
  pub tests : (operands : List Value) (class : ℕ) →
      passes (test_of r) operands class ≡ all_hold (tests_by (form_of b) (map known_in metas)) operands class
  pub passing : (operands : List Value) (class : ℕ) → Describes metas operands class
      → passes (test_of r) operands class ≡ true
  pub holds : IsClaimed functions pass metas (claim_of r)
