-- The test is true where the restrictions hold, so what is sound by them is sound by it.
use Rattle.std.proofs.Common.{◌≡◌, ℕ, Bool, List, sym, subst}
use Rattle.dyn_value.specs.declared.value.Value.{Value}
use Rattle.expr_tree.specs.Meanings.{passes}
use Rattle.restrictions.specs.Meanings.{all_hold}
use Rattle.rule_model.specs.Soundness.{IsSound}
use Rattle.rule.proofs.rule.Rule.of.Goals as goal

pub invariant_of-result : goal.invariant_of-result
invariant_of-result c =
    let same : all_hold c.args.bound.restrictions ≡ passes c.in_ok-test.test = (λ i operands class. sym (c.in_ok-test.ensures.meaning operands class) i) in
    record { sound = ∣ subst (λ (f : List Value → ℕ → Bool). IsSound c.args.binder f c.args.bound.body c.args.bound.claim) same c.requires ∣₁ }
