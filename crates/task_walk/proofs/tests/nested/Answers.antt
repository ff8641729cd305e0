use Rattle.std.proofs.Common.{◌≡◌, ℕ, ◌+◌, List, [], ◌∷◌, ◌++◌, map, sum, refl, ap, ◌∙◌, arith}
use Rattle.task_code.specs.declared.code.Step.{Step}
use Rattle.task_code.specs.declared.code.Step.TheVariants as step
use Rattle.task_code.specs.declared.code.Steps.{Steps}
use Rattle.task_code.specs.Costs.{all_uses, step_cost, step_uses, steps_cost, steps_uses}
use Rattle.task_walk.proofs.Forms.{cost-steps, cost-step-Try, uses-steps, uses-step-Try}
use Rattle.task_walk.proofs.Loops.{sum_first}
use Rattle.task_walk.proofs.tests.nested.Goals as goal

none_uses : (b : Steps) → b.0 ≡ [] → steps_uses b ≡ []
none_uses b is = uses-steps b ∙ ap (λ xs. all_uses (map step_uses xs)) is

none_costs : (b : Steps) → b.0 ≡ [] → steps_cost b ≡ 0
none_costs b is = cost-steps b ∙ ap (λ xs. sum (map step_cost xs)) is

try_uses : (b body caught : Steps) (xs : List Step) → b.0 ≡ xs ++ step.Try body 0 caught ∷ [] → xs ≡ [] → steps_uses body ≡ [] → caught.0 ≡ []
    → steps_uses b ≡ []
try_uses b body caught xs is new none empty =
    uses-steps b ∙ ap (λ ys. all_uses (map step_uses ys)) (is ∙ ap (λ ys. ys ++ step.Try body 0 caught ∷ []) new) ∙ ap (λ us. us ++ [])
    (uses-step-Try body 0 caught ∙ ap (λ us. us ++ steps_uses caught) none ∙ none_uses caught empty)

try_costs : (b body caught : Steps) (xs : List Step) → b.0 ≡ xs ++ step.Try body 0 caught ∷ [] → xs ≡ [] → steps_cost body ≡ 0 → caught.0 ≡ []
    → steps_cost b ≡ 0
try_costs b body caught xs is new none empty =
    omega (
      arith,
      cost-steps b,
      ap (λ ys. sum (map step_cost ys)) (is ∙ ap (λ ys. ys ++ step.Try body 0 caught ∷ []) new),
      sum_first step_cost
          (step.Try body 0 caught) [],
      cost-step-Try body 0 caught,
      none,
      none_costs caught empty,
    )

pub nesting-init : goal.nesting-init
nesting-init c = record { uses = none_uses _ c.new.ensures; cost = none_costs _ c.new.ensures }

pub nesting-preserved : goal.nesting-preserved
nesting-preserved c = record {
  uses = try_uses _ c.nesting.block _ c.new-outer.result c.in_ok-push.ensures.ok c.new-outer.ensures c.nesting.invariant.uses c.new-in-nesting.ensures;
  cost = try_costs _ c.nesting.block _ c.new-outer.result c.in_ok-push.ensures.ok c.new-outer.ensures c.nesting.invariant.cost c.new-in-nesting.ensures;
}
