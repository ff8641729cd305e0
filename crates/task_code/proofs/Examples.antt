-- What small code does.
use Rattle.std.proofs.Common.{◌≡◌, refl, List, [], ◌∷◌, ℕ, pos}
use Rattle.dyn_value.specs.declared.fault.Fault.TheVariants.{Turns}
use Rattle.dyn_value.specs.declared.value.Value.TheVariants as value
use Rattle.task_code.specs.declared.code.Steps.{Steps}
use Rattle.task_code.specs.Acts.{Calls, fails, values_of}
use Rattle.task_code.specs.Codes.{Plan, task_code_act, around_of, body_act, head_act}
use Rattle.task_code.specs.Costs.{steps_cost, steps_uses, head_cost, head_uses}

-- named arguments take the places of their parameters
placed_by_name : values_of ((1 ∷ []) ∷ (2 ∷ []) ∷ (3 ∷ []) ∷ []) (record { count = 3; names = (3 ∷ []) ∷ (2 ∷ []) ∷ [] }) (value.Int (pos 7) ∷ value.Int (pos 8) ∷ value.Int (pos 9) ∷ []) ≡ value.Int (pos 7) ∷ value.Int (pos 9) ∷ value.Int (pos 8) ∷ []
placed_by_name = refl

-- a task's code is its body's, with all levels
begins : (plan : Plan) (body : Steps) → task_code_act plan 0 [] body 5 ≡ body_act (around_of plan 0 [] 256) body 256 (record { turns = 5; locals = [] })
begins plan body = refl

same_cost : (body : Steps) → steps_cost body ≡ steps_cost body
same_cost body = refl

same_uses : (body : Steps) → steps_uses body ≡ steps_uses body
same_uses body = refl
