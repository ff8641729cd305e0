-- Statements that are executed one after the other.
use Rattle.std.proofs.Common.{◌≡◌, ℕ, ◌+◌, ◌<◌, ◌≤◌, List, length, drop, get_or, map, sum, Some, subst, arith}
use Rattle.dyn_value.specs.declared.value.Value.{Value}
use Rattle.task_code.specs.declared.code.FunctionCode.{FunctionCode}
use Rattle.task_code.specs.declared.code.Step.{Step}
use Rattle.task_code.specs.declared.frame.Flow.{Flow}
use Rattle.task_code.specs.declared.frame.Flow.TheVariants.{Next, Returned}
use Rattle.task_code.specs.declared.frame.Frame.{Frame}
use Rattle.task_code.specs.Acts.{Gives, Act, and_then}
use Rattle.task_code.specs.Codes.{Around, on_next, step_act, steps_act}
use Rattle.task_code.specs.Costs.{step_cost}
use Rattle.task_walk.specs.declared.stop.Stop.{Stop}
use Rattle.task_walk.specs.Comings.{Told}
use Rattle.task_walk.specs.Goings.{Going}
use Rattle.task_walk.specs.Tales.{Teller, Asked}
use Rattle.task_walk.specs.Walks.{stopped, IsProperFlow, Walked}
use Rattle.task_walk.proofs.Goings.{going_then}
use Rattle.task_walk.proofs.Loops.{going_item, going_past}
use Rattle.task_walk.proofs.Underway.{going_stopped, going_done, walked_proper}

step_next : {H : Type 0} (by : Teller) (functions : List FunctionCode) (levels : ℕ) (whole : Around → Act Frame Flow) (cost : ℕ) (first : Frame) (old : Told)
    (before : H → List Asked → Type 0)
    (xs : List Step) (i : ℕ) (x : Step) (s : Frame) (now : Told) (during : H → List Asked → Type 0)
    → i < length xs → x ≡ get_or xs i x
    → Going by functions levels whole cost first old before (λ a. steps_act (map (step_act a) (drop i xs)) levels s) (sum (map step_cost (drop i xs))) s now
    during
    → Going by functions levels whole cost first old before (λ a. and_then (step_act a x levels s)
    (on_next (steps_act (map (step_act a) (drop (i + 1) xs)) levels)))
    (step_cost x + sum (map step_cost (drop (i + 1) xs))) s now during
step_next by functions levels whole cost first old before xs i x s now during less is going =
    going_item by functions levels whole cost first old before (λ a ys. steps_act (map (step_act a) ys) levels s) step_cost xs i x s now during less is going

-- a statement was executed
step_over : {H : Type 0} (by : Teller) (functions : List FunctionCode) (levels : ℕ) (whole : Around → Act Frame Flow) (cost : ℕ) (first : Frame) (old : Told)
    (before : H → List Asked → Type 0)
    (xs : List Step) (i : ℕ) (x : Step) (flow : Flow) (s last : Frame) (now new : Told) (during after : H → List Asked → Type 0)
    → i < length xs → x ≡ get_or xs i x
    → Going by functions levels whole cost first old before (λ a. steps_act (map (step_act a) (drop i xs)) levels s) (sum (map step_cost (drop i xs))) s now
    during
    → Walked now.world.by functions levels (λ a. step_act a x levels s) IsProperFlow (step_cost x) (Some (Gives flow)) s last now new during after
    → Going by functions levels whole cost first old before (λ a. on_next (steps_act (map (step_act a) (drop (i + 1) xs)) levels) flow last)
    (sum (map step_cost (drop (i + 1) xs))) last new after
step_over by functions levels whole cost first old before xs i x flow s last now new during after less is going one =
    going_then by functions levels whole cost first old before (λ a. step_act a x levels s)
    (λ a. on_next (steps_act (map (step_act a) (drop (i + 1) xs)) levels)) IsProperFlow
    (step_cost x + sum (map step_cost (drop (i + 1) xs))) (step_cost x) (sum (map step_cost (drop (i + 1) xs))) flow s last now new during after
    (step_next by functions levels whole cost first old before xs i x s now during less is going) one (omega arith)

-- the next statement comes
pub step_kept : {H : Type 0} (by : Teller) (functions : List FunctionCode) (levels : ℕ) (whole : Around → Act Frame Flow) (cost : ℕ) (first : Frame)
    (old : Told) (before : H → List Asked → Type 0)
    (xs : List Step) (i : ℕ) (x : Step) (flow : Flow) (s last : Frame) (now new : Told) (during after : H → List Asked → Type 0)
    → i < length xs → x ≡ get_or xs i x → flow ≡ Next
    → Going by functions levels whole cost first old before (λ a. steps_act (map (step_act a) (drop i xs)) levels s) (sum (map step_cost (drop i xs))) s now
    during
    → Walked now.world.by functions levels (λ a. step_act a x levels s) IsProperFlow (step_cost x) (Some (Gives flow)) s last now new during after
    → Going by functions levels whole cost first old before (λ a. steps_act (map (step_act a) (drop (i + 1) xs)) levels last)
    (sum (map step_cost (drop (i + 1) xs))) last new after
step_kept by functions levels whole cost first old before xs i x flow s last now new during after less is comes going one =
    step_over by functions levels whole cost first old before xs i x Next s last now new during after less is going
    (subst (λ z. Walked now.world.by functions levels (λ a. step_act a x levels s) IsProperFlow (step_cost x) (Some (Gives z)) s last now new during after)
    comes one)

-- a statement ended the function
pub step_returned : {H : Type 0} (by : Teller) (functions : List FunctionCode) (levels : ℕ) (whole : Around → Act Frame Flow) (cost : ℕ) (first : Frame)
    (old : Told) (before : H → List Asked → Type 0)
    (xs : List Step) (i : ℕ) (x : Step) (flow : Flow) (v : Value) (s last : Frame) (now new : Told) (during after : H → List Asked → Type 0)
    → i < length xs → x ≡ get_or xs i x → flow ≡ Returned v
    → Going by functions levels whole cost first old before (λ a. steps_act (map (step_act a) (drop i xs)) levels s) (sum (map step_cost (drop i xs))) s now
    during
    → Walked now.world.by functions levels (λ a. step_act a x levels s) IsProperFlow (step_cost x) (Some (Gives flow)) s last now new during after
    → Walked by functions levels whole IsProperFlow cost (Some (Gives (Returned v))) first last old new before after
step_returned by functions levels whole cost first old before xs i x flow v s last now new during after less is comes going one =
    let ended : Walked now.world.by functions levels (λ a. step_act a x levels s) IsProperFlow (step_cost x) (Some (Gives (Returned v))) s last now new during
    after =
    subst (λ z. Walked now.world.by functions levels (λ a. step_act a x levels s) IsProperFlow (step_cost x) (Some (Gives z)) s last now new during after)
    comes one in
    going_done by functions levels whole cost first old before (Gives (Returned v)) IsProperFlow (sum (map step_cost (drop (i + 1) xs))) last new after
    (step_over by functions levels whole cost first old before xs i x (Returned v) s last now new during after less is going ended)
    (walked_proper now.world.by functions levels (λ a. step_act a x levels s) IsProperFlow (step_cost x) (Returned v) s last now new during after ended)

-- a statement stopped
pub step_stopped : {H : Type 0} (why : Stop) (by : Teller) (functions : List FunctionCode) (levels : ℕ) (whole : Around → Act Frame Flow) (cost : ℕ)
    (first : Frame) (old : Told) (before : H → List Asked → Type 0)
    (xs : List Step) (i : ℕ) (x : Step) (s last : Frame) (now new : Told) (during after : H → List Asked → Type 0)
    → i < length xs → x ≡ get_or xs i x
    → Going by functions levels whole cost first old before (λ a. steps_act (map (step_act a) (drop i xs)) levels s) (sum (map step_cost (drop i xs))) s now
    during
    → Walked now.world.by functions levels (λ a. step_act a x levels s) IsProperFlow (step_cost x) (stopped why) s last now new during after
    → Walked by functions levels whole IsProperFlow cost (stopped why) first last old new before after
step_stopped why by functions levels whole cost first old before xs i x s last now new during after less is going one =
    going_stopped why by functions levels whole cost first old before (λ a. step_act a x levels s)
    (λ a. on_next (steps_act (map (step_act a) (drop (i + 1) xs)) levels)) IsProperFlow IsProperFlow
    (step_cost x + sum (map step_cost (drop (i + 1) xs))) (step_cost x) s last now new during after
    (step_next by functions levels whole cost first old before xs i x s now during less is going) one (omega arith)

-- no statement is left
pub steps_done : {H : Type 0} (by : Teller) (functions : List FunctionCode) (levels : ℕ) (whole : Around → Act Frame Flow) (cost : ℕ) (first : Frame)
    (old : Told) (before : H → List Asked → Type 0)
    (xs : List Step) (i : ℕ) (s : Frame) (now : Told) (during : H → List Asked → Type 0)
    → length xs ≤ i
    → Going by functions levels whole cost first old before (λ a. steps_act (map (step_act a) (drop i xs)) levels s) (sum (map step_cost (drop i xs))) s now
    during
    → Walked by functions levels whole IsProperFlow cost (Some (Gives Next)) first s old now before during
steps_done by functions levels whole cost first old before xs i s now during past going =
    going_done by functions levels whole cost first old before (Gives Next) IsProperFlow 0 s now during
    (going_past by functions levels whole cost first old before (λ a ys. steps_act (map (step_act a) ys) levels s) xs i (sum (map step_cost (drop i xs))) s
    now during past going) tt
