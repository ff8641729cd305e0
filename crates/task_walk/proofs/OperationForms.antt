-- An operation on operands that are evaluated first.
use Rattle.std.proofs.Common.{◌≡◌, ℕ, ◌+◌, List, [], ◌∷◌, length, map, sum, flat_map, Option, Some, ap, sym, ◌∙◌, subst, arith}
use Rattle.dyn_value.specs.declared.value.Value.{Value}
use Rattle.task_code.specs.declared.code.FunctionCode.{FunctionCode}
use Rattle.task_code.specs.declared.frame.Frame.{Frame}
use Rattle.task_code.specs.Acts.{Ending, Gives}
use Rattle.task_code.specs.Codes.{operands_act, asks}
use Rattle.task_code.specs.Costs.{AtSite}
use Rattle.task_code.specs.Fits.{Fits}
use Rattle.task_walk.specs.declared.code.Code.{Code}
use Rattle.task_walk.specs.declared.part.Part.{Part}
use Rattle.task_walk.specs.declared.stop.Stop.{Stop}
use Rattle.task_walk.specs.Comings.{Told}
use Rattle.task_walk.specs.Goings.{Going}
use Rattle.task_walk.specs.Parts.{AreValues, part_act, part_cost, part_uses, operation_act}
use Rattle.task_walk.specs.Tales.{Teller, Tale, Asked, AreProper, IsProperValue}
use Rattle.task_walk.specs.Walks.{stopped, IsReady, Walked}
use Rattle.task_walk.proofs.Goings.{going_start}
use Rattle.task_walk.proofs.Walkings.{walked_then, walked_stopped, ready_part, ready_after}

-- no part was evaluated yet
pub parts_begun : {H : Type 0} (by : Teller) (functions : List FunctionCode) (levels : ℕ) (parts : List Part) (vs : List Value) (first : Frame) (old : Told)
    (before : H → List Asked → Type 0)
    → vs ≡ [] → old.world.by ≡ by → AreProper by first.locals
    → Going by functions levels (λ a. operands_act [] (map (part_act a) parts) levels first) (sum (map part_cost parts)) first old before
    (λ a. operands_act vs (map (part_act a) parts) levels first) (sum (map part_cost parts)) first old before
parts_begun {H = H} by functions levels parts vs first old before none same locals =
    subst (λ us. Going {H = H} by functions levels (λ a. operands_act [] (map (part_act a) parts) levels first) (sum (map part_cost parts)) first old before
    (λ a. operands_act us (map (part_act a) parts) levels first) (sum (map part_cost parts)) first old before) (sym none)
    (going_start by functions levels (λ a. operands_act [] (map (part_act a) parts) levels first) (sum (map part_cost parts)) first old before same locals)

pub values_none : (by : Teller) (vs : List Value) → vs ≡ [] → AreValues 0 by vs
values_none by vs none = (ap length none, subst (AreProper by) (sym none) tt)

pub ready_parts : (code : Code) (t : Tale) (site : ℕ) (parts : List Part) (s : Frame)
    → IsReady code t (AtSite site (length parts) ∷ flat_map part_uses parts) (sum (map part_cost parts) + 1) s
    → IsReady code t (flat_map part_uses parts) (sum (map part_cost parts)) s
ready_parts code t site parts s ready =
    ready_part code (AtSite site (length parts) ∷ flat_map part_uses parts) (flat_map part_uses parts) (sum (map part_cost parts) + 1)
    (sum (map part_cost parts)) s t ready ready.fits.1 (omega arith)

pub operation_stopped : {H : Type 0} (why : Stop) (by : Teller) (functions : List FunctionCode) (levels site : ℕ) (parts : List Part) (first last : Frame)
    (old new : Told) (before now : H → List Asked → Type 0)
    → Walked by functions levels (λ a. operands_act [] (map (part_act a) parts) levels first) (AreValues (length parts)) (sum (map part_cost parts))
    (stopped why) first last old new before now
    → Walked by functions levels (λ a. operation_act a site parts levels first) IsProperValue (sum (map part_cost parts) + 1) (stopped why) first last old new
    before now
operation_stopped why by functions levels site parts first last old new before now one =
    walked_stopped why by functions levels (λ a. operands_act [] (map (part_act a) parts) levels first) (λ a operands after. asks a.plan site operands after)
    (AreValues (length parts)) IsProperValue
    (sum (map part_cost parts)) (sum (map part_cost parts) + 1) first last old new before now one (omega arith)

pub ready_operation : {H : Type 0} (code : Code) (functions : List FunctionCode) (levels site : ℕ) (parts : List Part) (operands xs : List Value)
    (first last : Frame) (old new : Told) (before now : H → List Asked → Type 0)
    → IsReady code old.world (AtSite site (length parts) ∷ flat_map part_uses parts) (sum (map part_cost parts) + 1) first → xs ≡ operands
    → Walked old.world.by functions levels (λ a. operands_act [] (map (part_act a) parts) levels first) (AreValues (length parts)) (sum (map part_cost parts))
    (Some (Gives operands)) first last old new before now
    → IsReady code new.world (AtSite site (length xs) ∷ []) 1 last
ready_operation code functions levels site parts operands xs first last old new before now ready is one =
    let counted : length parts ≡ length xs = sym (ap length is ∙ one.proper.0) in
    ready_after code (AtSite site (length parts) ∷ flat_map part_uses parts) (AtSite site (length xs) ∷ []) (sum (map part_cost parts) + 1)
    (sum (map part_cost parts)) 1 functions levels
    (λ a. operands_act [] (map (part_act a) parts) levels first) (AreValues (length parts)) (Some (Gives operands)) first last old new before now ready one
    (subst (λ n. Fits old.world.by.plan old.world.by.limit (AtSite site n ∷ [])) counted (ready.fits.0, tt)) (omega arith)

pub operands_proper : {H : Type 0} (by : Teller) (functions : List FunctionCode) (levels : ℕ) (parts : List Part) (operands xs : List Value)
    (first last : Frame) (old new : Told) (before now : H → List Asked → Type 0)
    → xs ≡ operands
    → Walked by functions levels (λ a. operands_act [] (map (part_act a) parts) levels first) (AreValues (length parts)) (sum (map part_cost parts))
    (Some (Gives operands)) first last old new before now
    → AreProper new.world.by xs
operands_proper by functions levels parts operands xs first last old new before now is one = subst (AreProper new.world.by) (sym is)
    (subst (λ b. AreProper b operands) (sym one.same) one.proper.1)

pub operation_whole : {H : Type 0} (by : Teller) (functions : List FunctionCode) (levels site : ℕ) (parts : List Part) (operands xs : List Value)
    (ending : Option (Ending Value))
    (first between last : Frame) (old middle new : Told) (before during now : H → List Asked → Type 0)
    → xs ≡ operands
    → Walked by functions levels (λ a. operands_act [] (map (part_act a) parts) levels first) (AreValues (length parts)) (sum (map part_cost parts))
    (Some (Gives operands)) first between old middle before during
    → Walked middle.world.by functions levels (λ a. asks a.plan site xs between) IsProperValue 1 ending between last middle new during now
    → Walked by functions levels (λ a. operation_act a site parts levels first) IsProperValue (sum (map part_cost parts) + 1) ending first last old new before
    now
operation_whole {H = H} by functions levels site parts operands xs ending first between last old middle new before during now is one two =
    walked_then by functions levels (λ a. operands_act [] (map (part_act a) parts) levels first) (λ a us after. asks a.plan site us after)
    (AreValues (length parts)) IsProperValue
    (sum (map part_cost parts)) 1 (sum (map part_cost parts) + 1) operands ending first between last old middle new before during now one
    (subst (λ us. Walked {H = H} middle.world.by functions levels (λ a. asks a.plan site us between) IsProperValue 1 ending between last middle new during
    now) is two) (omega arith)
