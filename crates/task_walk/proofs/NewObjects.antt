-- An object that is made by a function: the target and the arguments stand in one level.
use Rattle.std.proofs.Common.{◌≡◌, ℕ, suc, ◌+◌, List, [], ◌∷◌, ◌++◌, length, map, sum, flat_map, Option, Some, None, refl, ap, sym}
use Rattle.std.proofs.Common.{subst, arith}
use Rattle.dyn_value.specs.declared.fault.Fault.TheVariants.{Depth}
use Rattle.dyn_value.specs.declared.value.Value.{Value}
use Rattle.task_code.specs.declared.code.FunctionCode.{FunctionCode}
use Rattle.task_code.specs.declared.code.Node.{Node}
use Rattle.task_code.specs.declared.frame.Frame.{Frame}
use Rattle.task_code.specs.Acts.{Ending, Gives, Fails, within}
use Rattle.task_code.specs.Codes.{node_act, operands_act}
use Rattle.task_code.specs.Costs.{AtSite, node_cost, node_uses}
use Rattle.task_code.specs.Fits.{Fits, IsAllowed}
use Rattle.task_walk.specs.declared.code.Code.{Code}
use Rattle.task_walk.specs.declared.stop.Stop.{Stop}
use Rattle.task_walk.specs.declared.stop.Stop.TheVariants as stop
use Rattle.task_walk.specs.Comings.{Told}
use Rattle.task_walk.specs.Parts.{AreAfter, creates_act, new_of_act}
use Rattle.task_walk.specs.Tales.{Teller, Tale, Asked, AreProper, IsProperValue}
use Rattle.task_walk.specs.Walks.{stopped, IsReady, Walked}
use Rattle.task_walk.proofs.Walkings.{walked_then, walked_stopped, walked_within, walked_depth, walked_lost, ready_part, ready_after, all_first, all_second}

-- the operands are evaluated first
operands_stopped : {H : Type 0} (P : Teller → List Value → Type 0) (why : Stop) (by : Teller) (functions : List FunctionCode) (levels : ℕ) (site : ℕ)
    (target : Node) (args : List Node)
    (first last : Frame) (old new : Told) (before now : H → List Asked → Type 0)
    → Walked by functions levels (λ a. within levels first (λ n. operands_act [] (node_act a target ∷ map (node_act a) args) n first)) P
    (node_cost target + sum (map node_cost args)) (stopped why)
    first last old new before now
    → Walked by functions levels (λ a. new_of_act a site target args levels first) IsProperValue (node_cost target + sum (map node_cost args) + 2)
    (stopped why) first last old new before now
operands_stopped P why by functions levels site target args first last old new before now one =
    walked_stopped why by functions levels (λ a. within levels first (λ n. operands_act [] (node_act a target ∷ map (node_act a) args) n first))
    (λ a operands after. creates_act a site operands levels after)
    P IsProperValue (node_cost target + sum (map node_cost args)) (node_cost target + sum (map node_cost args) + 2) first last old new before now one
    (omega arith)

pub new_of_deep : {H : Type 0} (by : Teller) (functions : List FunctionCode) (levels : ℕ) (site : ℕ) (target : Node) (args : List Node) (s : Frame) (m : Told)
    (before : H → List Asked → Type 0)
    → levels ≡ 0 → m.world.by ≡ by → AreProper by s.locals
    → Walked by functions levels (λ a. new_of_act a site target args levels s) IsProperValue (node_cost target + sum (map node_cost args) + 2)
    (Some (Fails Depth)) s s m m before before
new_of_deep by functions levels site target args s m before deep same locals =
    operands_stopped AreProper (stop.Fault Depth) by functions levels site target args s s m m before before
    (walked_depth by functions levels (λ a n. operands_act [] (node_act a target ∷ map (node_act a) args) n s) AreProper
    (node_cost target + sum (map node_cost args)) s m before deep same locals)

pub ready_target : (code : Code) (t : Tale) (site n : ℕ) (target : Node) (args : List Node) (s : Frame)
    → IsReady code t (AtSite site n ∷ (node_uses target ++ flat_map node_uses args)) (node_cost target + sum (map node_cost args) + 2) s
    → IsReady code t (node_uses target) (node_cost target) s
ready_target code t site n target args s ready =
    ready_part code (AtSite site n ∷ (node_uses target ++ flat_map node_uses args)) (node_uses target) (node_cost target + sum (map node_cost args) + 2)
    (node_cost target) s t ready
    (all_first (IsAllowed t.by.plan t.by.limit) (node_uses target) (flat_map node_uses args) ready.fits.1) (omega arith)

pub target_stopped : {H : Type 0} (why : Stop) (by : Teller) (functions : List FunctionCode) (levels inner : ℕ) (site : ℕ) (target : Node) (args : List Node)
    (first last : Frame) (old new : Told) (before now : H → List Asked → Type 0)
    → levels ≡ suc inner
    → Walked by functions inner (λ a. node_act a target inner first) IsProperValue (node_cost target) (stopped why) first last old new before now
    → Walked by functions levels (λ a. new_of_act a site target args levels first) IsProperValue (node_cost target + sum (map node_cost args) + 2)
    (stopped why) first last old new before now
target_stopped why by functions levels inner site target args first last old new before now deep one =
    operands_stopped AreProper why by functions levels site target args first last old new before now
    (walked_within by functions levels inner (λ a n. operands_act [] (node_act a target ∷ map (node_act a) args) n first) AreProper
    (node_cost target + sum (map node_cost args)) (stopped why)
    first first last old new before now deep
    (walked_stopped why by functions inner (λ a. node_act a target inner first) (λ a v after. operands_act (v ∷ []) (map (node_act a) args) inner after)
    IsProperValue AreProper
    (node_cost target) (node_cost target + sum (map node_cost args)) first last old new before now one (omega arith)))

-- memory is wanting to keep the target's value
pub target_lost : {H : Type 0} (by : Teller) (functions : List FunctionCode) (levels inner : ℕ) (site : ℕ) (target : Node) (args : List Node) (v : Value)
    (first last : Frame) (old new : Told) (before now : H → List Asked → Type 0)
    → levels ≡ suc inner
    → Walked by functions inner (λ a. node_act a target inner first) IsProperValue (node_cost target) (Some (Gives v)) first last old new before now
    → Walked by functions levels (λ a. new_of_act a site target args levels first) IsProperValue (node_cost target + sum (map node_cost args) + 2) None first
    last old new before now
target_lost by functions levels inner site target args v first last old new before now deep one =
    operands_stopped AreProper stop.Memory by functions levels site target args first last old new before now
    (walked_within by functions levels inner (λ a n. operands_act [] (node_act a target ∷ map (node_act a) args) n first) AreProper
    (node_cost target + sum (map node_cost args)) None
    first first last old new before now deep
    (walked_then by functions inner (λ a. node_act a target inner first) (λ a w after. operands_act (w ∷ []) (map (node_act a) args) inner after)
    IsProperValue AreProper
    (node_cost target) (sum (map node_cost args)) (node_cost target + sum (map node_cost args)) v None first last last old new new before now now one
    (walked_lost new.world.by functions inner (λ a. operands_act (v ∷ []) (map (node_act a) args) inner last) AreProper (sum (map node_cost args)) last last
    new now refl (omega arith)
    (subst (λ b. AreProper b last.locals) (sym one.same) one.locals)) (omega arith)))

pub ready_rest : {H : Type 0} (code : Code) (functions : List FunctionCode) (inner site n : ℕ) (target : Node) (args : List Node) (v : Value)
    (first last : Frame) (old new : Told) (before now : H → List Asked → Type 0)
    → IsReady code old.world (AtSite site n ∷ (node_uses target ++ flat_map node_uses args)) (node_cost target + sum (map node_cost args) + 2) first
    → Walked old.world.by functions inner (λ a. node_act a target inner first) IsProperValue (node_cost target) (Some (Gives v)) first last old new before now
    → IsReady code new.world (AtSite site n ∷ flat_map node_uses args) (sum (map node_cost args) + 2) last
ready_rest code functions inner site n target args v first last old new before now ready one =
    ready_after code (AtSite site n ∷ (node_uses target ++ flat_map node_uses args)) (AtSite site n ∷ flat_map node_uses args)
    (node_cost target + sum (map node_cost args) + 2) (node_cost target)
    (sum (map node_cost args) + 2) functions inner (λ a. node_act a target inner first) IsProperValue (Some (Gives v)) first last old new before now ready one
    (ready.fits.0, all_second (IsAllowed old.world.by.plan old.world.by.limit) (node_uses target) (flat_map node_uses args) ready.fits.1) (omega arith)

pub ready_args : (code : Code) (t : Tale) (site n : ℕ) (args : List Node) (s : Frame)
    → IsReady code t (AtSite site n ∷ flat_map node_uses args) (sum (map node_cost args) + 2) s
    → IsReady code t (flat_map node_uses args) (sum (map node_cost args)) s
ready_args code t site n args s ready =
    ready_part code (AtSite site n ∷ flat_map node_uses args) (flat_map node_uses args) (sum (map node_cost args) + 2) (sum (map node_cost args)) s t ready
    ready.fits.1 (omega arith)

-- the operands, inside one more level
both : {H : Type 0} (P : Teller → List Value → Type 0) (by : Teller) (functions : List FunctionCode) (levels inner : ℕ) (target : Node) (args : List Node)
    (v : Value) (vs : List Value) (ending : Option (Ending (List Value)))
    (first between last : Frame) (old middle new : Told) (before during now : H → List Asked → Type 0)
    → levels ≡ suc inner → vs ≡ v ∷ []
    → Walked by functions inner (λ a. node_act a target inner first) IsProperValue (node_cost target) (Some (Gives v)) first between old middle before during
    → Walked middle.world.by functions inner (λ a. operands_act vs (map (node_act a) args) inner between) P (sum (map node_cost args)) ending between last
    middle new during now
    → Walked by functions levels (λ a. within levels first (λ n. operands_act [] (node_act a target ∷ map (node_act a) args) n first)) P
    (node_cost target + sum (map node_cost args)) ending
    first last old new before now
both P by functions levels inner target args v vs ending first between last old middle new before during now deep kept one two =
    let rest : Walked middle.world.by functions inner (λ a. operands_act (v ∷ []) (map (node_act a) args) inner between) P (sum (map node_cost args)) ending
    between last middle new during now =
    subst (λ us. Walked middle.world.by functions inner (λ a. operands_act us (map (node_act a) args) inner between) P (sum (map node_cost args)) ending
    between last middle new during now) kept two in
    walked_within by functions levels inner (λ a n. operands_act [] (node_act a target ∷ map (node_act a) args) n first) P
    (node_cost target + sum (map node_cost args)) ending
    first first last old new before now deep
    (walked_then by functions inner (λ a. node_act a target inner first) (λ a w after. operands_act (w ∷ []) (map (node_act a) args) inner after)
    IsProperValue P
    (node_cost target) (sum (map node_cost args)) (node_cost target + sum (map node_cost args)) v ending first between last old middle new before during now
    one rest (omega arith))

pub args_stopped : {H : Type 0} (why : Stop) (by : Teller) (functions : List FunctionCode) (levels inner site : ℕ) (target : Node) (args : List Node)
    (v : Value) (vs : List Value)
    (first between last : Frame) (old middle new : Told) (before during now : H → List Asked → Type 0)
    → levels ≡ suc inner → vs ≡ v ∷ []
    → Walked by functions inner (λ a. node_act a target inner first) IsProperValue (node_cost target) (Some (Gives v)) first between old middle before during
    → Walked middle.world.by functions inner (λ a. operands_act vs (map (node_act a) args) inner between) (AreAfter vs (length args))
    (sum (map node_cost args)) (stopped why) between last middle new during now
    → Walked by functions levels (λ a. new_of_act a site target args levels first) IsProperValue (node_cost target + sum (map node_cost args) + 2)
    (stopped why) first last old new before now
args_stopped why by functions levels inner site target args v vs first between last old middle new before during now deep kept one two =
    operands_stopped (AreAfter vs (length args)) why by functions levels site target args first last old new before now
    (both (AreAfter vs (length args)) by functions levels inner target args v vs (stopped why) first between last old middle new before during now deep kept
    one two)

-- and then the object is made
pub ready_made : {H : Type 0} (code : Code) (functions : List FunctionCode) (inner site : ℕ) (args : List Node) (v : Value) (vs operands : List Value)
    (first last : Frame) (old new : Told) (before now : H → List Asked → Type 0)
    → vs ≡ v ∷ []
    → IsReady code old.world (AtSite site (suc (length args)) ∷ flat_map node_uses args) (sum (map node_cost args) + 2) first
    → Walked old.world.by functions inner (λ a. operands_act vs (map (node_act a) args) inner first) (AreAfter vs (length args)) (sum (map node_cost args))
    (Some (Gives operands)) first last old new before now
    → IsReady code new.world (AtSite site (length operands) ∷ []) 2 last
ready_made code functions inner site args v vs operands first last old new before now kept ready one =
    let counted : suc (length args) ≡ length operands = omega (arith, one.proper.0.0, ap length kept) in
    ready_after code (AtSite site (suc (length args)) ∷ flat_map node_uses args) (AtSite site (length operands) ∷ []) (sum (map node_cost args) + 2)
    (sum (map node_cost args)) 2 functions inner
    (λ a. operands_act vs (map (node_act a) args) inner first) (AreAfter vs (length args)) (Some (Gives operands)) first last old new before now ready one
    (subst (λ n. Fits old.world.by.plan old.world.by.limit (AtSite site n ∷ [])) counted (ready.fits.0, tt)) (omega arith)

pub new_of_whole : {H : Type 0} (by : Teller) (functions : List FunctionCode) (levels inner site : ℕ) (target : Node) (args : List Node) (v : Value)
    (vs operands : List Value) (ending : Option (Ending Value))
    (first between after last : Frame) (old middle evaluated new : Told) (before during evaluating now : H → List Asked → Type 0)
    → levels ≡ suc inner → vs ≡ v ∷ []
    → Walked by functions inner (λ a. node_act a target inner first) IsProperValue (node_cost target) (Some (Gives v)) first between old middle before during
    → Walked middle.world.by functions inner (λ a. operands_act vs (map (node_act a) args) inner between) (AreAfter vs (length args))
    (sum (map node_cost args)) (Some (Gives operands)) between after middle evaluated during evaluating
    → Walked evaluated.world.by functions levels (λ a. creates_act a site operands levels after) IsProperValue 2 ending after last evaluated new evaluating
    now
    → Walked by functions levels (λ a. new_of_act a site target args levels first) IsProperValue (node_cost target + sum (map node_cost args) + 2) ending
    first last old new before now
new_of_whole by functions levels inner site target args v vs operands ending first between after last old middle evaluated new before during evaluating now
    deep kept one two three =
    walked_then by functions levels (λ a. within levels first (λ n. operands_act [] (node_act a target ∷ map (node_act a) args) n first))
    (λ a us t. creates_act a site us levels t)
    (AreAfter vs (length args)) IsProperValue (node_cost target + sum (map node_cost args)) 2 (node_cost target + sum (map node_cost args) + 2) operands
    ending first after last old evaluated new before evaluating now
    (both (AreAfter vs (length args)) by functions levels inner target args v vs (Some (Gives operands)) first between after old middle evaluated before
    during evaluating deep kept one two) three (omega arith)
