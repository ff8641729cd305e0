-- Blocks, and what goes by a test.
use Rattle.std.proofs.Common.{◌≡◌, ℕ, suc, ◌+◌, ◌≤◌, List, ◌∷◌, ◌++◌, map, sum, flat_map, true, false, Option, Some, None, refl, sym, subst, arith}
use Rattle.dyn_value.specs.declared.fault.Fault.{Fault}
use Rattle.dyn_value.specs.declared.fault.Fault.TheVariants.{Depth}
use Rattle.dyn_value.specs.declared.value.Value.{Value}
use Rattle.task_code.specs.declared.code.FunctionCode.{FunctionCode}
use Rattle.task_code.specs.declared.code.Node.{Node}
use Rattle.task_code.specs.declared.code.Step.{Step}
use Rattle.task_code.specs.declared.code.Steps.{Steps}
use Rattle.task_code.specs.declared.frame.Flow.{Flow}
use Rattle.task_code.specs.declared.frame.Flow.TheVariants.{Next}
use Rattle.task_code.specs.declared.frame.Frame.{Frame}
use Rattle.task_code.specs.Acts.{Ending, Gives, Fails, Act, and_then, chosen}
use Rattle.task_code.specs.Codes.{Around, block_act, body_act, step_act, steps_act, tests}
use Rattle.task_code.specs.Costs.{Uses, AtSite, node_cost, node_uses, step_cost, step_uses, steps_cost, steps_uses}
use Rattle.task_code.specs.Fits.{IsAllowed}
use Rattle.task_walk.specs.declared.code.Code.{Code}
use Rattle.task_walk.specs.declared.stop.Stop.{Stop}
use Rattle.task_walk.specs.Comings.{Told}
use Rattle.task_walk.specs.Parts.{is_truth, optional_act, optional_cost, optional_uses}
use Rattle.task_walk.specs.Tales.{Teller, Tale, Asked, AreProper, IsProperValue}
use Rattle.task_walk.specs.Walks.{stopped, IsReady, IsProperFlow, Walked}
use Rattle.task_walk.proofs.Forms.{cost-steps}
use Rattle.task_walk.proofs.Loops.{chosen_true, chosen_false}
use Rattle.task_walk.proofs.Nodes.{body_walked, fits_steps}
use Rattle.task_walk.proofs.Walkings.{walked_as, walked_depth, walked_end, walked_stopped, walked_then, walked_within, ready_after, ready_part, all_first}
use Rattle.task_walk.proofs.Walkings.{all_second}

-- the statements of a block may be executed
pub ready_block : (code : Code) (b : Steps) (xs : List Step) (s : Frame) (t : Tale) → xs ≡ b.0
    → IsReady code t (steps_uses b) (steps_cost b) s → IsReady code t (flat_map step_uses xs) (sum (map step_cost xs)) s
ready_block code b xs s t is ready =
    subst (λ ys. IsReady code t (flat_map step_uses ys) (sum (map step_cost ys)) s) (sym is)
    (ready_part code (steps_uses b) (flat_map step_uses b.0) (steps_cost b) (sum (map step_cost b.0)) s t ready (fits_steps t.by.plan t.by.limit b ready.fits)
    (omega (arith, cost-steps b)))

pub block_walked : {H : Type 0} (by : Teller) (functions : List FunctionCode) (levels inner : ℕ) (b : Steps) (xs : List Step) (ending : Option (Ending Flow))
    (first last : Frame) (old new : Told) (before now : H → List Asked → Type 0)
    → xs ≡ b.0 → levels ≡ suc inner
    → Walked by functions inner (λ a. steps_act (map (step_act a) xs) inner first) IsProperFlow (sum (map step_cost xs)) ending first last old new before now
    → Walked by functions levels (λ a. block_act (body_act a b) levels first) IsProperFlow (steps_cost b) ending first last old new before now
block_walked by functions levels inner b xs ending first last old new before now same is one =
    walked_within by functions levels inner (λ a n. body_act a b n first) IsProperFlow (steps_cost b) ending first first last old new before now is
    (body_walked by functions inner b IsProperFlow ending first last old new before now
    (subst (λ ys. Walked by functions inner (λ a. steps_act (map (step_act a) ys) inner first) IsProperFlow (sum (map step_cost ys)) ending first last old new
    before now) same one))

-- no level is left for a block
pub block_deep : {H : Type 0} (by : Teller) (functions : List FunctionCode) (levels : ℕ) (b : Steps) (f : Fault) (s : Frame) (m : Told)
    (before : H → List Asked → Type 0)
    → f ≡ Depth → levels ≡ 0 → m.world.by ≡ by → AreProper by s.locals
    → Walked by functions levels (λ a. block_act (body_act a b) levels s) IsProperFlow (steps_cost b) (Some (Fails f)) s s m m before before
block_deep by functions levels b f s m before depth is same locals =
    subst (λ w. Walked by functions levels (λ a. block_act (body_act a b) levels s) IsProperFlow (steps_cost b) (Some (Fails w)) s s m m before before)
    (sym depth)
    (walked_depth by functions levels (λ a n. body_act a b n s) IsProperFlow (steps_cost b) s m before is same locals)

-- a test may be made, before the rest
pub ready_test : (code : Code) (site : ℕ) (test : Node) (rest : Uses) (cost : ℕ) (s : Frame) (t : Tale)
    → IsReady code t (AtSite site 1 ∷ (node_uses test ++ rest)) cost s → node_cost test + 1 ≤ cost
    → IsReady code t (AtSite site 1 ∷ node_uses test) (node_cost test + 1) s
ready_test code site test rest cost s t ready cheap =
    ready_part code (AtSite site 1 ∷ (node_uses test ++ rest)) (AtSite site 1 ∷ node_uses test) cost (node_cost test + 1) s t ready
    (ready.fits.0, all_first (IsAllowed t.by.plan t.by.limit) (node_uses test) rest ready.fits.1) cheap

-- the value of a test may be evaluated
pub ready_value : (code : Code) (site : ℕ) (test : Node) (s : Frame) (t : Tale)
    → IsReady code t (AtSite site 1 ∷ node_uses test) (node_cost test + 1) s → IsReady code t (node_uses test) (node_cost test) s
ready_value code site test s t ready =
    ready_part code (AtSite site 1 ∷ node_uses test) (node_uses test) (node_cost test + 1) (node_cost test) s t ready ready.fits.1 (omega arith)

-- what an `if` does after its test
abbrev pub by_test : Around → Steps → Option Steps → ℕ → Value → Frame → Act Frame Flow
by_test a first_block other_block levels v after = chosen v (block_act (body_act a first_block) levels after) (optional_act a other_block levels after)

abbrev pub if_act : Around → ℕ → Node → Steps → Option Steps → ℕ → Frame → Act Frame Flow
if_act a site test first_block other_block levels s = and_then (tests a site test levels s) (by_test a first_block other_block levels)

abbrev pub if_cost : Node → Steps → Option Steps → ℕ
if_cost test first_block other_block = node_cost test + 1 + steps_cost first_block + optional_cost other_block

abbrev pub if_uses : ℕ → Node → Steps → Option Steps → Uses
if_uses site test first_block other_block = AtSite site 1 ∷ (node_uses test ++ (steps_uses first_block ++ optional_uses other_block))

-- the first block is executed
pub if_yes : {H : Type 0} (by : Teller) (functions : List FunctionCode) (levels site : ℕ) (test : Node) (first_block : Steps) (other_block : Option Steps)
    (v : Value) (ending : Option (Ending Flow))
    (first between last : Frame) (old middle new : Told) (before during now : H → List Asked → Type 0)
    → is_truth v ≡ true
    → Walked by functions levels (λ a. tests a site test levels first) IsProperValue (node_cost test + 1) (Some (Gives v)) first between old middle before
    during
    → Walked middle.world.by functions levels (λ a. block_act (body_act a first_block) levels between) IsProperFlow (steps_cost first_block) ending between
    last middle new during now
    → Walked by functions levels (λ a. if_act a site test first_block other_block levels first) IsProperFlow (if_cost test first_block other_block) ending
    first last old new before now
if_yes by functions levels site test first_block other_block v ending first between last old middle new before during now is one two =
    walked_then by functions levels (λ a. tests a site test levels first) (λ a. by_test a first_block other_block levels) IsProperValue IsProperFlow
    (node_cost test + 1) (steps_cost first_block) (if_cost test first_block other_block) v ending
    first between last old middle new before during now one
    (walked_as middle.world.by functions levels (λ a. by_test a first_block other_block levels v between)
    (λ a. block_act (body_act a first_block) levels between) IsProperFlow (steps_cost first_block) (steps_cost first_block) ending
    between last middle new during now (λ a. sym (chosen_true v (block_act (body_act a first_block) levels between)
    (optional_act a other_block levels between) is)) (omega arith) two) (omega arith)

-- the other block is executed, where there is one
pub if_no : {H : Type 0} (by : Teller) (functions : List FunctionCode) (levels site : ℕ) (test : Node) (first_block : Steps) (other_block : Option Steps)
    (v : Value) (ending : Option (Ending Flow))
    (first between last : Frame) (old middle new : Told) (before during now : H → List Asked → Type 0)
    → is_truth v ≡ false
    → Walked by functions levels (λ a. tests a site test levels first) IsProperValue (node_cost test + 1) (Some (Gives v)) first between old middle before
    during
    → Walked middle.world.by functions levels (λ a. optional_act a other_block levels between) IsProperFlow (optional_cost other_block) ending between last
    middle new during now
    → Walked by functions levels (λ a. if_act a site test first_block other_block levels first) IsProperFlow (if_cost test first_block other_block) ending
    first last old new before now
if_no by functions levels site test first_block other_block v ending first between last old middle new before during now is one two =
    walked_then by functions levels (λ a. tests a site test levels first) (λ a. by_test a first_block other_block levels) IsProperValue IsProperFlow
    (node_cost test + 1) (optional_cost other_block) (if_cost test first_block other_block) v ending
    first between last old middle new before during now one
    (walked_as middle.world.by functions levels (λ a. by_test a first_block other_block levels v between) (λ a. optional_act a other_block levels between)
    IsProperFlow (optional_cost other_block) (optional_cost other_block) ending
    between last middle new during now (λ a. sym (chosen_false v (block_act (body_act a first_block) levels between)
    (optional_act a other_block levels between) is)) (omega arith) two) (omega arith)

pub if_other : {H : Type 0} (by : Teller) (functions : List FunctionCode) (levels site : ℕ) (test : Node) (first_block b : Steps) (other_block : Option Steps)
    (v : Value) (ending : Option (Ending Flow))
    (first between last : Frame) (old middle new : Told) (before during now : H → List Asked → Type 0)
    → other_block ≡ Some b → is_truth v ≡ false
    → Walked by functions levels (λ a. tests a site test levels first) IsProperValue (node_cost test + 1) (Some (Gives v)) first between old middle before
    during
    → Walked middle.world.by functions levels (λ a. block_act (body_act a b) levels between) IsProperFlow (steps_cost b) ending between last middle new during
    now
    → Walked by functions levels (λ a. if_act a site test first_block other_block levels first) IsProperFlow (if_cost test first_block other_block) ending
    first last old new before now
if_other by functions levels site test first_block b other_block v ending first between last old middle new before during now there is one two =
    if_no by functions levels site test first_block other_block v ending first between last old middle new before during now is one
    (subst (λ o. Walked middle.world.by functions levels (λ a. optional_act a o levels between) IsProperFlow (optional_cost o) ending between last middle new
    during now) (sym there) two)

pub if_none : {H : Type 0} (by : Teller) (functions : List FunctionCode) (levels site : ℕ) (test : Node) (first_block : Steps) (other_block : Option Steps)
    (v : Value)
    (first between : Frame) (old middle : Told) (before during : H → List Asked → Type 0)
    → other_block ≡ None → is_truth v ≡ false
    → Walked by functions levels (λ a. tests a site test levels first) IsProperValue (node_cost test + 1) (Some (Gives v)) first between old middle before
    during
    → Walked by functions levels (λ a. if_act a site test first_block other_block levels first) IsProperFlow (if_cost test first_block other_block)
    (Some (Gives Next)) first between old middle before during
if_none by functions levels site test first_block other_block v first between old middle before during there is one =
    if_no by functions levels site test first_block other_block v (Some (Gives Next)) first between between old middle middle before during during is one
    (subst (λ o. Walked middle.world.by functions levels (λ a. optional_act a o levels between) IsProperFlow (optional_cost o) (Some (Gives Next)) between
    between middle middle during during) (sym there)
    (walked_end middle.world.by functions levels IsProperFlow 0 (Gives Next) between middle during refl tt
    (subst (λ b. AreProper b between.locals) (sym one.same) one.locals)))

pub if_stopped : {H : Type 0} (why : Stop) (by : Teller) (functions : List FunctionCode) (levels site : ℕ) (test : Node) (first_block : Steps)
    (other_block : Option Steps)
    (first last : Frame) (old new : Told) (before now : H → List Asked → Type 0)
    → Walked by functions levels (λ a. tests a site test levels first) IsProperValue (node_cost test + 1) (stopped why) first last old new before now
    → Walked by functions levels (λ a. if_act a site test first_block other_block levels first) IsProperFlow (if_cost test first_block other_block)
    (stopped why) first last old new before now
if_stopped why by functions levels site test first_block other_block first last old new before now one =
    walked_stopped why by functions levels (λ a. tests a site test levels first) (λ a. by_test a first_block other_block levels) IsProperValue IsProperFlow
    (node_cost test + 1) (if_cost test first_block other_block)
    first last old new before now one (omega arith)

-- the first block may be executed
pub ready_yes : {H : Type 0} (code : Code) (site : ℕ) (test : Node) (first_block : Steps) (other_block : Option Steps) (levels : ℕ) (v : Value)
    (first last : Frame) (old new : Told) (before now : H → List Asked → Type 0)
    → IsReady code old.world (if_uses site test first_block other_block) (if_cost test first_block other_block) first
    → Walked old.world.by code.functions.now levels (λ a. tests a site test levels first) IsProperValue (node_cost test + 1) (Some (Gives v)) first last old
    new before now
    → IsReady code new.world (steps_uses first_block) (steps_cost first_block) last
ready_yes code site test first_block other_block levels v first last old new before now ready one =
    let allowed = IsAllowed old.world.by.plan old.world.by.limit in
    ready_after code (if_uses site test first_block other_block) (steps_uses first_block) (if_cost test first_block other_block) (node_cost test + 1)
    (steps_cost first_block) code.functions.now levels (λ a. tests a site test levels first) IsProperValue
    (Some (Gives v)) first last old new before now ready one
    (all_first allowed (steps_uses first_block) (optional_uses other_block) (all_second allowed (node_uses test)
    (steps_uses first_block ++ optional_uses other_block) ready.fits.1)) (omega arith)

-- and the other
pub ready_no : {H : Type 0} (code : Code) (site : ℕ) (test : Node) (first_block b : Steps) (other_block : Option Steps) (levels : ℕ) (v : Value)
    (first last : Frame) (old new : Told) (before now : H → List Asked → Type 0)
    → other_block ≡ Some b
    → IsReady code old.world (if_uses site test first_block other_block) (if_cost test first_block other_block) first
    → Walked old.world.by code.functions.now levels (λ a. tests a site test levels first) IsProperValue (node_cost test + 1) (Some (Gives v)) first last old
    new before now
    → IsReady code new.world (steps_uses b) (steps_cost b) last
ready_no code site test first_block b other_block levels v first last old new before now there ready one =
    let allowed = IsAllowed old.world.by.plan old.world.by.limit in
    subst (λ o. IsReady code new.world (optional_uses o) (optional_cost o) last) there
    (ready_after code (if_uses site test first_block other_block) (optional_uses other_block) (if_cost test first_block other_block) (node_cost test + 1)
    (optional_cost other_block) code.functions.now levels (λ a. tests a site test levels first) IsProperValue
    (Some (Gives v)) first last old new before now ready one
    (all_second allowed (steps_uses first_block) (optional_uses other_block) (all_second allowed (node_uses test)
    (steps_uses first_block ++ optional_uses other_block) ready.fits.1)) (omega arith))
