-- The rounds of `while`.
use Rattle.std.proofs.Common.{◌≡◌, ℕ, suc, ◌+◌, ◌<◌, ◌≤◌, List, ◌∷◌, ◌++◌, true, false, Some, refl, sym, subst, arith}
use Rattle.dyn_value.specs.declared.fault.Fault.{Fault}
use Rattle.dyn_value.specs.declared.fault.Fault.TheVariants.{Turns}
use Rattle.dyn_value.specs.declared.value.Value.{Value}
use Rattle.task_code.specs.declared.code.FunctionCode.{FunctionCode}
use Rattle.task_code.specs.declared.code.Node.{Node}
use Rattle.task_code.specs.declared.code.Steps.{Steps}
use Rattle.task_code.specs.declared.frame.Flow.{Flow}
use Rattle.task_code.specs.declared.frame.Flow.TheVariants.{Next, Returned}
use Rattle.task_code.specs.declared.frame.Frame.{Frame}
use Rattle.task_code.specs.Acts.{Gives, Fails, Act, and_then}
use Rattle.task_code.specs.Codes.{Around, block_act, body_act, counts, loops, on_next, tests}
use Rattle.task_code.specs.Costs.{Uses, AtSite, node_cost, node_uses, steps_cost, steps_uses}
use Rattle.task_code.specs.Fits.{IsAllowed}
use Rattle.task_walk.specs.declared.code.Code.{Code}
use Rattle.task_walk.specs.declared.stop.Stop.{Stop}
use Rattle.task_walk.specs.Comings.{Told}
use Rattle.task_walk.specs.Goings.{Going}
use Rattle.task_walk.specs.Parts.{is_truth}
use Rattle.task_walk.specs.Tales.{Teller, Asked, AreProper, IsProperValue}
use Rattle.task_walk.specs.Walks.{stopped, IsReady, IsProperFlow, Walked}
use Rattle.task_walk.proofs.Goings.{going_end, going_start, going_then}
use Rattle.task_walk.proofs.Loops.{above, ready_going, walked_turns}
use Rattle.task_walk.proofs.Rounds.{after_test, round_begins, round_entered, rounds_over, tested, unrolled}
use Rattle.task_walk.proofs.Underway.{going_done, going_stopped, walked_proper}
use Rattle.task_walk.proofs.Walkings.{all_first, all_second}

abbrev pub while_cost : Node → Steps → ℕ
while_cost test body = node_cost test + 1 + steps_cost body

abbrev pub while_uses : ℕ → Node → Steps → Uses
while_uses site test body = AtSite site 1 ∷ (node_uses test ++ steps_uses body)

-- a round is to begin
abbrev pub Begins : {H : Type 0} → Teller → List FunctionCode → ℕ → (Around → Act Frame Flow) → ℕ → Frame → Told → (H → List Asked → Type 0) → ℕ → Node
    → Steps → Frame → Told → (H → List Asked → Type 0) → Type 0
Begins by functions levels whole cost first old before site test body s now during =
    (n : ℕ) × ((s.turns < n) × Going by functions levels whole cost first old before
    (λ a. loops n (tests a site test levels) (block_act (body_act a body) levels) s) (while_cost test body) s now during)

-- a round's turn was counted
abbrev pub Entered : {H : Type 0} → Teller → List FunctionCode → ℕ → (Around → Act Frame Flow) → ℕ → Frame → Told → (H → List Asked → Type 0) → ℕ → Node
    → Steps → Frame → Told → (H → List Asked → Type 0) → Type 0
Entered by functions levels whole cost first old before site test body s now during =
    (m : ℕ) × ((s.turns < m) × Going by functions levels whole cost first old before
    (λ a. and_then (block_act (body_act a body) levels s) (on_next (loops m (tests a site test levels) (block_act (body_act a body) levels))))
    (steps_cost body + while_cost test body) s now during)

pub while_starts : {H : Type 0} (by : Teller) (functions : List FunctionCode) (levels site : ℕ) (test : Node) (body : Steps) (s : Frame) (m : Told)
    (before : H → List Asked → Type 0)
    → m.world.by ≡ by → AreProper by s.locals
    → Begins by functions levels (λ a. loops (suc s.turns) (tests a site test levels) (block_act (body_act a body) levels) s) (while_cost test body) s m
    before site test body s m before
while_starts by functions levels site test body s m before same locals = (
  suc s.turns,
  (
    omega arith,
    going_start by functions levels (λ a. loops (suc s.turns) (tests a site test levels) (block_act (body_act a body) levels) s)
        (while_cost test body) s m before same locals,
  ),
)

-- the test of a round may be made
pub ready_round : {H : Type 0} (code : Code) (levels : ℕ) (whole : Around → Act Frame Flow) (first : Frame) (old : Told) (before : H → List Asked → Type 0)
    (site : ℕ) (test : Node) (body : Steps) (s : Frame) (now : Told) (during : H → List Asked → Type 0)
    → IsReady code old.world (while_uses site test body) (while_cost test body) first
    → Begins old.world.by code.functions.now levels whole (while_cost test body) first old before site test body s now during
    → IsReady code now.world (AtSite site 1 ∷ node_uses test) (node_cost test + 1) s
ready_round code levels whole first old before site test body s now during ready begins =
    ready_going code (while_uses site test body) (AtSite site 1 ∷ node_uses test) (while_cost test body) (node_cost test + 1) code.functions.now levels whole
    (λ a. loops begins.0 (tests a site test levels) (block_act (body_act a body) levels) s) (while_cost test body) first s old now before during ready
    begins.1.1
    (ready.fits.0, all_first (IsAllowed old.world.by.plan old.world.by.limit) (node_uses test) (steps_uses body) ready.fits.1) (omega arith) (omega arith)

-- a test stopped
pub while_stopped : {H : Type 0} (why : Stop) (by : Teller) (functions : List FunctionCode) (levels : ℕ) (whole : Around → Act Frame Flow) (cost : ℕ)
    (first : Frame) (old : Told) (before : H → List Asked → Type 0)
    (site : ℕ) (test : Node) (body : Steps) (s last : Frame) (now new : Told) (during after : H → List Asked → Type 0)
    → Begins by functions levels whole cost first old before site test body s now during
    → Walked now.world.by functions levels (λ a. tests a site test levels s) IsProperValue (node_cost test + 1) (stopped why) s last now new during after
    → Walked by functions levels whole IsProperFlow cost (stopped why) first last old new before after
while_stopped why by functions levels whole cost first old before site test body s last now new during after begins one =
    let m = above begins.0 s.turns begins.1.0 in
    going_stopped why by functions levels whole cost first old before (λ a. tests a site test levels s)
    (λ a. after_test m.0 (tests a site test levels) (block_act (body_act a body) levels)) IsProperValue IsProperFlow
    (while_cost test body) (node_cost test + 1) s last now new during after
    (unrolled by functions levels whole cost first old before (λ a. tests a site test levels) (λ a. block_act (body_act a body) levels) (while_cost test body)
    begins.0 m.0 s now during m.1 begins.1.1) one (omega arith)

-- a test was made
while_tested : {H : Type 0} (by : Teller) (functions : List FunctionCode) (levels : ℕ) (whole : Around → Act Frame Flow) (cost : ℕ) (first : Frame)
    (old : Told) (before : H → List Asked → Type 0)
    (site : ℕ) (test : Node) (body : Steps) (v : Value) (s last : Frame) (now new : Told) (during after : H → List Asked → Type 0)
    → Begins by functions levels whole cost first old before site test body s now during
    → Walked now.world.by functions levels (λ a. tests a site test levels s) IsProperValue (node_cost test + 1) (Some (Gives v)) s last now new during after
    → (m : ℕ) × ((s.turns < suc m) × Going by functions levels whole cost first old before
    (λ a. after_test m (tests a site test levels) (block_act (body_act a body) levels) v last) (steps_cost body) last new after)
while_tested by functions levels whole cost first old before site test body v s last now new during after begins one =
    let m = above begins.0 s.turns begins.1.0 in (
      m.0,
      (
        subst (λ n. s.turns < n) m.1 begins.1.0,
        tested by functions levels whole cost first old before (λ a. tests a site test levels) (λ a. block_act (body_act a body) levels) IsProperValue
            (node_cost test + 1) (steps_cost body) begins.0 m.0 v s last now new during after m.1 begins.1.1 one,
      ),
    )

-- the loop ends
pub while_over : {H : Type 0} (by : Teller) (functions : List FunctionCode) (levels : ℕ) (whole : Around → Act Frame Flow) (cost : ℕ) (first : Frame)
    (old : Told) (before : H → List Asked → Type 0)
    (site : ℕ) (test : Node) (body : Steps) (v : Value) (s last : Frame) (now new : Told) (during after : H → List Asked → Type 0)
    → is_truth v ≡ false
    → Begins by functions levels whole cost first old before site test body s now during
    → Walked now.world.by functions levels (λ a. tests a site test levels s) IsProperValue (node_cost test + 1) (Some (Gives v)) s last now new during after
    → Walked by functions levels whole IsProperFlow cost (Some (Gives Next)) first last old new before after
while_over by functions levels whole cost first old before site test body v s last now new during after is begins one =
    let after_it = while_tested by functions levels whole cost first old before site test body v s last now new during after begins one in
    going_done by functions levels whole cost first old before (Gives Next) IsProperFlow (steps_cost body) last new after
    (rounds_over by functions levels whole cost first old before (λ a. tests a site test levels) (λ a. block_act (body_act a body) levels) (steps_cost body)
    after_it.0 v last new after is after_it.1.1) tt

while_stands : {H : Type 0} (by : Teller) (functions : List FunctionCode) (levels : ℕ) (whole : Around → Act Frame Flow) (cost : ℕ) (first : Frame)
    (old : Told) (before : H → List Asked → Type 0)
    (site : ℕ) (test : Node) (body : Steps) (v : Value) (s last : Frame) (now new : Told) (during after : H → List Asked → Type 0)
    → is_truth v ≡ true → last.turns ≡ 0
    → Begins by functions levels whole cost first old before site test body s now during
    → Walked now.world.by functions levels (λ a. tests a site test levels s) IsProperValue (node_cost test + 1) (Some (Gives v)) s last now new during after
    → Walked by functions levels whole IsProperFlow cost (Some (Fails Turns)) first last old new before after
while_stands by functions levels whole cost first old before site test body v s last now new during after is none begins one =
    let after_it = while_tested by functions levels whole cost first old before site test body v s last now new during after begins one in
    let going = round_begins by functions levels whole cost first old before (λ a. tests a site test levels) (λ a. block_act (body_act a body) levels)
    (steps_cost body) after_it.0 v last new after is after_it.1.1 in
    going_end by functions levels whole cost first old before
    (λ a. counts last (λ entered. and_then (block_act (body_act a body) levels entered)
    (on_next (loops after_it.0 (tests a site test levels) (block_act (body_act a body) levels)))))
    IsProperFlow (steps_cost body) (Some (Fails Turns)) last last new new after after going
    (walked_turns new.world.by functions levels (λ a entered. and_then (block_act (body_act a body) levels entered)
    (on_next (loops after_it.0 (tests a site test levels) (block_act (body_act a body) levels))))
    IsProperFlow (steps_cost body) last.turns last.locals new after none refl (subst (λ b. AreProper b last.locals) (sym going.same) going.locals))

-- no turn is left for a round
pub while_no_turn : {H : Type 0} (by : Teller) (functions : List FunctionCode) (levels : ℕ) (whole : Around → Act Frame Flow) (cost : ℕ) (first : Frame)
    (old : Told) (before : H → List Asked → Type 0)
    (site : ℕ) (test : Node) (body : Steps) (v : Value) (f : Fault) (s last : Frame) (now new : Told) (during after : H → List Asked → Type 0)
    → is_truth v ≡ true → f ≡ Turns → last.turns ≡ 0
    → Begins by functions levels whole cost first old before site test body s now during
    → Walked now.world.by functions levels (λ a. tests a site test levels s) IsProperValue (node_cost test + 1) (Some (Gives v)) s last now new during after
    → Walked by functions levels whole IsProperFlow cost (Some (Fails f)) first last old new before after
while_no_turn by functions levels whole cost first old before site test body v f s last now new during after is why none begins one =
    subst (λ w. Walked by functions levels whole IsProperFlow cost (Some (Fails w)) first last old new before after) (sym why)
    (while_stands by functions levels whole cost first old before site test body v s last now new during after is none begins one)

-- a turn is counted for a round
pub while_entered : {H : Type 0} (by : Teller) (functions : List FunctionCode) (levels : ℕ) (whole : Around → Act Frame Flow) (cost : ℕ) (first : Frame)
    (old : Told) (before : H → List Asked → Type 0)
    (site : ℕ) (test : Node) (body : Steps) (v : Value) (s last : Frame) (left : ℕ) (now new : Told) (during after : H → List Asked → Type 0)
    → is_truth v ≡ true → last.turns ≡ suc left → while_cost test body ≤ 2097152
    → Begins by functions levels whole cost first old before site test body s now during
    → Walked now.world.by functions levels (λ a. tests a site test levels s) IsProperValue (node_cost test + 1) (Some (Gives v)) s last now new during after
    → Entered by functions levels whole cost first old before site test body (record { turns = left; locals = last.locals }) new after
while_entered by functions levels whole cost first old before site test body v s last left now new during after is counted cheap begins one =
    let after_it = while_tested by functions levels whole cost first old before site test body v s last now new during after begins one in
    let few : while_cost test body ≤ 2097152 = cheap in
    let less : s.turns < suc after_it.0 = after_it.1.0 in
    let fewer : last.turns ≤ s.turns = one.fewer in (
      after_it.0,
      (
        omega (arith, counted),
        round_entered by functions levels whole cost first old before (λ a. tests a site test levels) (λ a. block_act (body_act a body) levels)
            (steps_cost body) (steps_cost body + while_cost test body) after_it.0 last.turns left last.locals v new after is counted (omega (arith, few))
            after_it.1.1,
      ),
    )

-- the body of a round may be executed
pub ready_entered : {H : Type 0} (code : Code) (levels : ℕ) (whole : Around → Act Frame Flow) (first : Frame) (old : Told) (before : H → List Asked → Type 0)
    (site : ℕ) (test : Node) (body : Steps) (s : Frame) (now : Told) (during : H → List Asked → Type 0)
    → IsReady code old.world (while_uses site test body) (while_cost test body) first
    → Entered old.world.by code.functions.now levels whole (while_cost test body) first old before site test body s now during
    → IsReady code now.world (steps_uses body) (steps_cost body) s
ready_entered code levels whole first old before site test body s now during ready entered =
    ready_going code (while_uses site test body) (steps_uses body) (while_cost test body) (steps_cost body) code.functions.now levels whole
    (λ a. and_then (block_act (body_act a body) levels s) (on_next (loops entered.0 (tests a site test levels) (block_act (body_act a body) levels))))
    (steps_cost body + while_cost test body) first s old now before during ready entered.1.1
    (all_second (IsAllowed old.world.by.plan old.world.by.limit) (node_uses test) (steps_uses body) ready.fits.1) (omega arith) (omega arith)

-- a body stopped
pub while_body_stopped : {H : Type 0} (why : Stop) (by : Teller) (functions : List FunctionCode) (levels : ℕ) (whole : Around → Act Frame Flow) (cost : ℕ)
    (first : Frame) (old : Told) (before : H → List Asked → Type 0)
    (site : ℕ) (test : Node) (body : Steps) (s last : Frame) (now new : Told) (during after : H → List Asked → Type 0)
    → Entered by functions levels whole cost first old before site test body s now during
    → Walked now.world.by functions levels (λ a. block_act (body_act a body) levels s) IsProperFlow (steps_cost body) (stopped why) s last now new during
    after
    → Walked by functions levels whole IsProperFlow cost (stopped why) first last old new before after
while_body_stopped why by functions levels whole cost first old before site test body s last now new during after entered one =
    going_stopped why by functions levels whole cost first old before (λ a. block_act (body_act a body) levels s)
    (λ a. on_next (loops entered.0 (tests a site test levels) (block_act (body_act a body) levels))) IsProperFlow IsProperFlow
    (steps_cost body + while_cost test body) (steps_cost body) s last now new during after entered.1.1 one (omega arith)

while_executed : {H : Type 0} (by : Teller) (functions : List FunctionCode) (levels : ℕ) (whole : Around → Act Frame Flow) (cost : ℕ) (first : Frame)
    (old : Told) (before : H → List Asked → Type 0)
    (site : ℕ) (test : Node) (body : Steps) (flow : Flow) (s last : Frame) (now new : Told) (during after : H → List Asked → Type 0)
    (entered : Entered by functions levels whole cost first old before site test body s now during)
    → Walked now.world.by functions levels (λ a. block_act (body_act a body) levels s) IsProperFlow (steps_cost body) (Some (Gives flow)) s last now new
    during after
    → Going by functions levels whole cost first old before (λ a. on_next (loops entered.0 (tests a site test levels) (block_act (body_act a body) levels))
    flow last) (while_cost test body) last new after
while_executed by functions levels whole cost first old before site test body flow s last now new during after entered one =
    going_then by functions levels whole cost first old before (λ a. block_act (body_act a body) levels s)
    (λ a. on_next (loops entered.0 (tests a site test levels) (block_act (body_act a body) levels))) IsProperFlow
    (steps_cost body + while_cost test body) (steps_cost body) (while_cost test body) flow s last now new during after entered.1.1 one (omega arith)

-- a body ended the function
pub while_returned : {H : Type 0} (by : Teller) (functions : List FunctionCode) (levels : ℕ) (whole : Around → Act Frame Flow) (cost : ℕ) (first : Frame)
    (old : Told) (before : H → List Asked → Type 0)
    (site : ℕ) (test : Node) (body : Steps) (flow : Flow) (v : Value) (s last : Frame) (now new : Told) (during after : H → List Asked → Type 0)
    → flow ≡ Returned v
    → Entered by functions levels whole cost first old before site test body s now during
    → Walked now.world.by functions levels (λ a. block_act (body_act a body) levels s) IsProperFlow (steps_cost body) (Some (Gives flow)) s last now new
    during after
    → Walked by functions levels whole IsProperFlow cost (Some (Gives (Returned v))) first last old new before after
while_returned by functions levels whole cost first old before site test body flow v s last now new during after comes entered one =
    let ended : Walked now.world.by functions levels (λ a. block_act (body_act a body) levels s) IsProperFlow (steps_cost body) (Some (Gives (Returned v))) s
    last now new during after =
    subst (λ z. Walked now.world.by functions levels (λ a. block_act (body_act a body) levels s) IsProperFlow (steps_cost body) (Some (Gives z)) s last now
    new during after) comes one in
    going_done by functions levels whole cost first old before (Gives (Returned v)) IsProperFlow (while_cost test body) last new after
    (while_executed by functions levels whole cost first old before site test body (Returned v) s last now new during after entered ended)
    (walked_proper now.world.by functions levels (λ a. block_act (body_act a body) levels s) IsProperFlow (steps_cost body) (Returned v) s last now new during
    after ended)

-- the next round is to begin
pub while_again : {H : Type 0} (by : Teller) (functions : List FunctionCode) (levels : ℕ) (whole : Around → Act Frame Flow) (cost : ℕ) (first : Frame)
    (old : Told) (before : H → List Asked → Type 0)
    (site : ℕ) (test : Node) (body : Steps) (flow : Flow) (s last : Frame) (now new : Told) (during after : H → List Asked → Type 0)
    → flow ≡ Next
    → Entered by functions levels whole cost first old before site test body s now during
    → Walked now.world.by functions levels (λ a. block_act (body_act a body) levels s) IsProperFlow (steps_cost body) (Some (Gives flow)) s last now new
    during after
    → Begins by functions levels whole cost first old before site test body last new after
while_again by functions levels whole cost first old before site test body flow s last now new during after comes entered one =
    let ended : Walked now.world.by functions levels (λ a. block_act (body_act a body) levels s) IsProperFlow (steps_cost body) (Some (Gives Next)) s last now
    new during after =
    subst (λ z. Walked now.world.by functions levels (λ a. block_act (body_act a body) levels s) IsProperFlow (steps_cost body) (Some (Gives z)) s last now
    new during after) comes one in
    let less : s.turns < entered.0 = entered.1.0 in
    let fewer : last.turns ≤ s.turns = ended.fewer in
    (entered.0, (omega arith, while_executed by functions levels whole cost first old before site test body Next s last now new during after entered ended))
