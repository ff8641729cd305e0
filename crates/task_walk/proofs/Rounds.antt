-- The rounds of a loop.
use Rattle.std.proofs.Common.{◌≡◌, ℕ, suc, ◌+◌, ◌≤◌, List, true, false, Some, ap, arith}
use Rattle.dyn_value.specs.declared.value.Value.{Value}
use Rattle.task_code.specs.declared.code.FunctionCode.{FunctionCode}
use Rattle.task_code.specs.declared.frame.Flow.{Flow}
use Rattle.task_code.specs.declared.frame.Flow.TheVariants.{Next}
use Rattle.task_code.specs.declared.frame.Frame.{Frame}
use Rattle.task_code.specs.Acts.{Gives, Act, gives, and_then, chosen}
use Rattle.task_code.specs.Codes.{Around, counts, loops, on_next}
use Rattle.task_walk.specs.Comings.{Told}
use Rattle.task_walk.specs.Goings.{Going}
use Rattle.task_walk.specs.Parts.{is_truth}
use Rattle.task_walk.specs.Tales.{Teller, Asked}
use Rattle.task_walk.specs.Walks.{Walked}
use Rattle.task_walk.proofs.Goings.{going_then}
use Rattle.task_walk.proofs.Loops.{going_as, going_turn, chosen_true, chosen_false}

-- what a round goes on with after its test
abbrev pub after_test : ℕ → (Frame → Act Frame Value) → (Frame → Act Frame Flow) → Value → Frame → Act Frame Flow
after_test m test body v s = chosen v (counts s (λ entered. and_then (body entered) (on_next (loops m test body)))) (gives Next s)

pub unrolled : {H : Type 0} (by : Teller) (functions : List FunctionCode) (levels : ℕ) (whole : Around → Act Frame Flow) (cost : ℕ) (first : Frame)
    (old : Told) (before : H → List Asked → Type 0)
    (test : Around → Frame → Act Frame Value) (body : Around → Frame → Act Frame Flow) (rest_cost n m : ℕ) (s : Frame) (now : Told)
    (during : H → List Asked → Type 0)
    → n ≡ suc m
    → Going by functions levels whole cost first old before (λ a. loops n (test a) (body a) s) rest_cost s now during
    → Going by functions levels whole cost first old before (λ a. and_then (test a s) (after_test m (test a) (body a))) rest_cost s now during
unrolled by functions levels whole cost first old before test body rest_cost n m s now during is going =
    going_as by functions levels whole cost first old before (λ a. loops n (test a) (body a) s) (λ a. and_then (test a s) (after_test m (test a) (body a)))
    rest_cost rest_cost s now during
    (λ a. ap (λ k. loops k (test a) (body a) s) is) (omega arith) going

-- the test of a round was made
pub tested : {H : Type 0} (by : Teller) (functions : List FunctionCode) (levels : ℕ) (whole : Around → Act Frame Flow) (cost : ℕ) (first : Frame) (old : Told)
    (before : H → List Asked → Type 0)
    (test : Around → Frame → Act Frame Value) (body : Around → Frame → Act Frame Flow) (P : Teller → Value → Type 0) (test_cost body_cost n m : ℕ) (v : Value)
    (s last : Frame) (middle new : Told) (during now : H → List Asked → Type 0)
    → n ≡ suc m
    → Going by functions levels whole cost first old before (λ a. loops n (test a) (body a) s) (test_cost + body_cost) s middle during
    → Walked middle.world.by functions levels (λ a. test a s) P test_cost (Some (Gives v)) s last middle new during now
    → Going by functions levels whole cost first old before (λ a. after_test m (test a) (body a) v last) body_cost last new now
tested by functions levels whole cost first old before test body P test_cost body_cost n m v s last middle new during now is going one =
    going_then by functions levels whole cost first old before (λ a. test a s) (λ a. after_test m (test a) (body a)) P (test_cost + body_cost) test_cost
    body_cost v s last middle new during now
    (unrolled by functions levels whole cost first old before test body (test_cost + body_cost) n m s middle during is going) one (omega arith)

-- the loop ends
pub rounds_over : {H : Type 0} (by : Teller) (functions : List FunctionCode) (levels : ℕ) (whole : Around → Act Frame Flow) (cost : ℕ) (first : Frame)
    (old : Told) (before : H → List Asked → Type 0)
    (test : Around → Frame → Act Frame Value) (body : Around → Frame → Act Frame Flow) (rest_cost m : ℕ) (v : Value) (s : Frame) (now : Told)
    (during : H → List Asked → Type 0)
    → is_truth v ≡ false
    → Going by functions levels whole cost first old before (λ a. after_test m (test a) (body a) v s) rest_cost s now during
    → Going by functions levels whole cost first old before (λ a. gives Next s) rest_cost s now during
rounds_over by functions levels whole cost first old before test body rest_cost m v s now during is going =
    going_as by functions levels whole cost first old before (λ a. after_test m (test a) (body a) v s) (λ a. gives Next s) rest_cost rest_cost s now during
    (λ a. chosen_false v (counts s (λ entered. and_then (body a entered) (on_next (loops m (test a) (body a))))) (gives Next s) is) (omega arith) going

-- a further round is to begin
pub round_begins : {H : Type 0} (by : Teller) (functions : List FunctionCode) (levels : ℕ) (whole : Around → Act Frame Flow) (cost : ℕ) (first : Frame)
    (old : Told) (before : H → List Asked → Type 0)
    (test : Around → Frame → Act Frame Value) (body : Around → Frame → Act Frame Flow) (rest_cost m : ℕ) (v : Value) (s : Frame) (now : Told)
    (during : H → List Asked → Type 0)
    → is_truth v ≡ true
    → Going by functions levels whole cost first old before (λ a. after_test m (test a) (body a) v s) rest_cost s now during
    → Going by functions levels whole cost first old before (λ a. counts s (λ entered. and_then (body a entered) (on_next (loops m (test a) (body a)))))
    rest_cost s now during
round_begins by functions levels whole cost first old before test body rest_cost m v s now during is going =
    going_as by functions levels whole cost first old before (λ a. after_test m (test a) (body a) v s)
    (λ a. counts s (λ entered. and_then (body a entered) (on_next (loops m (test a) (body a))))) rest_cost rest_cost s now during
    (λ a. chosen_true v (counts s (λ entered. and_then (body a entered) (on_next (loops m (test a) (body a))))) (gives Next s) is) (omega arith) going

-- its turn was counted
pub round_entered : {H : Type 0} (by : Teller) (functions : List FunctionCode) (levels : ℕ) (whole : Around → Act Frame Flow) (cost : ℕ) (first : Frame)
    (old : Told) (before : H → List Asked → Type 0)
    (test : Around → Frame → Act Frame Value) (body : Around → Frame → Act Frame Flow) (rest_cost next_cost m turns left : ℕ) (locals : List Value)
    (v : Value) (now : Told) (during : H → List Asked → Type 0)
    → is_truth v ≡ true → turns ≡ suc left → next_cost ≤ rest_cost + 2097152
    → Going by functions levels whole cost first old before (λ a. after_test m (test a) (body a) v (record { turns = turns; locals = locals })) rest_cost
    (record { turns = turns; locals = locals }) now during
    → Going by functions levels whole cost first old before (λ a. and_then (body a (record { turns = left; locals = locals }))
    (on_next (loops m (test a) (body a)))) next_cost (record { turns = left; locals = locals }) now during
round_entered by functions levels whole cost first old before test body rest_cost next_cost m turns left locals v now during is counted paid going =
    going_turn by functions levels whole cost first old before (λ a entered. and_then (body a entered) (on_next (loops m (test a) (body a)))) rest_cost
    next_cost turns left locals now during counted paid
    (round_begins by functions levels whole cost first old before test body rest_cost m v (record { turns = turns; locals = locals }) now during is going)
