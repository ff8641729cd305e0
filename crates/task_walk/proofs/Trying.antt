-- What a block comes to whose faults are caught.
use Rattle.std.proofs.Common.{◌≡◌, ℕ, ◌+◌, ◌≤◌, List, true, false, Option, Some, refl, ap, sym, subst, arith}
use Rattle.std.specs.Prelude.{if◌then◌else◌}
use Rattle.dyn_value.specs.declared.fault.Fault.{Fault}
use Rattle.task_code.specs.declared.code.FunctionCode.{FunctionCode}
use Rattle.task_code.specs.declared.frame.Flow.{Flow}
use Rattle.task_code.specs.declared.frame.Frame.{Frame}
use Rattle.task_code.specs.Acts.{Ending, Gives, Fails, Act, Ends, catches, on_fault, is_caught}
use Rattle.task_code.specs.Codes.{Around}
use Rattle.task_walk.specs.Comings.{Told}
use Rattle.task_walk.specs.Tales.{Teller, Asked, AreProper, IsProperFault}
use Rattle.task_walk.specs.Walks.{Walked}
use Rattle.task_walk.proofs.Walkings.{walked_as, walked_bind, walked_end}

handled : (f : Fault) (handler : Fault → Frame → Act Frame Flow) (s : Frame) → is_caught f ≡ true → handler f s ≡ on_fault handler (Fails f) s
handled f handler s is = ap (λ b. if b then handler f s else Ends (Fails f) s) (sym is)

passed_on : (f : Fault) (handler : Fault → Frame → Act Frame Flow) (s : Frame) → is_caught f ≡ false → Ends (Fails f) s ≡ on_fault handler (Fails f) s
passed_on f handler s is = ap (λ b. if b then handler f s else Ends (Fails f) s) (sym is)

-- a fault is caught, and handled
pub walked_caught : {H : Type 0} (by : Teller) (functions : List FunctionCode) (levels : ℕ) (handler : Around → Fault → Frame → Act Frame Flow)
    (P : Teller → Flow → Type 0) (cost : ℕ) (f : Fault)
    (ending : Option (Ending Flow)) (first last : Frame) (old new : Told) (before now : H → List Asked → Type 0)
    → is_caught f ≡ true
    → Walked by functions levels (λ a. handler a f first) P cost ending first last old new before now
    → Walked by functions levels (λ a. on_fault (handler a) (Fails f) first) P cost ending first last old new before now
walked_caught by functions levels handler P cost f ending first last old new before now is one =
    walked_as by functions levels (λ a. on_fault (handler a) (Fails f) first) (λ a. handler a f first) P cost cost ending first last old new before now
    (λ a. handled f (handler a) first is) (omega arith) one

-- a fault that is not caught goes on
pub walked_passed : {H : Type 0} (by : Teller) (functions : List FunctionCode) (levels : ℕ) (handler : Around → Fault → Frame → Act Frame Flow)
    (P : Teller → Flow → Type 0) (cost : ℕ) (f : Fault)
    (s : Frame) (m : Told) (before : H → List Asked → Type 0)
    → is_caught f ≡ false → m.world.by ≡ by → IsProperFault f → AreProper by s.locals
    → Walked by functions levels (λ a. on_fault (handler a) (Fails f) s) P cost (Some (Fails f)) s s m m before before
walked_passed by functions levels handler P cost f s m before is same proper locals =
    walked_as by functions levels (λ a. on_fault (handler a) (Fails f) s) (λ a. Ends (Fails f) s) P cost cost (Some (Fails f)) s s m m before before
    (λ a. passed_on f (handler a) s is) (omega arith) (walked_end by functions levels P cost (Fails f) s m before same proper locals)

-- a block that failed, and what its fault goes on with
pub walked_failed : {H : Type 0} (by : Teller) (functions : List FunctionCode) (levels : ℕ) (act : Around → Act Frame Flow)
    (handler : Around → Fault → Frame → Act Frame Flow) (P : Teller → Flow → Type 0)
    (one_cost two_cost cost : ℕ) (f : Fault) (ending : Option (Ending Flow)) (first between last : Frame) (old middle new : Told)
    (before during now : H → List Asked → Type 0)
    → Walked by functions levels act P one_cost (Some (Fails f)) first between old middle before during
    → Walked middle.world.by functions levels (λ a. on_fault (handler a) (Fails f) between) P two_cost ending between last middle new during now
    → one_cost + two_cost ≤ cost
    → Walked by functions levels (λ a. catches (act a) (handler a)) P cost ending first last old new before now
walked_failed by functions levels act handler P one_cost two_cost cost f ending first between last old middle new before during now one two cheap =
    walked_bind by functions levels act (λ a. on_fault (handler a)) P P one_cost two_cost cost (Fails f) ending first between last old middle new before
    during now one two cheap

-- a block that did not fail
pub walked_kept : {H : Type 0} (by : Teller) (functions : List FunctionCode) (levels : ℕ) (act : Around → Act Frame Flow)
    (handler : Around → Fault → Frame → Act Frame Flow) (P : Teller → Flow → Type 0)
    (one_cost cost : ℕ) (v : Flow) (first last : Frame) (old new : Told) (before now : H → List Asked → Type 0)
    → Walked by functions levels act P one_cost (Some (Gives v)) first last old new before now
    → one_cost ≤ cost
    → Walked by functions levels (λ a. catches (act a) (handler a)) P cost (Some (Gives v)) first last old new before now
walked_kept by functions levels act handler P one_cost cost v first last old new before now one cheap =
    walked_bind by functions levels act (λ a. on_fault (handler a)) P P one_cost 0 cost (Gives v) (Some (Gives v)) first last last old new new before now now
    one
    (walked_end new.world.by functions levels P 0 (Gives v) last new now refl (subst (λ b. P b v) (sym one.same) one.proper)
    (subst (λ b. AreProper b last.locals) (sym one.same) one.locals))
    (omega arith)
