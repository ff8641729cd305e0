-- How a walk that is under way ends, stops or opens a level.
use Rattle.std.proofs.Common.{◌≡◌, ℕ, ◌≤◌, List, Option, Some, None, refl, sym, subst, arith}
use Rattle.task_code.specs.declared.code.FunctionCode.{FunctionCode}
use Rattle.task_code.specs.declared.frame.Frame.{Frame}
use Rattle.task_code.specs.Acts.{Ending, Gives, Act, Ends, and_then}
use Rattle.task_code.specs.Codes.{Around}
use Rattle.task_walk.specs.declared.stop.Stop.{Stop}
use Rattle.task_walk.specs.Comings.{Told}
use Rattle.task_walk.specs.Goings.{Going}
use Rattle.task_walk.specs.Tales.{Teller, Asked, AreProper}
use Rattle.task_walk.specs.Walks.{stopped, IsProperEnding, Walked}
use Rattle.task_walk.proofs.Goings.{going_end}
use Rattle.task_walk.proofs.Walkings.{walked_end, walked_stopped, walked_lost}

-- what a part came to is proper for the world after it
pub walked_proper : {A H : Type 0} (by : Teller) (functions : List FunctionCode) (levels : ℕ) (act : Around → Act Frame A) (P : Teller → A → Type 0)
    (cost : ℕ) (v : A)
    (first last : Frame) (old new : Told) (before now : H → List Asked → Type 0)
    → Walked by functions levels act P cost (Some (Gives v)) first last old new before now → P new.world.by v
walked_proper by functions levels act P cost v first last old new before now one = subst (λ b. P b v) (sym one.same) one.proper

deep_enough : (inner levels more : ℕ) → inner ≤ levels → levels ≤ more → inner ≤ more
deep_enough inner levels more less enough = omega arith

-- what was done with some levels is done with more
pub walked_deeper : {A H : Type 0} (by : Teller) (functions : List FunctionCode) (inner levels : ℕ) (act : Around → Act Frame A) (P : Teller → A → Type 0)
    (cost : ℕ)
    (ending : Option (Ending A)) (first last : Frame) (old new : Told) (before now : H → List Asked → Type 0)
    → inner ≤ levels
    → Walked by functions inner act P cost ending first last old new before now
    → Walked by functions levels act P cost ending first last old new before now
walked_deeper by functions inner levels act P cost ending first last old new before now less one = record {
  same = one.same;
  fewer = one.fewer;
  count = one.count;
  proper = one.proper;
  locals = one.locals;
  comes = λ more enough. one.comes more (deep_enough inner levels more less enough);
}

-- a part of the rest stopped
pub going_stopped : {A B H : Type 0} (why : Stop) (by : Teller) (functions : List FunctionCode) (levels : ℕ) (whole : Around → Act Frame B) (cost : ℕ)
    (first : Frame) (old : Told) (before : H → List Asked → Type 0)
    (act : Around → Act Frame A) (next : Around → A → Frame → Act Frame B) (P : Teller → A → Type 0) (Q : Teller → B → Type 0) (rest_cost one_cost : ℕ)
    (s last : Frame)
    (middle new : Told) (during now : H → List Asked → Type 0)
    → Going by functions levels whole cost first old before (λ a. and_then (act a) (next a)) rest_cost s middle during
    → Walked middle.world.by functions levels act P one_cost (stopped why) s last middle new during now
    → one_cost ≤ rest_cost
    → Walked by functions levels whole Q cost (stopped why) first last old new before now
going_stopped why by functions levels whole cost first old before act next P Q rest_cost one_cost s last middle new during now going one cheap =
    going_end by functions levels whole cost first old before (λ a. and_then (act a) (next a)) Q rest_cost (stopped why) s last middle new during now going
    (walked_stopped why middle.world.by functions levels act next P Q one_cost rest_cost s last middle new during now one cheap)

-- the rest ends at once
pub going_done : {A H : Type 0} (by : Teller) (functions : List FunctionCode) (levels : ℕ) (whole : Around → Act Frame A) (cost : ℕ) (first : Frame)
    (old : Told) (before : H → List Asked → Type 0)
    (e : Ending A) (Q : Teller → A → Type 0) (rest_cost : ℕ) (s : Frame) (middle : Told) (during : H → List Asked → Type 0)
    → Going by functions levels whole cost first old before (λ a. Ends e s) rest_cost s middle during
    → IsProperEnding (Q middle.world.by) e
    → Walked by functions levels whole Q cost (Some e) first s old middle before during
going_done by functions levels whole cost first old before e Q rest_cost s middle during going proper =
    going_end by functions levels whole cost first old before (λ a. Ends e s) Q rest_cost (Some e) s s middle middle during during going
    (walked_end middle.world.by functions levels Q rest_cost e s middle during refl proper (subst (λ b. AreProper b s.locals) (sym going.same) going.locals))

-- memory is wanting before the rest
pub going_lost : {A H : Type 0} (by : Teller) (functions : List FunctionCode) (levels : ℕ) (whole : Around → Act Frame A) (cost : ℕ) (first : Frame)
    (old : Told) (before : H → List Asked → Type 0)
    (rest : Around → Act Frame A) (Q : Teller → A → Type 0) (rest_cost : ℕ) (s : Frame) (middle : Told) (during : H → List Asked → Type 0)
    → Going by functions levels whole cost first old before rest rest_cost s middle during
    → Walked by functions levels whole Q cost None first s old middle before during
going_lost by functions levels whole cost first old before rest Q rest_cost s middle during going =
    going_end by functions levels whole cost first old before rest Q rest_cost None s s middle middle during during going
    (walked_lost middle.world.by functions levels rest Q rest_cost s s middle during refl (omega arith)
    (subst (λ b. AreProper b s.locals) (sym going.same) going.locals))

-- memory is wanting before anything was done
pub lost_here : {A H : Type 0} (by : Teller) (functions : List FunctionCode) (levels : ℕ) (act : Around → Act Frame A) (P : Teller → A → Type 0) (cost : ℕ)
    (s : Frame) (m : Told) (before : H → List Asked → Type 0)
    → m.world.by ≡ by → AreProper by s.locals
    → Walked by functions levels act P cost None s s m m before before
lost_here by functions levels act P cost s m before same locals = walked_lost by functions levels act P cost s s m before same (omega arith) locals
