-- What comes of `try`, and of a local that is set.
use Rattle.std.proofs.Common.{◌≡◌, ℕ, ◌+◌, ◌*◌, ◌≤◌, List, ◌++◌, true, Option, Some, None, ap, ◌∙◌, subst, arith}
use Rattle.dyn_value.specs.declared.fault.Fault.{Fault}
use Rattle.dyn_value.specs.declared.value.Value.{Value}
use Rattle.dyn_value.specs.declared.value.Value.TheVariants as value
use Rattle.dyn_value.specs.Texts.{fault_text}
use Rattle.task_code.specs.declared.code.FunctionCode.{FunctionCode}
use Rattle.task_code.specs.declared.code.Steps.{Steps}
use Rattle.task_code.specs.declared.frame.Flow.{Flow}
use Rattle.task_code.specs.declared.frame.Frame.{Frame}
use Rattle.task_code.specs.Acts.{Ending, Fails, Act, Ends, is_caught, on_fault}
use Rattle.task_code.specs.Codes.{Around, around_of, block_act, body_act, put}
use Rattle.task_code.specs.Costs.{Uses, steps_cost, steps_uses}
use Rattle.task_code.specs.Fits.{IsAllowed}
use Rattle.task_walk.specs.declared.code.Code.{Code}
use Rattle.task_walk.specs.Comings.{Told}
use Rattle.task_walk.specs.Parts.{caught_act}
use Rattle.task_walk.specs.Tales.{Teller, Tale, Asked, AreProper}
use Rattle.task_walk.specs.Walks.{IsReady, IsProperEnding, IsProperFlow, Walked}
use Rattle.task_walk.proofs.Comings.{came_lost, came_none}
use Rattle.task_walk.proofs.Trying.{walked_caught}
use Rattle.task_walk.proofs.Walkings.{ready_after, ready_part, all_first, all_second}

-- an end in a frame with other locals
pub walked_ends : {A H : Type 0} (by : Teller) (functions : List FunctionCode) (levels : ℕ) (P : Teller → A → Type 0) (cost : ℕ) (e : Ending A)
    (first last : Frame) (m : Told) (before : H → List Asked → Type 0)
    → m.world.by ≡ by → last.turns ≤ first.turns → IsProperEnding (P by) e → AreProper by last.locals
    → Walked by functions levels (λ a. Ends e last) P cost (Some e) first last m m before before
walked_ends by functions levels P cost e first last m before same less proper locals =
    let fewer : last.turns ≤ first.turns = less in
    record {
      same = same;
      fewer = fewer;
      count = omega arith;
      proper = proper;
      locals = locals;
      comes = λ more enough. came_none by.plan e last m before;
    }

-- memory is wanting after a part
pub walked_unended : {A B H : Type 0} (by : Teller) (functions : List FunctionCode) (levels : ℕ) (act : Around → Act Frame A) (whole : Around → Act Frame B)
    (P : Teller → A → Type 0) (Q : Teller → B → Type 0)
    (one_cost cost : ℕ) (first last : Frame) (old new : Told) (before now : H → List Asked → Type 0)
    → Walked by functions levels act P one_cost None first last old new before now
    → one_cost ≤ cost
    → Walked by functions levels whole Q cost None first last old new before now
walked_unended by functions levels act whole P Q one_cost cost first last old new before now one cheap =
    let counted : new.world.count + last.turns * 2097152 ≤ old.world.count + one_cost + first.turns * 2097152 = one.count in
    record {
      same = one.same;
      fewer = one.fewer;
      count = omega arith;
      proper = tt;
      locals = one.locals;
      comes = λ more enough. came_lost by.plan (act (around_of by.plan by.limit functions more)) (whole (around_of by.plan by.limit functions more)) last last
          old new before now (one.comes more enough);
    }

-- from a frame with as many turns
pub walked_from : {A H : Type 0} (by : Teller) (functions : List FunctionCode) (levels : ℕ) (act : Around → Act Frame A) (P : Teller → A → Type 0) (cost : ℕ)
    (ending : Option (Ending A)) (turns : ℕ) (locals others : List Value)
    (last : Frame) (old new : Told) (before now : H → List Asked → Type 0)
    → Walked by functions levels act P cost ending (record { turns = turns; locals = locals }) last old new before now
    → Walked by functions levels act P cost ending (record { turns = turns; locals = others }) last old new before now
walked_from by functions levels act P cost ending turns locals others last old new before now one = record {
  same = one.same;
  fewer = one.fewer;
  count = one.count;
  proper = one.proper;
  locals = one.locals;
  comes = one.comes;
}

-- the walk may go on with other locals
pub ready_with : (code : Code) (uses : Uses) (cost : ℕ) (s : Frame) (locals : List Value) (t : Tale)
    → IsReady code t uses cost s → AreProper t.by locals → IsReady code t uses cost (record { turns = s.turns; locals = locals })
ready_with code uses cost s locals t ready proper = record { world = ready.world; fits = ready.fits; cheap = ready.cheap; room = ready.room; proper = proper }

-- the first block may be executed
pub ready_tried : (code : Code) (body caught : Steps) (s : Frame) (t : Tale)
    → IsReady code t (steps_uses body ++ steps_uses caught) (steps_cost body + steps_cost caught) s → IsReady code t (steps_uses body) (steps_cost body) s
ready_tried code body caught s t ready =
    ready_part code (steps_uses body ++ steps_uses caught) (steps_uses body) (steps_cost body + steps_cost caught) (steps_cost body) s t ready
    (all_first (IsAllowed t.by.plan t.by.limit) (steps_uses body) (steps_uses caught) ready.fits) (omega arith)

-- and the other after it
pub ready_caught : {H : Type 0} (code : Code) (body caught : Steps) (levels : ℕ) (ending : Option (Ending Flow)) (first last : Frame) (old new : Told)
    (before now : H → List Asked → Type 0)
    → IsReady code old.world (steps_uses body ++ steps_uses caught) (steps_cost body + steps_cost caught) first
    → Walked old.world.by code.functions.now levels (λ a. block_act (body_act a body) levels first) IsProperFlow (steps_cost body) ending first last old new
    before now
    → IsReady code new.world (steps_uses caught) (steps_cost caught) last
ready_caught code body caught levels ending first last old new before now ready one =
    ready_after code (steps_uses body ++ steps_uses caught) (steps_uses caught) (steps_cost body + steps_cost caught) (steps_cost body) (steps_cost caught)
    code.functions.now levels
    (λ a. block_act (body_act a body) levels first) IsProperFlow ending first last old new before now ready one
    (all_second (IsAllowed old.world.by.plan old.world.by.limit) (steps_uses body) (steps_uses caught) ready.fits) (omega arith)

-- the block of a fault was executed, whose text a local has
pub caught_walked : {H : Type 0} (by : Teller) (functions : List FunctionCode) (levels local : ℕ) (b : Steps) (f : Fault) (text : List ℕ)
    (ending : Option (Ending Flow))
    (first last : Frame) (locals : List Value) (old new : Told) (before now : H → List Asked → Type 0)
    → is_caught f ≡ true → text ≡ fault_text f → locals ≡ put local (value.Text text) first.locals
    → Walked by functions levels (λ a. block_act (body_act a b) levels (record { turns = first.turns; locals = locals })) IsProperFlow (steps_cost b) ending
    (record { turns = first.turns; locals = locals }) last old new before now
    → Walked by functions levels (λ a. on_fault (caught_act a local b levels) (Fails f) first) IsProperFlow (steps_cost b) ending first last old new before
    now
caught_walked by functions levels local b f text ending first last locals old new before now is told there one =
    walked_caught by functions levels (λ a. caught_act a local b levels) IsProperFlow (steps_cost b) f ending first last old new before now is
    (subst (λ ls. Walked by functions levels (λ a. block_act (body_act a b) levels (record { turns = first.turns; locals = ls })) IsProperFlow (steps_cost b)
    ending first last old new before now)
    (there ∙ ap (λ t. put local (value.Text t) first.locals) told)
    (walked_from by functions levels (λ a. block_act (body_act a b) levels (record { turns = first.turns; locals = locals })) IsProperFlow (steps_cost b)
    ending first.turns locals first.locals last old new before now one))
