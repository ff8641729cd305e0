-- How a walk that is under way goes on.
use Rattle.std.proofs.Common.{◌≡◌, ℕ, ◌+◌, ◌*◌, ◌≤◌, List, [], ◌++◌, Option, Some, None, refl, ap, sym, ◌∙◌, subst, arith, append_assoc, append-nil}
use Rattle.std.specs.Prelude.{IfSome}
use Rattle.task_code.specs.declared.code.FunctionCode.{FunctionCode}
use Rattle.task_code.specs.declared.frame.Frame.{Frame}
use Rattle.task_code.specs.Acts.{Ending, Gives, Act, bind, on_value, and_then}
use Rattle.task_code.specs.Codes.{Plan, Around, around_of}
use Rattle.task_walk.specs.Comings.{Event, Told, after, asked_in, Does, Came}
use Rattle.task_walk.specs.Goings.{Onward, Going}
use Rattle.task_walk.specs.Tales.{Teller, Asked, AreProper}
use Rattle.task_walk.specs.Walks.{Walked}
use Rattle.task_walk.proofs.Comings.{does_bind, after_both, asked_both}

pub onward_start : {S A H : Type 0} (plan : Plan) (whole : Act S A) (old : Told) (before : H → List Asked → Type 0)
    → Onward plan whole old before whole old before
onward_start plan whole old before = record {
  events = [];
  is = refl;
  asked = λ home ops had. subst (before home) (sym (append-nil ops)) had;
  goes = λ more e last does. does;
}

pub onward_bind : {S T A B H : Type 0} (plan : Plan) (whole : Act T B) (old : Told) (before : H → List Asked → Type 0) (act : Act S A)
    (next : Ending A → S → Act T B) (e : Ending A) (s : S)
    (middle new : Told) (during now : H → List Asked → Type 0)
    → Onward plan whole old before (bind act next) middle during → Came plan act (Some e) s middle new during now
    → Onward plan whole old before (next e s) new now
onward_bind plan whole old before act next e s middle new during now on came = record {
  events = on.events ++ came.events;
  is = came.is ∙ ap (after came.events) on.is ∙ sym (after_both on.events came.events old);
  asked = λ home ops had.
      subst (now home) (append_assoc ops (asked_in on.events) (asked_in came.events) ∙ ap (λ more. ops ++ more) (sym (asked_both on.events came.events)))
      (came.asked home (ops ++ asked_in on.events) (on.asked home ops had));
  goes = λ more d last does.
      subst (λ es. Does plan whole es d last) (sym (append_assoc on.events came.events more))
      (on.goes (came.events ++ more) d last (does_bind plan act next came.events more e s d last came.does does));
}

onward_does : {S A H : Type 0} (plan : Plan) (whole : Act S A) (old : Told) (before : H → List Asked → Type 0) (act : Act S A) (ending : Option (Ending A))
    (last : S) (events : List Event)
    (middle : Told) (during : H → List Asked → Type 0) (on : Onward plan whole old before act middle during)
    → IfSome ending (λ e. Does plan act events e last) → IfSome ending (λ e. Does plan whole (on.events ++ events) e last)
onward_does plan whole old before act (Some e) last events middle during on does = on.goes events e last does
onward_does plan whole old before act None last events middle during on does = does

pub onward_end : {S A H : Type 0} (plan : Plan) (whole : Act S A) (old : Told) (before : H → List Asked → Type 0) (act : Act S A) (ending : Option (Ending A))
    (last : S)
    (middle new : Told) (during now : H → List Asked → Type 0)
    → Onward plan whole old before act middle during → Came plan act ending last middle new during now → Came plan whole ending last old new before now
onward_end plan whole old before act ending last middle new during now on came = record {
  events = on.events ++ came.events;
  is = came.is ∙ ap (after came.events) on.is ∙ sym (after_both on.events came.events old);
  does = onward_does plan whole old before act ending last came.events middle during on came.does;
  asked = λ home ops had.
      subst (now home) (append_assoc ops (asked_in on.events) (asked_in came.events) ∙ ap (λ more. ops ++ more) (sym (asked_both on.events came.events)))
      (came.asked home (ops ++ asked_in on.events) (on.asked home ops had));
}

-- nothing was done yet
pub going_start : {A H : Type 0} (by : Teller) (functions : List FunctionCode) (levels : ℕ) (whole : Around → Act Frame A) (cost : ℕ) (first : Frame)
    (old : Told) (before : H → List Asked → Type 0)
    → old.world.by ≡ by → AreProper by first.locals
    → Going by functions levels whole cost first old before whole cost first old before
going_start by functions levels whole cost first old before same locals = record {
  same = same;
  fewer = omega arith;
  count = omega arith;
  locals = locals;
  goes = λ more less. onward_start by.plan (whole (around_of by.plan by.limit functions more)) old before;
}

-- a part of the rest was done
pub going_bind : {A B H : Type 0} (by : Teller) (functions : List FunctionCode) (levels : ℕ) (whole : Around → Act Frame B) (cost : ℕ) (first : Frame)
    (old : Told) (before : H → List Asked → Type 0)
    (act : Around → Act Frame A) (next : Around → Ending A → Frame → Act Frame B) (P : Teller → A → Type 0) (rest_cost one_cost next_cost : ℕ) (e : Ending A)
    (s last : Frame)
    (middle new : Told) (during now : H → List Asked → Type 0)
    → Going by functions levels whole cost first old before (λ a. bind (act a) (next a)) rest_cost s middle during
    → Walked middle.world.by functions levels act P one_cost (Some e) s last middle new during now
    → one_cost + next_cost ≤ rest_cost
    → Going by functions levels whole cost first old before (λ a. next a e last) next_cost last new now
going_bind by functions levels whole cost first old before act next P rest_cost one_cost next_cost e s last middle new during now going there cheap =
    let one : Walked by functions levels act P one_cost (Some e) s last middle new during now =
    subst (λ b. Walked b functions levels act P one_cost (Some e) s last middle new during now) going.same there in
    let going_count : middle.world.count + rest_cost + s.turns * 2097152 ≤ old.world.count + cost + first.turns * 2097152 = going.count in
    let one_count : new.world.count + last.turns * 2097152 ≤ middle.world.count + one_cost + s.turns * 2097152 = one.count in
    let going_fewer : s.turns ≤ first.turns = going.fewer in
    let one_fewer : last.turns ≤ s.turns = one.fewer in
    record {
      same = one.same;
      fewer = omega arith;
      count = omega arith;
      locals = one.locals;
      goes = λ more less. onward_bind by.plan (whole (around_of by.plan by.limit functions more)) old before (act (around_of by.plan by.limit functions more))
          (next (around_of by.plan by.limit functions more)) e last
          middle new during now (going.goes more less) (one.comes more less);
    }

pub going_then : {A B H : Type 0} (by : Teller) (functions : List FunctionCode) (levels : ℕ) (whole : Around → Act Frame B) (cost : ℕ) (first : Frame)
    (old : Told) (before : H → List Asked → Type 0)
    (act : Around → Act Frame A) (next : Around → A → Frame → Act Frame B) (P : Teller → A → Type 0) (rest_cost one_cost next_cost : ℕ) (v : A)
    (s last : Frame)
    (middle new : Told) (during now : H → List Asked → Type 0)
    → Going by functions levels whole cost first old before (λ a. and_then (act a) (next a)) rest_cost s middle during
    → Walked middle.world.by functions levels act P one_cost (Some (Gives v)) s last middle new during now
    → one_cost + next_cost ≤ rest_cost
    → Going by functions levels whole cost first old before (λ a. next a v last) next_cost last new now
going_then by functions levels whole cost first old before act next P rest_cost one_cost next_cost v s last middle new during now going one cheap =
    going_bind by functions levels whole cost first old before act (λ a. on_value (next a)) P rest_cost one_cost next_cost (Gives v) s last middle new during
    now going one cheap

-- the rest was done
pub going_end : {A H : Type 0} (by : Teller) (functions : List FunctionCode) (levels : ℕ) (whole : Around → Act Frame A) (cost : ℕ) (first : Frame)
    (old : Told) (before : H → List Asked → Type 0)
    (rest : Around → Act Frame A) (P : Teller → A → Type 0) (rest_cost : ℕ) (ending : Option (Ending A)) (s last : Frame) (middle new : Told)
    (during now : H → List Asked → Type 0)
    → Going by functions levels whole cost first old before rest rest_cost s middle during
    → Walked middle.world.by functions levels rest P rest_cost ending s last middle new during now
    → Walked by functions levels whole P cost ending first last old new before now
going_end by functions levels whole cost first old before rest P rest_cost ending s last middle new during now going there =
    let one : Walked by functions levels rest P rest_cost ending s last middle new during now =
    subst (λ b. Walked b functions levels rest P rest_cost ending s last middle new during now) going.same there in
    let going_count : middle.world.count + rest_cost + s.turns * 2097152 ≤ old.world.count + cost + first.turns * 2097152 = going.count in
    let one_count : new.world.count + last.turns * 2097152 ≤ middle.world.count + rest_cost + s.turns * 2097152 = one.count in
    let going_fewer : s.turns ≤ first.turns = going.fewer in
    let one_fewer : last.turns ≤ s.turns = one.fewer in
    record {
      same = one.same;
      fewer = omega arith;
      count = omega arith;
      proper = one.proper;
      locals = one.locals;
      comes = λ more less. onward_end by.plan (whole (around_of by.plan by.limit functions more)) old before
          (rest (around_of by.plan by.limit functions more)) ending last
          middle new during now (going.goes more less) (one.comes more less);
    }
