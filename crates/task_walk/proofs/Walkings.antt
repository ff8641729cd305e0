-- How what the walk did of a whole follows from what it did of its parts.
use Rattle.std.proofs.Common.{◌≡◌, ℕ, suc, ◌+◌, ◌*◌, ◌^◌, ◌<◌, ◌≤◌, List, [], ◌∷◌, ◌++◌, Option, Some, None, refl, sym, subst, arith, append-nil}
use Rattle.std.specs.List.{AllByRecursion}
use Rattle.dyn_value.specs.declared.fault.Fault.TheVariants.{Depth}
use Rattle.task_code.specs.declared.code.FunctionCode.{FunctionCode}
use Rattle.task_code.specs.declared.frame.Frame.{Frame}
use Rattle.task_code.specs.Acts.{Ending, Gives, Fails, Act, Ends, bind, on_value, and_then, within}
use Rattle.task_code.specs.Codes.{Around, around_of}
use Rattle.task_code.specs.Costs.{Uses}
use Rattle.task_code.specs.Fits.{Fits}
use Rattle.task_walk.specs.declared.code.Code.{Code}
use Rattle.task_walk.specs.declared.stop.Stop.{Stop}
use Rattle.task_walk.specs.declared.stop.Stop.TheVariants as stop
use Rattle.task_walk.specs.Comings.{Told, Came}
use Rattle.task_walk.specs.Tales.{Teller, Tale, Asked, AreProper}
use Rattle.task_walk.specs.Walks.{stopped, IsFor, IsReady, IsProperEnding, Walked}
use Rattle.task_walk.proofs.Comings.{came_bind, came_lost, came_none}

-- one part, and then another by what the first came to
pub walked_bind : {A B H : Type 0} (by : Teller) (functions : List FunctionCode) (levels : ℕ) (act : Around → Act Frame A)
    (next : Around → Ending A → Frame → Act Frame B)
    (P : Teller → A → Type 0) (Q : Teller → B → Type 0) (one_cost two_cost cost : ℕ) (e : Ending A) (ending : Option (Ending B)) (first between last : Frame)
    (old middle new : Told) (before during now : H → List Asked → Type 0)
    → Walked by functions levels act P one_cost (Some e) first between old middle before during
    → Walked middle.world.by functions levels (λ a. next a e between) Q two_cost ending between last middle new during now
    → one_cost + two_cost ≤ cost
    → Walked by functions levels (λ a. bind (act a) (next a)) Q cost ending first last old new before now
walked_bind by functions levels act next P Q one_cost two_cost cost e ending first between last old middle new before during now one two_there cheap =
    let two : Walked by functions levels (λ a. next a e between) Q two_cost ending between last middle new during now =
    subst (λ b. Walked b functions levels (λ a. next a e between) Q two_cost ending between last middle new during now) one.same two_there in
    let one_count : middle.world.count + between.turns * 2097152 ≤ old.world.count + one_cost + first.turns * 2097152 = one.count in
    let two_count : new.world.count + last.turns * 2097152 ≤ middle.world.count + two_cost + between.turns * 2097152 = two.count in
    let one_fewer : between.turns ≤ first.turns = one.fewer in
    let two_fewer : last.turns ≤ between.turns = two.fewer in
    record {
      same = two.same;
      fewer = omega arith;
      count = omega arith;
      proper = two.proper;
      locals = two.locals;
      comes = λ more less. came_bind by.plan (act (around_of by.plan by.limit functions more)) (next (around_of by.plan by.limit functions more)) e between
          ending last old middle new before during now
          (one.comes more less) (two.comes more less);
    }

-- a part that ends at once
pub walked_end : {A H : Type 0} (by : Teller) (functions : List FunctionCode) (levels : ℕ) (P : Teller → A → Type 0) (cost : ℕ) (e : Ending A) (s : Frame)
    (m : Told) (before : H → List Asked → Type 0)
    → m.world.by ≡ by → IsProperEnding (P by) e → AreProper by s.locals
    → Walked by functions levels (λ a. Ends e s) P cost (Some e) s s m m before before
walked_end by functions levels P cost e s m before same proper locals = record {
  same = same;
  fewer = omega arith;
  count = omega arith;
  proper = proper;
  locals = locals;
  comes = λ more less. came_none by.plan e s m before;
}

-- a part after one that stopped does not come
pub walked_stopped : {A B H : Type 0} (why : Stop) (by : Teller) (functions : List FunctionCode) (levels : ℕ) (act : Around → Act Frame A)
    (next : Around → A → Frame → Act Frame B)
    (P : Teller → A → Type 0) (Q : Teller → B → Type 0) (one_cost cost : ℕ) (first last : Frame) (old new : Told) (before now : H → List Asked → Type 0)
    → Walked by functions levels act P one_cost (stopped why) first last old new before now
    → one_cost ≤ cost
    → Walked by functions levels (λ a. and_then (act a) (next a)) Q cost (stopped why) first last old new before now
walked_stopped (stop.Fault f) by functions levels act next P Q one_cost cost first last old new before now one cheap =
    walked_bind by functions levels act (λ a. on_value (next a)) P Q one_cost 0 cost (Fails f) (Some (Fails f)) first last last old new new before now now one
    (walked_end new.world.by functions levels Q 0 (Fails f) last new now refl one.proper (subst (λ b. AreProper b last.locals) (sym one.same) one.locals))
    (omega arith)
walked_stopped stop.Memory by functions levels act next P Q one_cost cost first last old new before now one cheap =
    let counted : new.world.count + last.turns * 2097152 ≤ old.world.count + one_cost + first.turns * 2097152 = one.count in
    record {
      same = one.same;
      fewer = one.fewer;
      count = omega arith;
      proper = tt;
      locals = one.locals;
      comes = λ more less. came_lost by.plan (act (around_of by.plan by.limit functions more)) _ last last old new before now (one.comes more less);
    }

-- one part after another
pub walked_then : {A B H : Type 0} (by : Teller) (functions : List FunctionCode) (levels : ℕ) (act : Around → Act Frame A)
    (next : Around → A → Frame → Act Frame B)
    (P : Teller → A → Type 0) (Q : Teller → B → Type 0) (one_cost two_cost cost : ℕ) (v : A) (ending : Option (Ending B)) (first between last : Frame)
    (old middle new : Told) (before during now : H → List Asked → Type 0)
    → Walked by functions levels act P one_cost (Some (Gives v)) first between old middle before during
    → Walked middle.world.by functions levels (λ a. next a v between) Q two_cost ending between last middle new during now
    → one_cost + two_cost ≤ cost
    → Walked by functions levels (λ a. and_then (act a) (next a)) Q cost ending first last old new before now
walked_then by functions levels act next P Q one_cost two_cost cost v ending first between last old middle new before during now one two cheap =
    walked_bind by functions levels act (λ a. on_value (next a)) P Q one_cost two_cost cost (Gives v) ending first between last old middle new before during
    now one two cheap

-- an act that is the same, and costs less
pub walked_as : {A H : Type 0} (by : Teller) (functions : List FunctionCode) (levels : ℕ) (act other : Around → Act Frame A)
    (P : Teller → A → Type 0) (other_cost cost : ℕ) (ending : Option (Ending A)) (first last : Frame) (old new : Told) (before now : H → List Asked → Type 0)
    → ((a : Around) → other a ≡ act a) → other_cost ≤ cost
    → Walked by functions levels other P other_cost ending first last old new before now
    → Walked by functions levels act P cost ending first last old new before now
walked_as by functions levels act other P other_cost cost ending first last old new before now is cheap one =
    let counted : new.world.count + last.turns * 2097152 ≤ old.world.count + other_cost + first.turns * 2097152 = one.count in
    record {
      same = one.same;
      fewer = one.fewer;
      count = omega arith;
      proper = one.proper;
      locals = one.locals;
      comes = λ more less. subst (λ x. Came by.plan x ending last old new before now) (is (around_of by.plan by.limit functions more)) (one.comes more less);
    }

inner_less : (levels inner more : ℕ) → levels ≡ suc inner → levels ≤ more → inner ≤ more
inner_less levels inner more is less = omega arith

-- a part inside one more level
pub walked_within : {A H : Type 0} (by : Teller) (functions : List FunctionCode) (levels inner : ℕ) (go : Around → ℕ → Act Frame A)
    (P : Teller → A → Type 0) (cost : ℕ) (ending : Option (Ending A)) (s first last : Frame) (old new : Told) (before now : H → List Asked → Type 0)
    → levels ≡ suc inner
    → Walked by functions inner (λ a. go a inner) P cost ending first last old new before now
    → Walked by functions levels (λ a. within levels s (go a)) P cost ending first last old new before now
walked_within by functions levels inner go P cost ending s first last old new before now is one = record {
  same = one.same;
  fewer = one.fewer;
  count = one.count;
  proper = one.proper;
  locals = one.locals;
  comes = λ more less. subst (λ n. Came by.plan (within n s (go (around_of by.plan by.limit functions more))) ending last old new before now) (sym is)
      (one.comes more (inner_less levels inner more is less));
}

-- no level is left
pub walked_depth : {A H : Type 0} (by : Teller) (functions : List FunctionCode) (levels : ℕ) (go : Around → ℕ → Act Frame A)
    (P : Teller → A → Type 0) (cost : ℕ) (s : Frame) (m : Told) (before : H → List Asked → Type 0)
    → levels ≡ 0 → m.world.by ≡ by → AreProper by s.locals
    → Walked by functions levels (λ a. within levels s (go a)) P cost (Some (Fails Depth)) s s m m before before
walked_depth {A = A} {H = H} by functions levels go P cost s m before is same locals =
    subst (λ n. Walked {A = A} {H = H} by functions levels (λ a. within n s (go a)) P cost (Some (Fails Depth)) s s m m before before) (sym is)
    (walked_end {A = A} {H = H} by functions levels P cost (Fails Depth) s m before same tt locals)

-- the walk may go on with what is left after a part
pub ready_after : {A H : Type 0} (code : Code) (uses rest : Uses) (cost one_cost rest_cost : ℕ) (functions : List FunctionCode) (levels : ℕ)
    (act : Around → Act Frame A)
    (P : Teller → A → Type 0) (ending : Option (Ending A)) (first last : Frame) (old new : Told) (before now : H → List Asked → Type 0)
    → IsReady code old.world uses cost first
    → Walked old.world.by functions levels act P one_cost ending first last old new before now
    → Fits old.world.by.plan old.world.by.limit rest → one_cost + rest_cost ≤ cost
    → IsReady code new.world rest rest_cost last
ready_after code uses rest cost one_cost rest_cost functions levels act P ending first last old new before now ready one fits cheap =
    let counted : new.world.count + last.turns * 2097152 ≤ old.world.count + one_cost + first.turns * 2097152 = one.count in
    let room : old.world.count + cost + first.turns * 2097152 < 2 ^ 60 = ready.room in
    let few : cost ≤ 2097152 = ready.cheap in
    record {
      world = subst (λ b. IsFor code b) (sym one.same) ready.world;
      fits = subst (λ (b : Teller). Fits b.plan b.limit rest) (sym one.same) fits;
      cheap = omega arith;
      room = omega arith;
      proper = subst (λ b. AreProper b last.locals) (sym one.same) one.locals;
    }

-- the walk may go on with a part
pub ready_part : (code : Code) (uses rest : Uses) (cost rest_cost : ℕ) (s : Frame) (t : Tale)
    → IsReady code t uses cost s → Fits t.by.plan t.by.limit rest → rest_cost ≤ cost → IsReady code t rest rest_cost s
ready_part code uses rest cost rest_cost s t ready fits cheap =
    let room : t.count + cost + s.turns * 2097152 < 2 ^ 60 = ready.room in
    let few : cost ≤ 2097152 = ready.cheap in
    record { world = ready.world; fits = fits; cheap = omega arith; room = omega arith; proper = ready.proper }

-- all of two lists are all of each
pub all_first : {A : Type 0} (P : A → Type 0) (xs ys : List A) → AllByRecursion P (xs ++ ys) → AllByRecursion P xs
all_first P [] ys all = tt
all_first P (x ∷ xs) ys all = (all.0, all_first P xs ys all.1)

pub all_second : {A : Type 0} (P : A → Type 0) (xs ys : List A) → AllByRecursion P (xs ++ ys) → AllByRecursion P ys
all_second P [] ys all = all
all_second P (x ∷ xs) ys all = all_second P xs ys all.1

-- memory is wanting before anything came
pub walked_lost : {A H : Type 0} (by : Teller) (functions : List FunctionCode) (levels : ℕ) (act : Around → Act Frame A) (P : Teller → A → Type 0) (cost : ℕ)
    (first last : Frame) (m : Told) (before : H → List Asked → Type 0)
    → m.world.by ≡ by → last.turns ≤ first.turns → AreProper by last.locals
    → Walked by functions levels act P cost None first last m m before before
walked_lost by functions levels act P cost first last m before same fewer locals = record {
  same = same;
  fewer = fewer;
  count = omega arith;
  proper = tt;
  locals = locals;
  comes = λ more enough. record { events = []; is = refl; does = tt; asked = λ home ops had. subst (before home) (sym (append-nil ops)) had };
}
