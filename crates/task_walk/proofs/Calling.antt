-- What came of a function's call, by what came of its body.
use Rattle.std.proofs.Common.{◌≡◌, ℕ, zero, suc, ◌+◌, ◌*◌, ◌^◌, ◌<◌, ◌≤◌, List, [], Option, Some, None, refl, sym, subst, arith}
use Rattle.std.specs.Prelude.{slice_get, IfSome}
use Rattle.dyn_value.specs.declared.fault.Fault.TheVariants.{Depth}
use Rattle.dyn_value.specs.declared.value.Value.{Value}
use Rattle.dyn_value.specs.declared.value.Value.TheVariants as value
use Rattle.standard_binders.specs.Arguments.{Arguments}
use Rattle.task_code.specs.declared.code.FunctionCode.{FunctionCode}
use Rattle.task_code.specs.declared.frame.Flow.{Flow}
use Rattle.task_code.specs.declared.frame.Flow.TheVariants.{Next, Returned}
use Rattle.task_code.specs.declared.frame.Frame.{Frame}
use Rattle.task_code.specs.Acts.{Ending, Gives, Fails, Act, bind, within, values_of}
use Rattle.task_code.specs.Codes.{Plan, around_of, body_act, body_ends, back_in, calls_on, function_act}
use Rattle.task_walk.specs.Comings.{Told, Came}
use Rattle.task_walk.specs.Tales.{Teller, Tale, Asked, AreProper, IsProperValue}
use Rattle.task_code.specs.Costs.{steps_cost, steps_uses}
use Rattle.task_walk.specs.declared.code.Code.{Code}
use Rattle.task_walk.specs.declared.stop.Stop.{Stop}
use Rattle.task_walk.specs.declared.stop.Stop.TheVariants as stop
use Rattle.task_walk.specs.Walks.{stopped, IsReady, IsBody, Walked, IsProperEnding, IsProperFlow}
use Rattle.task_walk.proofs.Comings.{came_bind, came_lost, came_none}

-- what a function's body comes to, as what its call comes to
abbrev pub call_ending : Ending Flow → Ending Value
call_ending (Gives Next) = Gives value.Nil
call_ending (Gives (Returned v)) = Gives v
call_ending (Fails f) = Fails f

abbrev pub called_ending : Option (Ending Flow) → Option (Ending Value)
called_ending None = None
called_ending (Some e) = Some (call_ending e)

abbrev pub back : Frame → Frame → Frame
back s own = record { turns = own.turns; locals = s.locals }

came_ended : {H : Type 0} (plan : Plan) (e : Ending Flow) (own : Frame) (m : Told) (before : H → List Asked → Type 0)
    → Came plan (body_ends e own) (Some (call_ending e)) own.turns m m before before
came_ended plan (Gives Next) own m before = came_none plan (Gives value.Nil) own.turns m before
came_ended plan (Gives (Returned v)) own m before = came_none plan (Gives v) own.turns m before
came_ended plan (Fails f) own m before = came_none plan (Fails f) own.turns m before

came_body : {H : Type 0} (plan : Plan) (act : Act Frame Flow) (e : Option (Ending Flow)) (s own : Frame) (old new : Told)
    (before now : H → List Asked → Type 0)
    → Came plan act e own old new before now
    → Came plan (bind (bind act body_ends) (back_in s)) (called_ending e) (back s own) old new before now
came_body plan act (Some e) s own old new before now came =
    came_bind plan (bind act body_ends) (back_in s) (call_ending e) own.turns (Some (call_ending e)) (back s own) old new new before now now
    (came_bind plan act body_ends e own (Some (call_ending e)) own.turns old new new before now now came (came_ended plan e own new now))
    (came_none plan (call_ending e) (back s own) new now)
came_body plan act None s own old new before now came = came_lost plan act (bind (bind act body_ends) (back_in s)) own (back s own) old new before now came

came_called : {H : Type 0} (plan : Plan) (limit : ℕ) (functions : List FunctionCode) (f : ℕ) (found : FunctionCode) (info : Arguments) (args : List Value)
    (more levels inner turns left : ℕ)
    (locals : List Value) (e : Option (Ending Flow)) (own : Frame) (old new : Told) (before now : H → List Asked → Type 0)
    → slice_get functions f ≡ Some found → levels ≡ suc inner → turns ≡ suc left → levels ≤ more
    → ((m : ℕ) → inner ≤ m → Came plan (body_act (around_of plan limit functions m) found.body inner
    (record { turns = left; locals = values_of found.params info args })) e own old new before now)
    → Came plan (calls_on (around_of plan limit functions more) f info args levels (record { turns = turns; locals = locals })) (called_ending e)
    (record { turns = own.turns; locals = locals }) old new before now
came_called plan limit functions f found info args zero levels inner turns left locals e own old new before now at deep counted enough came = absurd
    (omega arith)
came_called {H = H} plan limit functions f found info args (suc m) levels inner turns left locals e own old new before now at deep counted enough came =
    let within_m : inner ≤ m = omega arith in
    let whole : Came plan (bind (function_act (around_of plan limit functions m) (slice_get functions f) info args inner left)
    (back_in (record { turns = left; locals = locals }))) (called_ending e) (record { turns = own.turns; locals = locals }) old new before now =
    subst (λ o. Came plan (bind (function_act (around_of plan limit functions m) o info args inner left) (back_in (record { turns = left; locals = locals })))
    (called_ending e) (record { turns = own.turns; locals = locals }) old new before now) (sym at)
    (came_body plan (body_act (around_of plan limit functions m) found.body inner (record { turns = left; locals = values_of found.params info args })) e
    (record { turns = left; locals = locals }) own old new before now (came m within_m)) in
    subst (λ n. Came plan (calls_on (around_of plan limit functions (suc m)) f info args levels (record { turns = n; locals = locals })) (called_ending e)
    (record { turns = own.turns; locals = locals }) old new before now) (sym counted)
    (subst (λ n. Came plan (within n (record { turns = left; locals = locals }) (λ deeper. bind
    ((around_of plan limit functions (suc m)).calls f info args deeper left) (back_in (record { turns = left; locals = locals }))))
    (called_ending e) (record { turns = own.turns; locals = locals }) old new before now) (sym deep) whole)

proper_called : (by : Teller) (e : Option (Ending Flow)) → IfSome e (IsProperEnding (IsProperFlow by))
    → IfSome (called_ending e) (IsProperEnding (IsProperValue by))
proper_called by None is = tt
proper_called by (Some (Gives Next)) is = tt
proper_called by (Some (Gives (Returned v))) is = is
proper_called by (Some (Fails f)) is = is

-- a function is called, and its body's cost is paid by the turn
pub walked_called : {H : Type 0} (by : Teller) (functions : List FunctionCode) (f : ℕ) (found : FunctionCode) (info : Arguments) (args : List Value)
    (levels inner turns left cost : ℕ)
    (locals : List Value) (e : Option (Ending Flow)) (own : Frame) (old new : Told) (before now : H → List Asked → Type 0)
    → slice_get functions f ≡ Some found → levels ≡ suc inner → turns ≡ suc left → cost ≤ 2097152 → AreProper by locals
    → Walked by functions inner (λ a. body_act a found.body inner (record { turns = left; locals = values_of found.params info args })) IsProperFlow cost e
    (record { turns = left; locals = values_of found.params info args }) own old new before now
    → Walked by functions levels (λ a. calls_on a f info args levels (record { turns = turns; locals = locals })) IsProperValue 0 (called_ending e)
    (record { turns = turns; locals = locals }) (record { turns = own.turns; locals = locals }) old new before now
walked_called by functions f found info args levels inner turns left cost locals e own old new before now at deep counted cheap proper one =
    let count : new.world.count + own.turns * 2097152 ≤ old.world.count + cost + left * 2097152 = one.count in
    let fewer : own.turns ≤ left = one.fewer in
    record {
      same = one.same;
      fewer = omega arith;
      count = omega arith;
      proper = proper_called by e one.proper;
      locals = proper;
      comes = λ more enough. came_called by.plan by.limit functions f found info args more levels inner turns left locals e own old new before now at deep
          counted enough one.comes;
    }

pub called_stopped : (why : Stop) → called_ending (stopped why) ≡ stopped why
called_stopped (stop.Fault f) = refl
called_stopped stop.Memory = refl

-- a turn was counted, and no level is left
pub walked_deep : {H : Type 0} (by : Teller) (functions : List FunctionCode) (f : ℕ) (info : Arguments) (args : List Value) (levels turns left : ℕ)
    (locals : List Value) (m : Told) (before : H → List Asked → Type 0)
    → turns ≡ suc left → levels ≡ 0 → m.world.by ≡ by → AreProper by locals
    → Walked by functions levels (λ a. calls_on a f info args levels (record { turns = turns; locals = locals })) IsProperValue 0 (Some (Fails Depth))
    (record { turns = turns; locals = locals }) (record { turns = left; locals = locals }) m m before before
walked_deep {H = H} by functions f info args levels turns left locals m before counted deep same proper = record {
  same = same;
  fewer = omega arith;
  count = omega arith;
  proper = tt;
  locals = proper;
  comes = λ more enough.
      subst (λ n. Came by.plan (calls_on (around_of by.plan by.limit functions more) f info args levels (record { turns = n; locals = locals }))
      (Some (Fails Depth)) (record { turns = left; locals = locals }) m m before before) (sym counted)
      (subst (λ n. Came by.plan (within n (record { turns = left; locals = locals })
      (λ deeper. bind ((around_of by.plan by.limit functions more).calls f info args deeper left) (back_in (record { turns = left; locals = locals }))))
      (Some (Fails Depth)) (record { turns = left; locals = locals }) m m before before) (sym deep)
      (came_none by.plan (Fails Depth) (record { turns = left; locals = locals }) m before));
}

-- a function's body may be walked, for a turn
pub ready_body : (code : Code) (t : Tale) (s : Frame) (f : FunctionCode) (left : ℕ) (locals : List Value)
    → IsReady code t [] 0 s → s.turns ≡ suc left → IsBody t.by.plan t.by.limit f → AreProper t.by locals
    → IsReady code t (steps_uses f.body) (steps_cost f.body) (record { turns = left; locals = locals })
ready_body code t s f left locals ready counted body proper =
    let room : t.count + 0 + s.turns * 2097152 < 2 ^ 60 = ready.room in
    let few : steps_cost f.body ≤ 2097152 = body.cost in
    record { world = ready.world; fits = body.fits; cheap = few; room = omega arith; proper = proper }
