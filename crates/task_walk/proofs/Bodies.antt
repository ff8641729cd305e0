-- The body of a function that is called.
use Rattle.std.proofs.Common.{◌≡◌, ℕ, zero, suc, ◌<◌, List, [], ◌∷◌, length, get_or, map, sum, flat_map, Option, Some, None, refl, ap, sym, ◌∙◌}
use Rattle.std.proofs.Common.{subst, arith}
use Rattle.std.specs.List.{AllByRecursion}
use Rattle.std.proofs.lemmas.Option.{slice_get_read}
use Rattle.dyn_value.specs.declared.fault.Fault.TheVariants.{Turns, Depth}
use Rattle.dyn_value.specs.declared.value.Value.{Value}
use Rattle.standard_binders.specs.Arguments.{Arguments}
use Rattle.task_code.specs.declared.code.FunctionCode.{FunctionCode}
use Rattle.task_code.specs.declared.code.Step.{Step}
use Rattle.task_code.specs.declared.frame.Flow.{Flow}
use Rattle.task_code.specs.declared.frame.Frame.{Frame}
use Rattle.task_code.specs.Acts.{Ending, Gives, Fails, bind, within, values_of}
use Rattle.task_code.specs.Codes.{step_act, steps_act, calls_on, back_in}
use Rattle.task_code.specs.Costs.{step_cost, step_uses, steps_cost, steps_uses}
use Rattle.task_code.specs.Fits.{Fits}
use Rattle.task_walk.specs.declared.code.Code.{Code}
use Rattle.task_walk.specs.declared.stop.Stop.{Stop}
use Rattle.task_walk.specs.Comings.{Told}
use Rattle.task_walk.specs.Tales.{Teller, Tale, Asked, AreProper, IsProperValue}
use Rattle.task_walk.specs.Walks.{stopped, IsReady, IsBody, IsProperFlow, Walked}
use Rattle.task_walk.proofs.Calling.{called_ending, walked_called, called_stopped, walked_deep, ready_body}
use Rattle.task_walk.proofs.Forms.{cost-steps}
use Rattle.task_walk.proofs.Loops.{walked_turns}
use Rattle.task_walk.proofs.Nodes.{body_walked, fits_steps}
use Rattle.task_walk.proofs.Walkings.{walked_lost, ready_part}

pub all_at : {X : Type 0} (P : X → Type 0) (xs : List X) (i : ℕ) (x : X) → i < length xs → x ≡ get_or xs i x → AllByRecursion P xs → P x
all_at P [] i x less is all = absurd (omega arith)
all_at P (y ∷ ys) zero x less is all = subst P (sym is) all.0
all_at P (y ∷ ys) (suc i) x less is all = all_at P ys i x (omega arith) is all.1

-- the statements of a function may be executed, for a turn
pub ready_called : (code : Code) (t : Tale) (s : Frame) (f : ℕ) (found : FunctionCode) (xs : List Step) (left : ℕ) (locals : List Value)
    → IsReady code t [] 0 s → s.turns ≡ suc left → f < length code.functions.now → found ≡ get_or code.functions.now f found → xs ≡ found.body.0
    → AreProper t.by locals
    → IsReady code t (flat_map step_uses xs) (sum (map step_cost xs)) (record { turns = left; locals = locals })
ready_called code t s f found xs left locals ready counted less at is proper =
    let body : IsBody t.by.plan t.by.limit found = all_at (IsBody t.by.plan t.by.limit) code.functions.now f found less at ready.world.bodies in
    let whole : IsReady code t (steps_uses found.body) (steps_cost found.body) (record { turns = left; locals = locals }) = ready_body code t s found left
    locals ready counted body proper in
    ready_part code (steps_uses found.body) (flat_map step_uses xs) (steps_cost found.body) (sum (map step_cost xs))
    (record { turns = left; locals = locals }) t whole
    (subst (λ ys. Fits t.by.plan t.by.limit (flat_map step_uses ys)) (sym is) (fits_steps t.by.plan t.by.limit found.body whole.fits))
    (omega (arith, cost-steps found.body, ap (λ ys. sum (map step_cost ys)) is))

-- a function was called
pub call_ended : {H : Type 0} (code : Code) (by : Teller) (f : ℕ) (found : FunctionCode) (xs : List Step) (info : Arguments) (args placed : List Value)
    (levels inner turns left : ℕ) (locals : List Value)
    (e : Option (Ending Flow)) (own : Frame) (old new : Told) (before now : H → List Asked → Type 0)
    → AllByRecursion (IsBody by.plan by.limit) code.functions.now → f < length code.functions.now → found ≡ get_or code.functions.now f found
    → xs ≡ found.body.0
    → placed ≡ values_of found.params info args → levels ≡ suc inner → turns ≡ suc left → AreProper by locals
    → Walked by code.functions.now inner (λ a. steps_act (map (step_act a) xs) inner (record { turns = left; locals = placed })) IsProperFlow
    (sum (map step_cost xs)) e (record { turns = left; locals = placed }) own old new before now
    → Walked by code.functions.now levels (λ a. calls_on a f info args levels (record { turns = turns; locals = locals })) IsProperValue 0 (called_ending e)
    (record { turns = turns; locals = locals }) (record { turns = own.turns; locals = locals }) old new before now
call_ended {H = H} code by f found xs info args placed levels inner turns left locals e own old new before now bodies less at is set deep counted proper one =
    let body : IsBody by.plan by.limit found = all_at (IsBody by.plan by.limit) code.functions.now f found less at bodies in
    let there : Walked by code.functions.now inner (λ a. steps_act (map (step_act a) found.body.0) inner
    (record { turns = left; locals = values_of found.params info args })) IsProperFlow (sum (map step_cost found.body.0)) e
    (record { turns = left; locals = values_of found.params info args }) own old new before now =
    subst (λ ys. Walked {H = H} by code.functions.now inner (λ a. steps_act (map (step_act a) ys) inner
    (record { turns = left; locals = values_of found.params info args })) IsProperFlow (sum (map step_cost ys)) e
    (record { turns = left; locals = values_of found.params info args }) own old new before now) is
    (subst (λ (vs : List Value). Walked {H = H} by code.functions.now inner (λ a. steps_act (map (step_act a) xs) inner
    (record { turns = left; locals = vs })) IsProperFlow (sum (map step_cost xs)) e
    (record { turns = left; locals = vs }) own old new before now) set one) in
    walked_called by code.functions.now f found info args levels inner turns left (steps_cost found.body) locals e own old new before now
    (slice_get_read code.functions.now (length code.functions.now) f found refl less at) deep counted body.cost proper
    (body_walked by code.functions.now inner found.body IsProperFlow e (record { turns = left; locals = values_of found.params info args }) own old new before
    now there)

-- a call, by what came of the statements of its function
pub call_whole : {H : Type 0} (code : Code) (f : ℕ) (found : FunctionCode) (params : List (List ℕ)) (xs : List Step) (info : Arguments)
    (args placed : List Value) (levels inner left : ℕ) (s : Frame)
    (e : Option (Ending Flow)) (own : Frame) (old new : Told) (before now : H → List Asked → Type 0)
    → IsReady code old.world [] 0 s → f < length code.functions.now → found ≡ get_or code.functions.now f found → params ≡ found.params → xs ≡ found.body.0
    → placed ≡ values_of params info args → levels ≡ suc inner → s.turns ≡ suc left
    → Walked old.world.by code.functions.now inner (λ a. steps_act (map (step_act a) xs) inner (record { turns = left; locals = placed })) IsProperFlow
    (sum (map step_cost xs)) e (record { turns = left; locals = placed }) own old new before now
    → Walked old.world.by code.functions.now levels (λ a. calls_on a f info args levels s) IsProperValue 0 (called_ending e) s
    (record { turns = own.turns; locals = s.locals }) old new before now
call_whole code f found params xs info args placed levels inner left s e own old new before now ready less at named is set deep counted one =
    call_ended code old.world.by f found xs info args placed levels inner s.turns left s.locals e own old new before now ready.world.bodies less at is
    (set ∙ ap (λ (ps : List (List ℕ)). values_of ps info args) named) deep counted ready.proper one

pub call_gave : {H : Type 0} (code : Code) (f : ℕ) (found : FunctionCode) (params : List (List ℕ)) (xs : List Step) (info : Arguments)
    (args placed : List Value) (levels inner left : ℕ) (s : Frame)
    (flow w : Flow) (own : Frame) (old new : Told) (before now : H → List Asked → Type 0)
    → IsReady code old.world [] 0 s → f < length code.functions.now → found ≡ get_or code.functions.now f found → params ≡ found.params → xs ≡ found.body.0
    → placed ≡ values_of params info args → levels ≡ suc inner → s.turns ≡ suc left
    → Walked old.world.by code.functions.now inner (λ a. steps_act (map (step_act a) xs) inner (record { turns = left; locals = placed })) IsProperFlow
    (sum (map step_cost xs)) (Some (Gives flow))
    (record { turns = left; locals = placed }) own old new before now
    → flow ≡ w
    → Walked old.world.by code.functions.now levels (λ a. calls_on a f info args levels s) IsProperValue 0 (called_ending (Some (Gives w))) s
    (record { turns = own.turns; locals = s.locals }) old new before now
call_gave {H = H} code f found params xs info args placed levels inner left s flow w own old new before now ready less at named is set deep counted one ended
    =
    subst (λ (v : Flow). Walked {H = H} old.world.by code.functions.now levels (λ a. calls_on a f info args levels s) IsProperValue 0
    (called_ending (Some (Gives v))) s (record { turns = own.turns; locals = s.locals }) old new before now) ended
    (call_whole code f found params xs info args placed levels inner left s (Some (Gives flow)) own old new before now ready less at named is set deep counted
    one)

pub call_stopped : {H : Type 0} (why : Stop) (code : Code) (f : ℕ) (found : FunctionCode) (params : List (List ℕ)) (xs : List Step) (info : Arguments)
    (args placed : List Value) (levels inner left : ℕ) (s : Frame)
    (own : Frame) (old new : Told) (before now : H → List Asked → Type 0)
    → IsReady code old.world [] 0 s → f < length code.functions.now → found ≡ get_or code.functions.now f found → params ≡ found.params → xs ≡ found.body.0
    → placed ≡ values_of params info args → levels ≡ suc inner → s.turns ≡ suc left
    → Walked old.world.by code.functions.now inner (λ a. steps_act (map (step_act a) xs) inner (record { turns = left; locals = placed })) IsProperFlow
    (sum (map step_cost xs)) (stopped why)
    (record { turns = left; locals = placed }) own old new before now
    → Walked old.world.by code.functions.now levels (λ a. calls_on a f info args levels s) IsProperValue 0 (stopped why) s
    (record { turns = own.turns; locals = s.locals }) old new before now
call_stopped {H = H} why code f found params xs info args placed levels inner left s own old new before now ready less at named is set deep counted one =
    subst (λ (e : Option (Ending Value)). Walked {H = H} old.world.by code.functions.now levels (λ a. calls_on a f info args levels s) IsProperValue 0 e s
    (record { turns = own.turns; locals = s.locals }) old new before now) (called_stopped why)
    (call_whole code f found params xs info args placed levels inner left s (stopped why) own old new before now ready less at named is set deep counted one)

-- no turn is left
pub call_turnless : {H : Type 0} (by : Teller) (functions : List FunctionCode) (f : ℕ) (info : Arguments) (args : List Value) (levels : ℕ) (s : Frame)
    (m : Told) (before : H → List Asked → Type 0)
    → s.turns ≡ 0 → m.world.by ≡ by → AreProper by s.locals
    → Walked by functions levels (λ a. calls_on a f info args levels s) IsProperValue 0 (Some (Fails Turns)) s s m m before before
call_turnless by functions f info args levels s m before is same proper =
    walked_turns by functions levels (λ a after. within levels after (λ inner. bind (a.calls f info args inner after.turns) (back_in s))) IsProperValue 0
    s.turns s.locals m before is same proper

-- a turn was counted, and no level is left
pub call_deep : {H : Type 0} (by : Teller) (functions : List FunctionCode) (f : ℕ) (info : Arguments) (args : List Value) (levels left : ℕ) (s : Frame)
    (m : Told) (before : H → List Asked → Type 0)
    → s.turns ≡ suc left → levels ≡ 0 → m.world.by ≡ by → AreProper by s.locals
    → Walked by functions levels (λ a. calls_on a f info args levels s) IsProperValue 0 (Some (Fails Depth)) s (record { turns = left; locals = s.locals }) m
    m before before
call_deep by functions f info args levels left s m before counted deep same proper = walked_deep by functions f info args levels s.turns left s.locals m
    before counted deep same proper

-- a turn was counted, and memory is wanting for the locals
pub call_lost : {H : Type 0} (by : Teller) (functions : List FunctionCode) (f : ℕ) (info : Arguments) (args : List Value) (levels left : ℕ) (s : Frame)
    (m : Told) (before : H → List Asked → Type 0)
    → s.turns ≡ suc left → m.world.by ≡ by → AreProper by s.locals
    → Walked by functions levels (λ a. calls_on a f info args levels s) IsProperValue 0 None s (record { turns = left; locals = s.locals }) m m before before
call_lost by functions f info args levels left s m before counted same proper =
    walked_lost by functions levels (λ a. calls_on a f info args levels s) IsProperValue 0 s (record { turns = left; locals = s.locals }) m before same
    (omega arith) proper
