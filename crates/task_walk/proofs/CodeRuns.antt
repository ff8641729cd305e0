-- What the run of a task's code comes to, by what its statements came to.
use Rattle.std.proofs.Common.{◌≡◌, ℕ, ◌+◌, ◌*◌, ◌^◌, ◌<◌, ◌≤◌, List, [], map, sum, flat_map, Option, Some, None, sym, ap, subst, arith}
use Rattle.std.specs.Option.{option_map}
use Rattle.dyn_value.specs.declared.value.Value.{Value}
use Rattle.task_code.specs.declared.code.Step.{Step}
use Rattle.task_code.specs.declared.code.Steps.{Steps}
use Rattle.task_code.specs.declared.frame.Flow.{Flow}
use Rattle.task_code.specs.declared.frame.Frame.{Frame}
use Rattle.task_code.specs.Acts.{Ending, Act, Ends}
use Rattle.task_code.specs.Codes.{Plan, around_of, step_act, steps_act, task_code_act}
use Rattle.task_code.specs.Costs.{step_cost, step_uses, steps_cost, steps_uses}
use Rattle.task_code.specs.Fits.{Fits}
use Rattle.task_walk.specs.declared.code.Code.{Code}
use Rattle.task_walk.specs.Comings.{Told, Came}
use Rattle.task_walk.specs.Deeds.{deeds_of, forgotten}
use Rattle.task_walk.specs.Tales.{Tale, Asked}
use Rattle.task_walk.specs.Walks.{IsFor, IsReady, IsProperFlow, Walked}
use Rattle.task_walk.proofs.Comings.{came_bind, came_lost, came_none}
use Rattle.task_walk.proofs.Forms.{act-steps, cost-steps}
use Rattle.task_walk.proofs.Nodes.{fits_steps}

-- where a task begins
abbrev pub begin : ℕ → Frame
begin turns = record { turns = turns; locals = [] }

-- a task may begin
pub ready_task : (code : Code) (b : Steps) (xs : List Step) (turns : ℕ) (locals : List Value) (t : Tale) → xs ≡ b.0 → locals ≡ []
    → IsFor code t.by → Fits t.by.plan t.by.limit (steps_uses b) → steps_cost b ≤ 2097152 → t.count < 2 ^ 59 → turns < 2 ^ 32
    → IsReady code t (flat_map step_uses xs) (sum (map step_cost xs)) (record { turns = turns; locals = locals })
ready_task code b xs turns locals t is none world fits cheap few short =
    subst (λ vs. IsReady code t (flat_map step_uses xs) (sum (map step_cost xs)) (record { turns = turns; locals = vs })) (sym none)
    (subst (λ ys. IsReady code t (flat_map step_uses ys) (sum (map step_cost ys)) (begin turns)) (sym is)
    (record {
      world = world;
      fits = fits_steps t.by.plan t.by.limit b fits;
      cheap = omega (arith, cost-steps b);
      room = omega (arith, cost-steps b);
      proper =
          tt;
    }))

deeds_came : {H : Type 0} (plan : Plan) (act : Act Frame Flow) (ending : Option (Ending Flow)) (last : Frame) (old new : Told)
    (before now : H → List Asked → Type 0)
    → Came plan act ending last old new before now → Came plan (deeds_of act) (option_map forgotten ending) tt old new before now
deeds_came plan act (Some e) last old new before now came =
    came_bind plan act (λ d s. Ends (forgotten d) tt) e last (Some (forgotten e)) tt old new new before now now came (came_none plan (forgotten e) tt new now)
deeds_came plan act None last old new before now came = came_lost plan act (deeds_of act) last tt old new before now came

-- a task's acts are what its statements came to
pub task_came : {H : Type 0} (code : Code) (b : Steps) (xs : List Step) (turns cost : ℕ) (locals : List Value) (ending : Option (Ending Flow)) (last : Frame)
    (old new : Told) (before now : H → List Asked → Type 0)
    → xs ≡ b.0 → locals ≡ []
    → Walked old.world.by code.functions.now 256 (λ a. steps_act (map (step_act a) xs) 256 (record { turns = turns; locals = locals })) IsProperFlow cost
    ending
    (record { turns = turns; locals = locals }) last old new before now
    → Came old.world.by.plan (deeds_of (task_code_act old.world.by.plan old.world.by.limit code.functions.now b turns)) (option_map forgotten ending) tt old
    new before now
task_came code b xs turns cost locals ending last old new before now is none one =
    let around = around_of old.world.by.plan old.world.by.limit code.functions.now 256 in
    deeds_came old.world.by.plan (task_code_act old.world.by.plan old.world.by.limit code.functions.now b turns) ending last old new before now
    (subst (λ f. Came old.world.by.plan (f 256 (begin turns)) ending last old new before now) (sym (act-steps around b))
    (subst (λ ys. Came old.world.by.plan (steps_act (map (step_act around) ys) 256 (begin turns)) ending last old new before now) is
    (subst (λ vs. Came old.world.by.plan (steps_act (map (step_act around) xs) 256 (record { turns = turns; locals = vs })) ending last old new before now)
    none (one.comes 256 (omega arith)))))

-- memory is wanting to end
pub task_lost : {H : Type 0} (code : Code) (b : Steps) (xs : List Step) (turns cost levels : ℕ) (ending : Option (Ending Flow)) (first last : Frame)
    (old new : Told) (before now : H → List Asked → Type 0)
    → Walked old.world.by code.functions.now levels (λ a. steps_act (map (step_act a) xs) levels first) IsProperFlow cost ending first last old new before now
    → Came old.world.by.plan (deeds_of (task_code_act old.world.by.plan old.world.by.limit code.functions.now b turns)) None tt old new before now
task_lost code b xs turns cost levels ending first last old new before now one =
    let came = one.comes levels (omega arith) in
    record { events = came.events; is = came.is; does = tt; asked = came.asked }

-- and it asked few operations
pub task_counted : (old new cost turns left : ℕ) → new + left * 2097152 ≤ old + cost + turns * 2097152 → cost ≤ 2097152 → new ≤ old + (turns + 1) * 2097152
task_counted old new cost turns left counted cheap = omega arith

pub block_cheap : (b : Steps) (xs : List Step) → xs ≡ b.0 → steps_cost b ≤ 2097152 → sum (map step_cost xs) ≤ 2097152
block_cheap b xs is cheap = omega (arith, cost-steps b, ap (λ ys. sum (map step_cost ys)) is)
