-- What an invocation does, by its outcome.
use Rattle.std.proofs.Common.{◌≡◌, ℕ, zero, suc, ◌+◌, ◌*◌, ◌^◌, ◌<◌, ◌≤◌, List, [], ◌∷◌, length, drop, Option, Some, None, refl, ap, sym, ◌∙◌, subst, arith}
use Rattle.std.specs.Prelude.{slice_get}
use Rattle.dyn_value.specs.declared.outcome.Outcome.{Outcome}
use Rattle.dyn_value.specs.declared.outcome.Outcome.TheVariants as outcome
use Rattle.dyn_value.specs.declared.value.Value.{Value}
use Rattle.standard_binders.specs.Arguments.{Arguments}
use Rattle.standard_binders.specs.Binders.{operand_count_of}
use Rattle.task_code.specs.declared.code.FunctionCode.{FunctionCode}
use Rattle.task_code.specs.declared.frame.Frame.{Frame}
use Rattle.task_code.specs.Acts.{Ending, Act, Ends, Asks, bind, within, values_of}
use Rattle.task_code.specs.Codes.{Plan, Around, around_of, binder_at, info_at, body_act, body_ends, function_act, calls_of, calls_on, counts, back_in}
use Rattle.task_code.specs.Codes.{invoked}
use Rattle.task_code.specs.Costs.{AtSite, Uses}
use Rattle.task_code.specs.Fits.{IsSite}
use Rattle.task_walk.specs.declared.code.Code.{Code}
use Rattle.task_walk.specs.Comings.{Told, told, Came}
use Rattle.task_walk.specs.Parts.{invokes_act}
use Rattle.task_walk.specs.Plans.{plan_of}
use Rattle.task_walk.specs.Tales.{Teller, Tale, Asked, asked, Answers, Onto, AreProper, IsProperAnswer, IsProperValue}
use Rattle.task_walk.specs.Walks.{IsFor, IsReady, IsProperEnding, Walked}
use Rattle.task_walk.proofs.Outcomes.{walked_by_outcome}
use Rattle.task_walk.proofs.Walkings.{walked_as, walked_end}

-- an act that is the same among the functions
pub walked_around : {A H : Type 0} (by : Teller) (functions : List FunctionCode) (levels : ℕ) (act other : Around → Act Frame A) (P : Teller → A → Type 0)
    (cost : ℕ) (ending : Option (Ending A))
    (first last : Frame) (old new : Told) (before now : H → List Asked → Type 0)
    → ((more : ℕ) → other (around_of by.plan by.limit functions more) ≡ act (around_of by.plan by.limit functions more))
    → Walked by functions levels other P cost ending first last old new before now
    → Walked by functions levels act P cost ending first last old new before now
walked_around by functions levels act other P cost ending first last old new before now is one = record {
  same = one.same;
  fewer = one.fewer;
  count = one.count;
  proper = one.proper;
  locals = one.locals;
  comes = λ more enough. subst (λ x. Came by.plan x ending last old new before now) (is more) (one.comes more enough);
}

function_alike : (a : Around) (o : Option FunctionCode) (info other : Arguments) (args : List Value) (levels turns : ℕ) → info.names ≡ other.names
    → function_act a o info args levels turns ≡ function_act a o other args levels turns
function_alike a None info other args levels turns is = refl
function_alike a (Some f) info other args levels turns is =
    ap (λ (names : List (List ℕ)). bind (body_act a f.body levels (record {
      turns = turns;
      locals = values_of f.params (record { count = 0; names = names })
          args;
    })) body_ends) is

calls_of_alike : (plan : Plan) (limit : ℕ) (functions : List FunctionCode) (more f : ℕ) (info other : Arguments) (args : List Value) (levels turns : ℕ)
    → info.names ≡ other.names
    → calls_of plan limit functions more f info args levels turns ≡ calls_of plan limit functions more f other args levels turns
calls_of_alike plan limit functions zero f info other args levels turns is = refl
calls_of_alike plan limit functions (suc more) f info other args levels turns is =
    function_alike (around_of plan limit functions more) (slice_get functions f) info other args levels turns is

-- a call is told apart by its names alone
pub calls_alike : (plan : Plan) (limit : ℕ) (functions : List FunctionCode) (more f : ℕ) (info other : Arguments) (args : List Value) (levels : ℕ) (s : Frame)
    → info.names ≡ other.names
    → calls_on (around_of plan limit functions more) f info args levels s ≡ calls_on (around_of plan limit functions more) f other args levels s
calls_alike plan limit functions more f info other args levels s is =
    λ i. counts s (λ after. within levels after (λ inner. bind (calls_of_alike plan limit functions more f info other args inner after.turns is i)
    (back_in s)))

-- the operation's outcome ends what asked for it
pub outcome_ended : {H : Type 0} (functions : List FunctionCode) (levels site : ℕ) (operands : List Value) (o : Outcome)
    (go : Around → Outcome → Act Frame Value) (cost : ℕ) (e : Ending Value) (s : Frame)
    (old middle : Tale) (lines : List (List ℕ)) (before during : H → List Asked → Type 0)
    → Answers site operands o old middle → Onto before during (asked site operands ∷ []) → IsProperAnswer old.by o → AreProper old.by s.locals
    → ((a : Around) → Ends e s ≡ go a o) → IsProperEnding (IsProperValue old.by) e → 1 ≤ cost
    → Walked old.by functions levels (λ a. Asks site (binder_at a.plan site) operands (go a)) IsProperValue cost (Some e) s s (told old lines)
    (told middle lines) before during
outcome_ended functions levels site operands o go cost e s old middle lines before during answers had answer locals is proper paid =
    let same : middle.by ≡ old.by = ap (λ (t : Tale). t.by) answers.tale in
    walked_by_outcome functions levels site operands o go IsProperValue 0 cost (Some e) s s old middle lines (told middle lines) before during during answers
    had answer locals
    (walked_as middle.by functions levels (λ a. go a o) (λ a. Ends e s) IsProperValue 0 0 (Some e) s s (told middle lines) (told middle lines) during during
    is (omega arith)
    (walked_end middle.by functions levels IsProperValue 0 e s (told middle lines) during refl
    (subst (λ b. IsProperEnding (IsProperValue b) e) (sym same) proper) (subst (λ b. AreProper b s.locals) (sym same) locals))) (omega arith)

pub invoke_called : {H : Type 0} (functions : List FunctionCode) (levels site : ℕ) (operands : List Value) (o : Outcome) (f : ℕ) (names : List (List ℕ))
    (args : List Value) (ending : Option (Ending Value)) (s last : Frame)
    (old middle : Tale) (lines : List (List ℕ)) (new : Told) (before during now : H → List Asked → Type 0)
    → Answers site operands o old middle → Onto before during (asked site operands ∷ []) → IsProperAnswer old.by o → AreProper old.by s.locals
    → o ≡ outcome.Call f → names ≡ (info_at old.by.plan site).names → args ≡ drop 1 operands
    → Walked middle.by functions levels (λ a. calls_on a f (record { count = length args; names = names }) args levels s) IsProperValue 0 ending s last
    (told middle lines) new during now
    → Walked old.by functions levels (λ a. invokes_act a site operands levels s) IsProperValue 1 ending s last (told old lines) new before now
invoke_called functions levels site operands o f names args ending s last old middle lines new before during now answers had answer locals is named rest one =
    let same : middle.by ≡ old.by = ap (λ (t : Tale). t.by) answers.tale in
    let named_there : names ≡ (info_at middle.by.plan site).names = named ∙ ap (λ (b : Teller). (info_at b.plan site).names) (sym same) in
    walked_by_outcome functions levels site operands o (λ a. invoked a (info_at a.plan site) (drop 1 operands) levels s) IsProperValue 0 1 ending s last old
    middle lines new before during now answers had answer locals
    (walked_around middle.by functions levels (λ a. invoked a (info_at a.plan site) (drop 1 operands) levels s o)
    (λ a. calls_on a f (record { count = length args; names = names }) args levels s)
    IsProperValue 0 ending s last (told middle lines) new during now
    (λ more. calls_alike middle.by.plan middle.by.limit functions more f (record { count = length args; names = names }) (info_at middle.by.plan site) args
    levels s named_there
    ∙ ap (λ vs. calls_on (around_of middle.by.plan middle.by.limit functions more) f (info_at middle.by.plan site) vs levels s) rest
    ∙ ap (λ w. invoked (around_of middle.by.plan middle.by.limit functions more) (info_at middle.by.plan site) (drop 1 operands) levels s w) (sym is)) one)
    (omega arith)

-- what is left of the count after an answer
pub ready_answered : (code : Code) (uses : Uses) (cost rest : ℕ) (s : Frame) (old new : Tale) (site : ℕ) (operands : List Value) (o : Outcome)
    → IsReady code old uses cost s → Answers site operands o old new → 1 + rest ≤ cost → IsReady code new [] rest s
ready_answered code uses cost rest s old new site operands o ready answers paid =
    let counted : new.count ≡ old.count + 1 = ap (λ (t : Tale). t.count) answers.tale in
    let same : new.by ≡ old.by = ap (λ (t : Tale). t.by) answers.tale in
    let room : old.count + cost + s.turns * 2097152 < 2 ^ 60 = ready.room in
    let few : cost ≤ 2097152 = ready.cheap in
    record {
      world = subst (λ b. IsFor code b) (sym same) ready.world;
      fits = tt;
      cheap = omega arith;
      room = omega arith;
      proper = subst (λ b. AreProper b s.locals) (sym same) ready.proper;
    }

-- the site of an operation, of the code's plan
pub site_here : (code : Code) (t : Tale) (site n cost : ℕ) (s : Frame) → IsReady code t (AtSite site n ∷ []) cost s
    → IsSite (plan_of code) site (operand_count_of (binder_at (plan_of code) site))
site_here code t site n cost s ready =
    let there : IsSite t.by.plan site (operand_count_of (binder_at t.by.plan site)) =
    record { inside = ready.fits.0.inside; known = ready.fits.0.known; operands = refl } in
    subst (λ p. IsSite p site (operand_count_of (binder_at p site))) ready.world.plan there
