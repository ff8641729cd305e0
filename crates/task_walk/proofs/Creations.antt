-- What the making of an object by a function does, by its outcome.
use Rattle.std.proofs.Common.{◌≡◌, ℕ, ◌<◌, List, [], ◌∷◌, length, drop, Option, Some, refl, ap, sym, ◌∙◌, subst, arith}
use Rattle.std.specs.Prelude.{slice_set}
use Rattle.dyn_value.specs.declared.outcome.Outcome.{Outcome}
use Rattle.dyn_value.specs.declared.outcome.Outcome.TheVariants as outcome
use Rattle.dyn_value.specs.declared.value.Value.{Value}
use Rattle.dyn_value.specs.declared.value.Value.TheVariants as value
use Rattle.task_code.specs.declared.code.FunctionCode.{FunctionCode}
use Rattle.task_code.specs.declared.frame.Frame.{Frame}
use Rattle.task_code.specs.Acts.{Ending, Gives, Act, gives, and_then, with_object}
use Rattle.task_code.specs.Codes.{Around, around_of, info_at, calls_on, created}
use Rattle.task_walk.specs.declared.code.Code.{Code}
use Rattle.task_walk.specs.declared.stop.Stop.{Stop}
use Rattle.task_walk.specs.Comings.{Told, told}
use Rattle.task_walk.specs.Parts.{draws, creates_act, IsProperNumber}
use Rattle.task_walk.specs.Tales.{Teller, Tale, Asked, asked, Answers, Onto, AreProper, IsProperAnswer, IsProperValue}
use Rattle.task_walk.specs.Walks.{stopped, IsReady, Walked}
use Rattle.task_walk.proofs.Drawings.{draws_alike}
use Rattle.task_walk.proofs.Invocations.{walked_around, calls_alike}
use Rattle.task_walk.proofs.Outcomes.{walked_by_outcome}
use Rattle.task_walk.proofs.Walkings.{walked_as, walked_then, walked_end, walked_stopped, ready_after}

-- the new object stands before the arguments
abbrev pub drawn_calls : Around → ℕ → ℕ → List Value → ℕ → Frame → ℕ → Act Frame Value
drawn_calls a site f operands levels s n =
    and_then (calls_on a f (with_object (info_at a.plan site)) (value.Obj n ∷ drop 1 operands) levels s) (λ v after. gives (value.Obj n) after)

made : {H : Type 0} (functions : List FunctionCode) (levels site : ℕ) (operands : List Value) (o : Outcome) (f : ℕ) (ending : Option (Ending Value))
    (s last : Frame)
    (old middle : Tale) (lines : List (List ℕ)) (new : Told) (before during now : H → List Asked → Type 0)
    → Answers site operands o old middle → Onto before during (asked site operands ∷ []) → IsProperAnswer old.by o → AreProper old.by s.locals
    → o ≡ outcome.Make f
    → Walked middle.by functions levels (λ a. and_then (draws a.limit s) (λ n after. drawn_calls a site f operands levels s n)) IsProperValue 1 ending s last
    (told middle lines) new during now
    → Walked old.by functions levels (λ a. creates_act a site operands levels s) IsProperValue 2 ending s last (told old lines) new before now
made functions levels site operands o f ending s last old middle lines new before during now answers had answer locals is one =
    walked_by_outcome functions levels site operands o (λ a. created a (info_at a.plan site) (drop 1 operands) levels s) IsProperValue 1 2 ending s last old
    middle lines new before during now answers had answer locals
    (walked_as middle.by functions levels (λ a. created a (info_at a.plan site) (drop 1 operands) levels s o)
    (λ a. and_then (draws a.limit s) (λ n after. drawn_calls a site f operands levels s n))
    IsProperValue 1 1 ending s last (told middle lines) new during now
    (λ a. draws_alike a.limit s (drawn_calls a site f operands levels s) ∙ ap (λ w. created a (info_at a.plan site) (drop 1 operands) levels s w) (sym is))
    (omega arith) one) (omega arith)

pub draw_stopped : {H : Type 0} (why : Stop) (functions : List FunctionCode) (levels site : ℕ) (operands : List Value) (o : Outcome) (f : ℕ) (s last : Frame)
    (old middle : Tale) (lines : List (List ℕ)) (new : Told) (before during now : H → List Asked → Type 0)
    → Answers site operands o old middle → Onto before during (asked site operands ∷ []) → IsProperAnswer old.by o → AreProper old.by s.locals
    → o ≡ outcome.Make f
    → Walked middle.by functions levels (λ a. draws a.limit s) IsProperNumber 1 (stopped why) s last (told middle lines) new during now
    → Walked old.by functions levels (λ a. creates_act a site operands levels s) IsProperValue 2 (stopped why) s last (told old lines) new before now
draw_stopped why functions levels site operands o f s last old middle lines new before during now answers had answer locals is one =
    made functions levels site operands o f (stopped why) s last old middle lines new before during now answers had answer locals is
    (walked_stopped why middle.by functions levels (λ a. draws a.limit s) (λ a n after. drawn_calls a site f operands levels s n) IsProperNumber IsProperValue
    1 1 s last (told middle lines) new during now one (omega arith))

replaced_first : (operands : List Value) (v : Value) → 0 < length operands → slice_set operands 0 v ≡ v ∷ drop 1 operands
replaced_first [] v some = absurd (omega arith)
replaced_first (o ∷ os) v some = refl

-- the call of the function, with the object that was drawn
call_drawn : {H : Type 0} (by : Teller) (functions : List FunctionCode) (levels site : ℕ) (operands args : List Value) (f n : ℕ) (names : List (List ℕ))
    (ending : Option (Ending Value)) (s last : Frame)
    (old new : Told) (before now : H → List Asked → Type 0)
    → names ≡ (info_at by.plan site).names → args ≡ slice_set operands 0 (value.Obj n) → 0 < length operands
    → Walked by functions levels (λ a. calls_on a f (record { count = length args; names = names }) args levels s) IsProperValue 0 ending s last old new
    before now
    → Walked by functions levels (λ a. calls_on a f (with_object (info_at a.plan site)) (value.Obj n ∷ drop 1 operands) levels s) IsProperValue 0 ending s
    last old new before now
call_drawn by functions levels site operands args f n names ending s last old new before now named set some one =
    walked_around by functions levels (λ a. calls_on a f (with_object (info_at a.plan site)) (value.Obj n ∷ drop 1 operands) levels s)
    (λ a. calls_on a f (record { count = length args; names = names }) args levels s) IsProperValue 0 ending s last old new before now
    (λ more. calls_alike by.plan by.limit functions more f (record { count = length args; names = names }) (with_object (info_at by.plan site)) args levels s
    named
    ∙ ap (λ vs. calls_on (around_of by.plan by.limit functions more) f (with_object (info_at by.plan site)) vs levels s)
    (set ∙ replaced_first operands (value.Obj n) some)) one

pub create_stopped : {H : Type 0} (why : Stop) (functions : List FunctionCode) (levels site : ℕ) (operands args : List Value) (o : Outcome) (f n : ℕ)
    (names : List (List ℕ)) (s last : Frame)
    (old middle drawn : Tale) (lines : List (List ℕ)) (new : Told) (before during drawing now : H → List Asked → Type 0)
    → Answers site operands o old middle → Onto before during (asked site operands ∷ []) → IsProperAnswer old.by o → AreProper old.by s.locals
    → o ≡ outcome.Make f
    → Walked middle.by functions levels (λ a. draws a.limit s) IsProperNumber 1 (Some (Gives n)) s s (told middle lines) (told drawn lines) during drawing
    → names ≡ (info_at drawn.by.plan site).names → args ≡ slice_set operands 0 (value.Obj n) → 0 < length operands
    → Walked drawn.by functions levels (λ a. calls_on a f (record { count = length args; names = names }) args levels s) IsProperValue 0 (stopped why) s last
    (told drawn lines) new drawing now
    → Walked old.by functions levels (λ a. creates_act a site operands levels s) IsProperValue 2 (stopped why) s last (told old lines) new before now
create_stopped why functions levels site operands args o f n names s last old middle drawn lines new before during drawing now answers had answer locals is
    one named set some two =
    made functions levels site operands o f (stopped why) s last old middle lines new before during now answers had answer locals is
    (walked_then middle.by functions levels (λ a. draws a.limit s) (λ a k after. drawn_calls a site f operands levels s k) IsProperNumber IsProperValue 1 0 1
    n (stopped why) s s last
    (told middle lines) (told drawn lines) new during drawing now one
    (walked_stopped why drawn.by functions levels (λ a. calls_on a f (with_object (info_at a.plan site)) (value.Obj n ∷ drop 1 operands) levels s)
    (λ a v after. gives (value.Obj n) after) IsProperValue IsProperValue 0 0
    s last (told drawn lines) new drawing now
    (call_drawn drawn.by functions levels site operands args f n names (stopped why) s last (told drawn lines) new drawing now named set some two)
    (omega arith)) (omega arith))

pub create_whole : {H : Type 0} (functions : List FunctionCode) (levels site : ℕ) (operands args : List Value) (o : Outcome) (f n : ℕ) (v : Value)
    (names : List (List ℕ)) (s last : Frame)
    (old middle drawn : Tale) (lines : List (List ℕ)) (new : Told) (before during drawing now : H → List Asked → Type 0)
    → Answers site operands o old middle → Onto before during (asked site operands ∷ []) → IsProperAnswer old.by o → AreProper old.by s.locals
    → o ≡ outcome.Make f
    → Walked middle.by functions levels (λ a. draws a.limit s) IsProperNumber 1 (Some (Gives n)) s s (told middle lines) (told drawn lines) during drawing
    → names ≡ (info_at drawn.by.plan site).names → args ≡ slice_set operands 0 (value.Obj n) → 0 < length operands
    → Walked drawn.by functions levels (λ a. calls_on a f (record { count = length args; names = names }) args levels s) IsProperValue 0 (Some (Gives v)) s
    last (told drawn lines) new drawing now
    → Walked old.by functions levels (λ a. creates_act a site operands levels s) IsProperValue 2 (Some (Gives (value.Obj n))) s last (told old lines) new
    before now
create_whole functions levels site operands args o f n v names s last old middle drawn lines new before during drawing now answers had answer locals is one
    named set some two =
    let same_drawn : drawn.by ≡ middle.by = one.same in
    let same_new : new.world.by ≡ drawn.by = two.same in
    let object : IsProperValue new.world.by (value.Obj n) = subst (λ b. IsProperValue b (value.Obj n)) (sym (same_new ∙ same_drawn)) one.proper in
    made functions levels site operands o f (Some (Gives (value.Obj n))) s last old middle lines new before during now answers had answer locals is
    (walked_then middle.by functions levels (λ a. draws a.limit s) (λ a k after. drawn_calls a site f operands levels s k) IsProperNumber IsProperValue 1 0 1
    n (Some (Gives (value.Obj n))) s s last
    (told middle lines) (told drawn lines) new during drawing now one
    (walked_then drawn.by functions levels (λ a. calls_on a f (with_object (info_at a.plan site)) (value.Obj n ∷ drop 1 operands) levels s)
    (λ a w after. gives (value.Obj n) after) IsProperValue IsProperValue 0 0 0 v
    (Some (Gives (value.Obj n))) s last last (told drawn lines) new new drawing now now
    (call_drawn drawn.by functions levels site operands args f n names (Some (Gives v)) s last (told drawn lines) new drawing now named set some two)
    (walked_end new.world.by functions levels IsProperValue 0 (Gives (value.Obj n)) last new now refl object
    (subst (λ b. AreProper b last.locals) (sym same_new) two.locals)) (omega arith)) (omega arith))

-- nothing is left to be asked without a turn once the object is drawn
pub ready_drawn : {H : Type 0} (code : Code) (functions : List FunctionCode) (levels n : ℕ) (s : Frame) (old new : Told)
    (before now : H → List Asked → Type 0)
    → IsReady code old.world [] 1 s
    → Walked old.world.by functions levels (λ a. draws a.limit s) IsProperNumber 1 (Some (Gives n)) s s old new before now
    → IsReady code new.world [] 0 s
ready_drawn code functions levels n s old new before now ready one =
    ready_after code [] [] 1 1 0 functions levels (λ a. draws a.limit s) IsProperNumber (Some (Gives n)) s s old new before now ready one tt (omega arith)
