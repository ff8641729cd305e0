-- What the walk knows where it asks and calls.
use Rattle.std.proofs.Common.{◌≡◌, ℕ, zero, suc, ◌+◌, ◌*◌, ◌^◌, ◌<◌, List, [], ◌∷◌, length, drop, map, Bool, true, false, eqb, Some, refl}
use Rattle.std.proofs.Common.{ap, sym, ◌∙◌, subst, arith}
use Rattle.std.proofs.lemmas.Bool.{eqb-true}
use Rattle.std.proofs.lemmas.List.{length-map}
use Rattle.std.specs.Prelude.{slice_set}
use Rattle.dyn_value.specs.declared.outcome.Outcome.{Outcome}
use Rattle.dyn_value.specs.declared.outcome.Outcome.TheVariants as outcome
use Rattle.dyn_value.specs.declared.value.Value.{Value}
use Rattle.task_code.specs.declared.code.FunctionCode.{FunctionCode}
use Rattle.task_code.specs.declared.frame.Frame.{Frame}
use Rattle.task_code.specs.Acts.{Gives, Act}
use Rattle.task_code.specs.Codes.{Plan, Around, info_at}
use Rattle.task_code.specs.Costs.{AtSite, Uses}
use Rattle.task_code.specs.Fits.{IsSite}
use Rattle.task_walk.specs.declared.code.Code.{Code}
use Rattle.task_walk.specs.Comings.{Told}
use Rattle.task_walk.specs.Parts.{AreAfter}
use Rattle.task_walk.specs.Plans.{plan_of, params_in}
use Rattle.task_walk.specs.Tales.{Teller, Tale, Asked, asked, Answers, Onto, AreProper, IsProperAnswer, IsProperValue}
use Rattle.task_walk.specs.Walks.{IsReady, Walked}
use Rattle.task_walk.proofs.Placing.{all_left}
use Rattle.task_walk.proofs.Puts.{all_set}

pub few_asked : (code : Code) (t : Tale) (uses : Uses) (cost : ℕ) (s : Frame) → IsReady code t uses cost s → t.count < 2 ^ 60
few_asked code t uses cost s ready =
    let room : t.count + cost + s.turns * 2097152 < 2 ^ 60 = ready.room in
    let few : t.count < 2 ^ 60 = omega arith in
    few

pub site_there : (code : Code) (t : Tale) (site cost : ℕ) (operands xs : List Value) (s : Frame) → xs ≡ operands
    → IsReady code t (AtSite site (length operands) ∷ []) cost s → IsSite t.by.plan site (length xs)
site_there code t site cost operands xs s is ready = subst (λ n. IsSite t.by.plan site n) (sym (ap length is)) ready.fits.0

pub proper_there : (by : Teller) (operands xs : List Value) → xs ≡ operands → AreProper by operands → AreProper by xs
proper_there by operands xs is proper = subst (AreProper by) (sym is) proper

pub answers_same : (site : ℕ) (operands xs : List Value) (o : Outcome) (old new : Tale) → xs ≡ operands → Answers site xs o old new
    → Answers site operands o old new
answers_same site operands xs o old new is answers = subst (λ us. Answers site us o old new) is answers

pub onto_same : {H : Type 0} (site : ℕ) (operands xs : List Value) (before now : H → List Asked → Type 0) → xs ≡ operands
    → Onto before now (asked site xs ∷ []) → Onto before now (asked site operands ∷ [])
onto_same site operands xs before now is had = subst (λ us. Onto before now (asked site us ∷ [])) is had

functions_there : (code : Code) (t : Tale) (uses : Uses) (cost f : ℕ) (s : Frame) → IsReady code t uses cost s → f < length t.by.plan.functions
    → f < length code.functions.now
functions_there code t uses cost f s ready less =
    let there : f < length (map params_in code.functions.now) = subst (λ (p : Plan). f < length p.functions) ready.world.plan less in
    omega (arith, there, length-map code.functions.now params_in)

pub function_called : (code : Code) (t : Tale) (uses : Uses) (cost : ℕ) (s : Frame) (o : Outcome) (f : ℕ) → IsReady code t uses cost s → IsProperAnswer t.by o
    → o ≡ outcome.Call f → f < length code.functions.now
function_called code t uses cost s o f ready proper is = functions_there code t uses cost f s ready (subst (IsProperAnswer t.by) is proper)

pub function_made : (code : Code) (t : Tale) (uses : Uses) (cost : ℕ) (s : Frame) (o : Outcome) (f : ℕ) → IsReady code t uses cost s → IsProperAnswer t.by o
    → o ≡ outcome.Make f → f < length code.functions.now
function_made code t uses cost s o f ready proper is = functions_there code t uses cost f s ready (subst (IsProperAnswer t.by) is proper)

same_teller : (site : ℕ) (xs : List Value) (o : Outcome) (old new : Tale) → Answers site xs o old new → new.by ≡ old.by
same_teller site xs o old new answers = ap (λ (t : Tale). t.by) answers.tale

pub args_left : (site : ℕ) (operands xs vs args : List Value) (o : Outcome) (old new : Tale) → Answers site xs o old new → AreProper old.by operands
    → vs ≡ operands → args ≡ drop 1 vs → AreProper new.by args
args_left site operands xs vs args o old new answers proper is rest =
    subst (AreProper new.by) (sym (rest ∙ ap (drop 1) is)) (all_left (IsProperValue new.by) 1 operands
    (subst (λ b. AreProper b operands) (sym (same_teller site xs o old new answers)) proper))

pub names_there : (code : Code) (t : Tale) (site : ℕ) (names : List (List ℕ)) → t.by.plan ≡ plan_of code → names ≡ (info_at (plan_of code) site).names
    → names ≡ (info_at t.by.plan site).names
names_there code t site names plan named = named ∙ ap (λ (p : Plan). (info_at p site).names) (sym plan)

-- operands of which the first was replaced
pub replaced_some : (operands new : List Value) (v : Value) → 0 < length operands → new ≡ slice_set operands 0 v → 0 < length new
replaced_some [] new v some is = absurd (omega arith)
replaced_some (o ∷ os) new v some is = omega (arith, ap length is)

pub replaced_proper : (by : Teller) (operands new : List Value) (v : Value) → AreProper by operands → IsProperValue by v → new ≡ slice_set operands 0 v
    → AreProper by new
replaced_proper by operands new v proper here is = subst (AreProper by) (sym is) (all_set (IsProperValue by) operands 0 v proper here)

replaced_length : (operands : List Value) (v : Value) → length (slice_set operands 0 v) ≡ length operands
replaced_length [] v = refl
replaced_length (o ∷ os) v = refl

pub ready_replaced : (code : Code) (t : Tale) (site cost : ℕ) (operands new : List Value) (v : Value) (s : Frame) → new ≡ slice_set operands 0 v
    → IsReady code t (AtSite site (length operands) ∷ []) cost s → IsReady code t (AtSite site (length new) ∷ []) cost s
ready_replaced code t site cost operands new v s is ready = subst (λ n. IsReady code t (AtSite site n ∷ []) cost s)
    (sym (ap length is ∙ replaced_length operands v)) ready

pub ready_same : (code : Code) (t : Tale) (site cost : ℕ) (operands xs : List Value) (s : Frame) → xs ≡ operands
    → IsReady code t (AtSite site (length operands) ∷ []) cost s → IsReady code t (AtSite site (length xs) ∷ []) cost s
ready_same code t site cost operands xs s is ready = subst (λ n. IsReady code t (AtSite site n ∷ []) cost s) (sym (ap length is)) ready

-- the site after a member's
pub next_site : (code : Code) (t : Tale) (site n : ℕ) (s : Frame) → IsReady code t (AtSite site n ∷ AtSite (suc site) n ∷ []) 2 s → site + 1 < 2 ^ 32
next_site code t site n s ready =
    let inside : suc site < length t.by.plan.sites = ready.fits.1.0.inside in
    omega (arith, inside, ready.world.sites)

-- the operands of a call
pub called_some : {H : Type 0} (by : Teller) (functions : List FunctionCode) (levels : ℕ) (act : Around → Act Frame (List Value)) (cost : ℕ)
    (done : List Value) (v : Value) (count : ℕ) (operands : List Value)
    (first last : Frame) (old new : Told) (before now : H → List Asked → Type 0)
    → done ≡ v ∷ []
    → Walked by functions levels act (AreAfter done count) cost (Some (Gives operands)) first last old new before now → 0 < length operands
called_some by functions levels act cost done v count operands first last old new before now is one = omega (arith, one.proper.0.0, ap length is)

pub called_proper : {H : Type 0} (by : Teller) (functions : List FunctionCode) (levels : ℕ) (act : Around → Act Frame (List Value)) (cost : ℕ)
    (done : List Value) (count : ℕ) (operands : List Value)
    (first last : Frame) (old new : Told) (before now : H → List Asked → Type 0)
    → Walked by functions levels act (AreAfter done count) cost (Some (Gives operands)) first last old new before now → AreProper new.world.by operands
called_proper by functions levels act cost done count operands first last old new before now one = subst (λ b. AreProper b operands) (sym one.same)
    one.proper.0.1

-- values stay proper over a part
pub kept_proper : {A H : Type 0} (by : Teller) (functions : List FunctionCode) (levels : ℕ) (act : Around → Act Frame A) (P : Teller → A → Type 0) (cost : ℕ)
    (v : A) (operands : List Value)
    (first last : Frame) (old new : Told) (before now : H → List Asked → Type 0)
    → Walked by functions levels act P cost (Some (Gives v)) first last old new before now → AreProper by operands → AreProper new.world.by operands
kept_proper by functions levels act P cost v operands first last old new before now one proper = subst (λ b. AreProper b operands) (sym one.same) proper

pub kept_value : {A H : Type 0} (by : Teller) (functions : List FunctionCode) (levels : ℕ) (act : Around → Act Frame A) (P : Teller → A → Type 0) (cost : ℕ)
    (v : A) (w : Value)
    (first last : Frame) (old new : Told) (before now : H → List Asked → Type 0)
    → Walked by functions levels act P cost (Some (Gives v)) first last old new before now → IsProperValue by w → IsProperValue new.world.by w
kept_value by functions levels act P cost v w first last old new before now one proper = subst (λ b. IsProperValue b w) (sym one.same) proper

pub kept_answer : (site : ℕ) (operands xs : List Value) (o : Outcome) (old new : Tale) → Answers site xs o old new → AreProper old.by operands
    → AreProper new.by operands
kept_answer site operands xs o old new answers proper = subst (λ b. AreProper b operands) (sym (same_teller site xs o old new answers)) proper

-- whether a row is empty
pub none_there : (n : ℕ) (b : Bool) → b ≡ eqb n 0 → b ≡ true → n ≡ 0
none_there n b is empty = eqb-true n 0 (sym is ∙ empty)

pub some_there : (n : ℕ) (b : Bool) → b ≡ eqb n 0 → b ≡ false → 0 < n
some_there zero b is full = absurd (cc)
some_there (suc n) b is full = omega arith
