-- Where the sites of parts stand, and what the code there uses.
use Rattle.std.proofs.Common.{◌≡◌, ℕ, ◌+◌, ◌<◌, List, [], ◌∷◌, ◌++◌, length, map, refl, sym, ap, ◌∙◌, subst, arith, length-append}
use Rattle.std.specs.List.{AllByRecursion}
use Rattle.dyn_value.specs.declared.value.Value.{Value}
use Rattle.standard_binders.specs.declared.binder.Binder.{Binder}
use Rattle.standard_binders.specs.Binders.{operand_count_of}
use Rattle.task_code.specs.Codes as code
use Rattle.task_code.specs.Codes.{Plan, Around}
use Rattle.task_code.specs.Costs.{Use, Uses}
use Rattle.task_code.specs.Fits.{Fits, IsAllowed, IsSite}
use Rattle.task_compile.specs.declared.names.ItemNames.{ItemNames}
use Rattle.task_compile.specs.States.{Names}
use Rattle.task_compile.specs.Agreements.{Agrees}
use Rattle.task_compile.specs.Compiled.{Code, Evaluation, HasBinder, HasBinders, IsEvaluation, IsReading, Reading, given_in}

-- the sites of one part, and those of the part after it
pub has_parts : (plan : Plan) (site : ℕ) (xs ys : List Binder) → HasBinders plan site (xs ++ ys) → HasBinders plan site xs × HasBinders plan (site + length xs) ys
has_parts plan site [] ys has = let e : site ≡ site + 0 = omega arith in (tt, subst (λ z. HasBinders plan z ys) e has)
has_parts plan site (x ∷ xs) ys has =
    let parts = has_parts plan (site + 1) xs ys has.1 in
    let e : site + 1 + length xs ≡ site + length (x ∷ xs) = omega arith in
    ((has.0, parts.0), subst (λ z. HasBinders plan z ys) e parts.1)

-- the same sites, counted in another way
pub has_at : (plan : Plan) (site at : ℕ) (bs : List Binder) → site ≡ at → HasBinders plan site bs → HasBinders plan at bs
has_at plan site at bs e has = subst (λ z. HasBinders plan z bs) e has

pub is_site : (plan : Plan) (site count : ℕ) (b : Binder) → HasBinder plan site b → operand_count_of b ≡ count → IsSite plan site count
is_site plan site count b has counted = record { inside = has.inside; known = has.known; operands = ap operand_count_of has.same ∙ counted }

pub fits_both : (plan : Plan) (limit : ℕ) (us vs : Uses) → Fits plan limit us → Fits plan limit vs → Fits plan limit (us ++ vs)
fits_both plan limit [] vs one two = two
fits_both plan limit (u ∷ us) vs one two = (one.0, fits_both plan limit us vs one.1 two)

-- an expression whose first site is counted in another way
pub evaluates : (items : ItemNames) (scope : Names) (site : ℕ) (t : Evaluation) (c : Code code.Evaluates) → IsEvaluation items scope site t c
    → (around : Around) (at levels : ℕ) → at ≡ site → HasBinders around.plan site t.binders → Agrees scope ((t.part (given_in items around)).from at levels) (c.act around levels)
evaluates items scope site t c is around at levels e has =
    subst (λ z. Agrees scope ((t.part (given_in items around)).from z levels) (c.act around levels)) (sym e) (is.same around has levels)

pub reads : (items : ItemNames) (scope : Names) (site : ℕ) (t : Reading) (c : Code code.Reads) → IsReading items scope site t c
    → (around : Around) (at levels : ℕ) (v : Value) → at ≡ site → HasBinders around.plan site t.binders → Agrees scope ((t.part (given_in items around)).from at levels v) (c.act around levels v)
reads items scope site t c is around at levels v e has =
    subst (λ z. Agrees scope ((t.part (given_in items around)).from z levels v) (c.act around levels v)) (sym e) (is.same around has levels v)
