-- The sites of a program.
use Rattle.std.proofs.Common.{◌≡◌, ◌∙◌, ◌<◌, ℕ, length, get_or, slice_get, Some, sym, ap, arith}
use Rattle.std.proofs.lemmas.List.{length-map}
use Rattle.std.proofs.lemmas.Option.{get_or_from_slice_get}
use Rattle.standard_binders.specs.declared.binder.Binder.{Binder}
use Rattle.standard_binders.specs.declared.binder.Binder.TheVariants as binder
use Rattle.standard_binders.specs.Binders.{operand_count_of}
use Rattle.script_sites.specs.Sites.{site_binders}
use Rattle.task_code.specs.Codes.{binder_at}
use Rattle.task_code.specs.Fits.{IsSite}
use Rattle.script_program.specs.declared.program.Program.{Program}
use Rattle.script_program.specs.Plans.{plan_of}
use Rattle.script_program.specs.Programs.{binders_of, built_of, script_of, sites_of}

-- a site of the plan is one of the script
pub inside_sites : (p : Program) (site count : ℕ) → IsSite (plan_of p) site count → site < length (site_binders (script_of p))
inside_sites p site count is =
    let inside : site < length (sites_of p) = is.inside in
    let same = ap length (built_of p).numbers.each in
    omega (arith, inside, same, length-map (sites_of p) (slice_get (binders_of p)), length-map (site_binders (script_of p)) (λ (b : Binder). Some b))

-- its binder is the one that is found
pub binder_is : (p : Program) (site : ℕ) (b : Binder) → slice_get (binders_of p) (get_or (sites_of p) site 0) ≡ Some b → binder_at (plan_of p) site ≡ b
binder_is p site b at = get_or_from_slice_get (binders_of p) (get_or (sites_of p) site 0) b binder.GetIndex at

-- its operands suit it
pub suit_is : (p : Program) (site count : ℕ) (b : Binder) → IsSite (plan_of p) site count → binder_at (plan_of p) site ≡ b → count ≡ operand_count_of b
suit_is p site count b is same = sym is.operands ∙ ap operand_count_of same
