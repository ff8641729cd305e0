-- The binders of a plan's sites, as they are numbered.
use Rattle.std.proofs.Common.{◌≡◌, ℕ, ◌+◌, ◌<◌, List, [], ◌∷◌, ◌++◌, length, map, get_or, slice_get, Some, refl, sym, ap, ◌∙◌, subst, arith, length-append, append_assoc}
use Rattle.std.proofs.lemmas.List.{get_or_at}
use Rattle.std.proofs.lemmas.Option.{get_or_from_slice_get, slice_get_within}
use Rattle.standard_binders.specs.declared.binder.Binder.{Binder}
use Rattle.standard_binders.specs.declared.binder.Binder.TheVariants as binder
use Rattle.script_sites.specs.Sites.{Binders, IsPartAt}
use Rattle.task_code.specs.Codes.{Plan, binder_at}
use Rattle.task_compile.specs.Compiled.{HasBinder, HasBinders}
use Rattle.task_compile.proofs.SitePlaces.{has_at, has_parts}

-- the site whose binder has this number
has_one : (plan : Plan) (before after : List ℕ) (n : ℕ) (b : Binder) → plan.sites ≡ before ++ n ∷ after → slice_get plan.binders n ≡ Some b → HasBinder plan (length before) b
has_one plan before after n b split found =
    let number : get_or plan.sites (length before) 0 ≡ n = ap (λ z. get_or z (length before) 0) split ∙ get_or_at before n after 0 (length before) refl in
    let known : n < length plan.binders = slice_get_within plan.binders n b found in
    record {
      inside = omega (arith, ap length split, length-append before (n ∷ after));
      known = omega (arith, number, known);
      same = ap (λ z. get_or plan.binders z binder.GetIndex) number ∙ get_or_from_slice_get plan.binders n b binder.GetIndex found;
    }

has_numbered : (plan : Plan) (before after : List ℕ) (bs : List Binder) → plan.sites ≡ before ++ after → map (slice_get plan.binders) after ≡ map Some bs → HasBinders plan (length before) bs
has_numbered plan before [] [] split each = tt
has_numbered plan before [] (b ∷ bs) split each = absurd (cc)
has_numbered plan before (n ∷ after) [] split each = absurd (cc)
has_numbered plan before (n ∷ after) (b ∷ bs) split each =
    let found : slice_get plan.binders n ≡ Some b = cc in
    let rest : map (slice_get plan.binders) after ≡ map Some bs = cc in (
      has_one plan before after n b split found,
      has_at plan (length (before ++ n ∷ [])) (length before + 1) bs (length-append before (n ∷ []))
          (has_numbered plan (before ++ n ∷ []) after bs (split ∙ sym (append_assoc before (n ∷ []) after)) rest),
    )

-- a row of sites is numbered, and a part stands in it
pub has_part : (plan : Plan) (row part : Binders) (place : ℕ) → map (slice_get plan.binders) plan.sites ≡ map Some row → IsPartAt row place part → HasBinders plan place part
has_part plan row part place each at =
    let all : HasBinders plan 0 ((at.before ++ part) ++ at.after) = subst (HasBinders plan 0) at.split (has_numbered plan [] plan.sites row refl each) in
    let first : HasBinders plan 0 (at.before ++ part) = (has_parts plan 0 (at.before ++ part) at.after all).0 in
    has_at plan (0 + length at.before) place part (omega (arith, at.number)) (has_parts plan 0 at.before part first).1
