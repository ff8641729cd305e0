use Rattle.std.proofs.Common.{Some, sym, ap, ◌∙◌, get_or, slice_get}
use Rattle.std.proofs.lemmas.Option.{slice_get_within, slice_get-get_or, get_or_from_slice_get}
use Rattle.standard_binders.specs.declared.binder.Binder.TheVariants.{GetIndex}
use Rattle.script_sites.specs.Sites.{site_binders}
use Rattle.script_program.specs.Names.{has_short_names}
use Rattle.script_program.specs.Programs.{binders_of, script_of}
use Rattle.script_program.proofs.Numbers.{numbered_at, of_all}
use Rattle.script_program.proofs.program.Program.binder_of.Goals as goal

pub bounds-binders-number : goal.bounds-binders-number
bounds-binders-number c =
    let at_number = numbered_at (site_binders (script_of c.args.self.now)) c.sites.result.now (binders_of c.args.self.now) c.args.site GetIndex c.sites.ensures.numbering c.requires in
    slice_get_within c.binders.result.now (get_or c.sites.result.now c.args.site 0) _ (ap (λ z. slice_get z (get_or c.sites.result.now c.args.site 0)) c.binders.ensures.binders ∙ at_number)

pub returns-clause-binder : goal.returns-clause-binder
returns-clause-binder c =
    let d = c.index-binders-number.result in
    let at_number = numbered_at (site_binders (script_of c.args.self.now)) c.sites.result.now (binders_of c.args.self.now) c.args.site d c.sites.ensures.numbering c.requires in
    slice_get-get_or (site_binders (script_of c.args.self.now)) c.args.site d c.requires
    ∙ ap Some (sym (get_or_from_slice_get c.binders.result.now (get_or c.sites.result.now c.args.site 0) _ d (ap (λ z. slice_get z (get_or c.sites.result.now c.args.site 0)) c.binders.ensures.binders ∙ at_number)))
    ∙ ap Some (sym c.index-binders-number.is)

pub returns-clause-number : goal.returns-clause-number
returns-clause-number c =
    let d = c.index-binders-number.result in
    let at_number = numbered_at (site_binders (script_of c.args.self.now)) c.sites.result.now (binders_of c.args.self.now) c.args.site d c.sites.ensures.numbering c.requires in
    let inside = slice_get_within c.binders.result.now (get_or c.sites.result.now c.args.site 0) _ (ap (λ z. slice_get z (get_or c.sites.result.now c.args.site 0)) c.binders.ensures.binders ∙ at_number) in
    ap (λ s. slice_get (binders_of c.args.self.now) (get_or s c.args.site 0)) (sym c.sites.ensures.sites)
    ∙ ap (λ z. slice_get z (get_or c.sites.result.now c.args.site 0)) (sym c.binders.ensures.binders)
    ∙ slice_get-get_or c.binders.result.now (get_or c.sites.result.now c.args.site 0) d inside
    ∙ ap Some (sym c.index-binders-number.is)

pub returns-clause-short_names : goal.returns-clause-short_names
returns-clause-short_names c =
    of_all has_short_names (site_binders (script_of c.args.self.now)) c.args.site c.index-binders-number.result c.args.self.now.built.short_names (returns-clause-binder c)
