use Rattle.std.proofs.Common.{◌≡◌, ◌++◌, ◌∙◌, sym, ap, append-nil, slice_get, None}
use Rattle.std.specs.Prelude.{encode_utf8_all}
use Rattle.std.proofs.lemmas.Option.{slice_get_past}
use Rattle.script_program.specs.Programs.{binders_of}
use Rattle.dlr_top.specs.Rendering.{text_of}
use Rattle.dlr_top.proofs.report.entries.render_binder.Goals as goal

pub returns-in-None-clause-appended : goal.returns-in-None-clause-appended
returns-in-None-clause-appended c =
    let none : slice_get (binders_of c.args.program.now) c.args.binder ≡ None =
    rw (← c.binders.ensures.binders) (slice_get_past c.binders.result.now c.args.binder c.in-None.ensures.lookup.3) in
    sym (append-nil c.args.out.now.items) ∙ ap (λ b. c.args.out.now.items ++ encode_utf8_all (text_of b)) (sym none)
