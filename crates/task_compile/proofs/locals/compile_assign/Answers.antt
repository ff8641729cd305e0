use Rattle.std.proofs.Common.{Some, ap, sym, ◌∙◌}
use Rattle.std.specs.List.{position}
use Rattle.std.specs.Str.{bytes_eq}
use Rattle.task_compile.proofs.StatementForms.{is_assign, is_assign_none}
use Rattle.task_compile.proofs.locals.compile_assign.Goals as goal

pub returns-in_ok-local-in-Some-clause-code : goal.returns-in_ok-local-in-Some-clause-code
returns-in_ok-local-in-Some-clause-code c =
    is_assign c.args.scope.now.items c.args.scope.now.locals c.args.site.now c.args.name.now c.args.value.now c.in_ok-local-in-Some.local c.in_ok-value.value
    (ap (position (bytes_eq c.args.name.now)) (sym c.as_slice.ensures) ∙ sym c.place_of.ensures ∙ c.in-Some.is ∙ ap Some (sym c.in_ok-local-in-Some.ensures)) c.in_ok-value.ensures.code

pub returns-in-None-clause-code : goal.returns-in-None-clause-code
returns-in-None-clause-code c =
    is_assign_none c.args.scope.now.items c.args.scope.now.locals c.args.site.now c.args.name.now c.args.value.now c.in_ok-value.value
    (ap (position (bytes_eq c.args.name.now)) (sym c.as_slice.ensures) ∙ sym c.place_of.ensures ∙ c.in-None.is) c.in_ok-value.ensures.code
