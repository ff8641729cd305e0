use Rattle.std.proofs.Common.{Some, None, ap, sym, ◌∙◌, ◌≡◌}
use Rattle.std.specs.List.{position}
use Rattle.std.specs.Str.{bytes_eq}
use Rattle.std.proofs.lemmas.Result.{IfOk-weaker}
use Rattle.task_compile.proofs.HeadForms.{is_local}
use Rattle.task_compile.proofs.names.compile_name.Goals as goal

pub returns-in_ok-number_at-in-Some : goal.returns-in_ok-number_at-in-Some
returns-in_ok-number_at-in-Some c = λ site.
    is_local c.args.scope.now.items c.args.scope.now.locals site c.args.name.now c.in_ok-number_at-in-Some.field-0
    (ap (position (bytes_eq c.args.name.now)) (sym c.as_slice.ensures) ∙ sym c.place_of.ensures ∙ c.in-Some.is ∙ ap Some (sym c.in_ok-number_at-in-Some.ensures))

pub returns-in-None : goal.returns-in-None
returns-in-None c =
    IfOk-weaker c.compile_item_name.result _ _ (λ head is. λ site. is c.args.scope.now.locals site (ap (position (bytes_eq c.args.name.now)) (sym c.as_slice.ensures) ∙ sym c.place_of.ensures ∙ c.in-None.is)) c.compile_item_name.ensures
