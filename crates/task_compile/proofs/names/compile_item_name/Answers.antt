use Rattle.std.proofs.Common.{Some, None, ap, sym, ◌∙◌, ◌≡◌}
use Rattle.std.specs.List.{position}
use Rattle.std.specs.Str.{bytes_eq}
use Rattle.task_compile.proofs.HeadForms.{is_function, is_nothing, is_shared}
use Rattle.task_compile.proofs.names.compile_item_name.Goals as goal

pub returns-in_ok-number_at-in-Some : goal.returns-in_ok-number_at-in-Some
returns-in_ok-number_at-in-Some c = λ scope site none.
    is_function c.args.items.now scope site c.args.name.now c.in_ok-number_at-in-Some.field-0 none
    (ap (position (bytes_eq c.args.name.now)) (sym c.as_slice.ensures) ∙ sym c.place_of.ensures ∙ c.in-Some.is ∙ ap Some (sym c.in_ok-number_at-in-Some.ensures))

pub returns-in_ok-number_at-in-Some-place_of : goal.returns-in_ok-number_at-in-Some-place_of
returns-in_ok-number_at-in-Some-place_of c = λ scope site none.
    is_shared c.args.items.now scope site c.args.name.now c.in_ok-number_at-in-Some-place_of.field-0 none
    (ap (position (bytes_eq c.args.name.now)) (sym c.as_slice.ensures) ∙ sym c.place_of.ensures ∙ c.in-None.is)
    (ap (position (bytes_eq c.args.name.now)) (sym c.as_slice-in-None.ensures) ∙ sym c.place_of-in-None.ensures ∙ c.in-Some-place_of.is ∙ ap Some (sym c.in_ok-number_at-in-Some-place_of.ensures))

pub returns-in-None-place_of : goal.returns-in-None-place_of
returns-in-None-place_of c = λ scope site none.
    is_nothing c.args.items.now scope site c.args.name.now none
    (ap (position (bytes_eq c.args.name.now)) (sym c.as_slice.ensures) ∙ sym c.place_of.ensures ∙ c.in-None.is)
    (ap (position (bytes_eq c.args.name.now)) (sym c.as_slice-in-None.ensures) ∙ sym c.place_of-in-None.ensures ∙ c.in-None-place_of.is)
