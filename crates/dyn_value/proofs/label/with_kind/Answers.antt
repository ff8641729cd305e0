use Rattle.std.proofs.Common.{◌≡◌, ap, ◌∙◌, ◌++◌, rules, string_bytes}
use Rattle.std.specs.Prelude.{IfOk}
use Rattle.dyn_value.specs.Texts.{kind_name}
use Rattle.dyn_value.proofs.Encoding.{chars_made, chars_labelled, ascii_label}
use Rattle.dyn_value.proofs.label.with_kind.Goals as goal

written : (c : goal.After-format) → IfOk c.format.result (λ s. string_bytes s ≡ c.args.label.now ++ c.name-kind.result.now)
written c = search rules

pub returns : goal.returns
returns c =
    let label = c.args.label.now in
    let name = c.name-kind.result.now in
    chars_made c.format.result (label ++ name) (label ++ kind_name c.args.kind)
    (chars_labelled label name c.requires (ascii_label name c.name-kind.ensures.ascii) ∙ ap (λ x. label ++ x) c.name-kind.ensures.name) (written c)
