use Rattle.std.proofs.Common.{◌≡◌, ap, ◌∙◌, ◌++◌, rules, string_bytes}
use Rattle.std.specs.Prelude.{IfOk}
use Rattle.std.proofs.lemmas.Str.{IsUtf8-from_ascii}
use Rattle.dyn_value.specs.Texts.{quoted_text}
use Rattle.dyn_value.proofs.Encoding.{chars_made, chars_extended, ascii_label, chars_label}
use Rattle.dyn_value.proofs.label.with_text.Goals as goal

written : (c : goal.After-drop-text) → IfOk c.format.result (λ s. string_bytes s ≡ c.args.label.now ++ string_bytes c.in_ok-text.text)
written c = search rules

pub returns : goal.returns
returns c =
    let label = c.args.label.now in
    let text = string_bytes c.in_ok-text.text in
    chars_made c.format.result (label ++ text) (label ++ quoted_text c.args.text.now)
    (chars_extended label text (quoted_text c.args.text.now) (IsUtf8-from_ascii label (ascii_label label c.requires)) c.in_ok-text.ensures
    ∙ ap (λ x. x ++ quoted_text c.args.text.now) (chars_label label c.requires))
    (written c)
