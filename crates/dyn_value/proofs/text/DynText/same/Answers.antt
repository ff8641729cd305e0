use Rattle.std.proofs.Common.{sym, ap, ◌∙◌, string_bytes}
use Rattle.std.specs.Str.{chars}
use Rattle.std.specs.Cmp.Lexicographic.{bytes_decides}
use Rattle.std.proofs.lemmas.Str.{IsUtf8-string_bytes}
use Rattle.dyn_value.proofs.Encoding.{bytes_same}
use Rattle.dyn_value.proofs.text.DynText.same.Goals as goal

pub returns : goal.returns
returns c =
    let decides = bytes_decides c.as_str.result.now c.as_str-2.result.now in
    let mine = c.self.inside.text.text.value in
    let theirs = c.other.inside.text.text.value in (
      λ answer. sym c.self.view_is ∙ ap chars (sym c.as_str.ensures.value ∙ decides.0 (sym c.eq.ensures ∙ answer) ∙ c.as_str-2.ensures.value) ∙ c.other.view_is,
      λ same. c.eq.ensures ∙ decides.1 (c.as_str.ensures.value ∙ bytes_same (string_bytes mine) (string_bytes theirs) c.args.self.now c.args.other.now (IsUtf8-string_bytes mine) (IsUtf8-string_bytes theirs) c.self.view_is c.other.view_is same ∙ sym c.as_str-2.ensures.value),
    )
