use Rattle.std.proofs.Common.{sym, ◌∙◌, string_bytes}
use Rattle.std.proofs.lemmas.Str.{IsUtf8-string_bytes}
use Rattle.dyn_value.specs.Texts.{quoted_text}
use Rattle.dyn_value.proofs.Encoding.{appended, bytes_of_view}
use Rattle.dyn_value.proofs.text.DynText.quote_to.Goals as goal

pub returns-clause-appended : goal.returns-clause-appended
returns-clause-appended c =
    let text = c.in_ok-text.text in
    let bytes = bytes_of_view (string_bytes text) (quoted_text c.args.self.now) (IsUtf8-string_bytes text) c.in_ok-text.ensures ∙ sym c.as_bytes.ensures.value in
    appended c.extend_from_slice.result c.args.out.now.items c.extend_from_slice.new.self.items c.as_bytes.result.now (quoted_text c.args.self.now) bytes c.extend_from_slice.ensures.items
