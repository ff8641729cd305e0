use Rattle.std.proofs.Common.{sym, ◌∙◌, string_bytes}
use Rattle.std.proofs.lemmas.Str.{IsUtf8-string_bytes}
use Rattle.dyn_value.specs.Texts.{plain}
use Rattle.dyn_value.proofs.Encoding.{appended, bytes_of_view}
use Rattle.dyn_value.proofs.value.Value.print_to.Goals as goal

pub returns-clause-appended : goal.returns-clause-appended
returns-clause-appended c =
    let text = c.in_ok-text.text in
    let bytes = bytes_of_view (string_bytes text) (plain c.args.self.now) (IsUtf8-string_bytes text) c.in_ok-text.ensures.characters ∙ sym c.as_bytes-2.ensures.value in
    appended c.extend_from_slice-2.result c.args.out.now.items c.extend_from_slice-2.new.self.items c.as_bytes-2.result.now (plain c.args.self.now) bytes c.extend_from_slice-2.ensures.items
