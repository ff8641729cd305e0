use Rattle.std.proofs.Common.{sym, ◌∙◌}
use Rattle.std.proofs.lemmas.Str.{encodes-IsAscii}
use Rattle.dyn_value.proofs.Encoding.{appended, ascii_label}
use Rattle.rule.proofs.printing.push_word.Goals as goal

pub returns : goal.returns
returns c =
    let word = c.args.word.now in
    appended c.extend_from_slice.result c.args.out.now.items c.extend_from_slice.new.self.items c.as_bytes.result.now word
    (encodes-IsAscii word (ascii_label word c.requires) ∙ sym c.as_bytes.ensures.value)
    c.extend_from_slice.ensures.items
