use Rattle.std.proofs.Common.{sym, ◌∙◌}
use Rattle.std.proofs.lemmas.Str.{encodes-IsAscii}
use Rattle.dyn_value.proofs.Encoding.{ascii_label, appended}
use Rattle.dlr_top.proofs.report.texts.put_ascii.Goals as goal

pub returns-clause-appended : goal.returns-clause-appended
returns-clause-appended c = appended c.extend_from_slice.result c.args.out.now.items c.extend_from_slice.new.self.items c.as_bytes.result.now c.args.text.now
    (encodes-IsAscii c.args.text.now (ascii_label c.args.text.now c.requires) ∙ sym c.as_bytes.ensures.value) c.extend_from_slice.ensures.items
