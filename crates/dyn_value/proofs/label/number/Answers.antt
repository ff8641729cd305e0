use Rattle.std.proofs.Common.{◌≡◌, rules, string_bytes}
use Rattle.std.specs.Prelude.{IfOk}
use Rattle.std.specs.Fmt.{signed_decimal}
use Rattle.std.proofs.lemmas.Str.{chars-IsAscii}
use Rattle.dyn_value.proofs.Encoding.{chars_made, length_made, ascii_signed, length_signed}
use Rattle.dyn_value.proofs.label.number.Goals as goal

written : (c : goal.After-format) → IfOk c.format.result (λ s. string_bytes s ≡ signed_decimal c.args.number)
written c = search rules

pub returns-clause-characters : goal.returns-clause-characters
returns-clause-characters c =
    let number = c.args.number in
    chars_made c.format.result (signed_decimal number) (signed_decimal number) (chars-IsAscii (signed_decimal number) (ascii_signed number c.ranges.number)) (written c)

pub returns-clause-fits : goal.returns-clause-fits
returns-clause-fits c =
    length_made c.format.result (signed_decimal c.args.number) 65536 (length_signed c.args.number c.ranges.number) (written c)
