use Rattle.std.proofs.Common.{◌≡◌, ◌++◌, rules, arith, string_bytes}
use Rattle.std.specs.Prelude.{IfOk}
use Rattle.std.specs.Fmt.{decimal}
use Rattle.std.proofs.lemmas.Fmt.{IsAscii-decimal}
use Rattle.dyn_value.proofs.Encoding.{chars_made, length_made, chars_labelled, length_numbered}
use Rattle.dyn_value.proofs.label.with_number.Goals as goal

written : (c : goal.After-format) → IfOk c.format.result (λ s. string_bytes s ≡ c.args.label.now ++ decimal c.args.number)
written c = search rules

pub returns-clause-characters : goal.returns-clause-characters
returns-clause-characters c =
    let label = c.args.label.now in
    let digits = decimal c.args.number in
    chars_made c.format.result (label ++ digits) (label ++ digits) (chars_labelled label digits c.requires.ascii (IsAscii-decimal c.args.number (omega (arith, c.ranges.number)))) (written c)

pub returns-clause-fits : goal.returns-clause-fits
returns-clause-fits c =
    let label = c.args.label.now in
    let number = c.args.number in
    length_made c.format.result (label ++ decimal number) 65536 (length_numbered label number c.requires.short (omega (arith, c.ranges.number))) (written c)
