use Rattle.std.proofs.Common.{◌≡◌, ◌∷◌, sym, ◌∙◌, arith, rules, string_bytes}
use Rattle.std.specs.Fmt.{decimal}
use Rattle.std.proofs.lemmas.Fmt.{IsAscii-decimal_wide}
use Rattle.std.proofs.lemmas.Str.{encodes-IsAscii}
use Rattle.std.proofs.lemmas.Str.Ascii.{IsAscii-cons}
use Rattle.dyn_value.proofs.Encoding.{appended}
use Rattle.expr_tree.proofs.printing.push_number.Goals as goal

pub returns : goal.returns
returns c =
    let text = 32 ∷ decimal c.args.number in
    let ascii = IsAscii-cons 32 (decimal c.args.number) (omega arith) (IsAscii-decimal_wide c.args.number (omega (arith, c.ranges.number.fits))) in
    let written : string_bytes c.in_ok-text.text ≡ text = search rules in
    appended c.extend_from_slice.result c.args.out.now.items c.extend_from_slice.new.self.items c.as_bytes.result.now text
    (encodes-IsAscii text ascii ∙ sym written ∙ sym c.as_bytes.ensures.value)
    c.extend_from_slice.ensures.items
