use Rattle.std.proofs.Common.{◌≡◌, sym, ◌∙◌, ◌∷◌, ◌++◌, rules, arith, string_bytes, append_assoc}
use Rattle.std.specs.Prelude.{IfOk}
use Rattle.std.specs.Fmt.{decimal}
use Rattle.dyn_value.proofs.Encoding.{chars_made, chars_labelled, ascii_numbers}
use Rattle.dyn_value.proofs.label.with_numbers.Goals as goal

written : (c : goal.After-format) → IfOk c.format.result (λ s. string_bytes s ≡ c.args.label.now ++ (decimal c.args.first ++ 32 ∷ decimal c.args.second))
written c = search rules

pub returns : goal.returns
returns c =
    let label = c.args.label.now in
    let first = decimal c.args.first in
    let second = decimal c.args.second in
    chars_made c.format.result (label ++ (first ++ 32 ∷ second)) (label ++ first ++ 32 ∷ second)
    (chars_labelled label (first ++ 32 ∷ second) c.requires (ascii_numbers c.args.first c.args.second (omega (arith, c.ranges.first)) (omega (arith, c.ranges.second))) ∙ sym (append_assoc label first (32 ∷ second)))
    (written c)
