use Rattle.std.proofs.Common.{true, false, length, get_or, ◌≡◌, ◌∙◌, sym, ap}
use Rattle.std.specs.List.{list_all}
use Rattle.std.specs.Char.{is_ascii_digit}
use Rattle.script_places.proofs.Numbers.{no_digits, leading_zero, read_digits}
use Rattle.script_places.proofs.refusal.number_in.Goals as goal

pub returns-then-not-are_digits : goal.returns-then-not-are_digits
returns-then-not-are_digits c =
    let other : list_all is_ascii_digit c.args.text.now ≡ false = rw (← c.as_bytes-bytes.ensures.value) (cc) in
    λ n small is. no_digits c.args.text.now n other small is

pub returns-then-begins_with_zero : goal.returns-then-begins_with_zero
returns-then-begins_with_zero c =
    let led = rw c.as_bytes-bytes.ensures.value at (c.begins_with_zero.ensures.0 c.if-begins_with_zero.true) in
    λ n small is. leading_zero c.args.text.now n led.0 led.1 small is

pub returns : goal.returns
returns c =
    let digits : list_all is_ascii_digit c.args.text.now ≡ true = rw (← c.as_bytes-bytes.ensures.value) (cc) in
    rw c.ok.ensures.value
    (read_digits c.args.text.now c.parse.result c.parse.ensures.value.0 digits
    (λ long zero. let led = c.begins_with_zero.ensures.1 (rw c.as_bytes-bytes.ensures.value (long, zero)) in cc))
