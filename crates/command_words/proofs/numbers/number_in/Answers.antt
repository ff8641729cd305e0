use Rattle.std.proofs.Common.{◌≡◌, ◌<◌, true, length, ◌∙◌, sym, ap, arith}
use Rattle.std.specs.Char.{is_ascii_digit}
use Rattle.std.specs.List.{list_all}
use Rattle.std.specs.Result.{result_ok}
use Rattle.command_words.proofs.Numerals.{number_read, number_is}
use Rattle.command_words.proofs.numbers.number_in.Goals as goal

pub returns : goal.returns
returns c =
    let text = c.args.text.now in
    let some : 0 < length text = omega (arith, c.if-length-eq0.false) in
    let few : length text < 11 = omega (arith, c.if-length-gt10.false) in
    let digits : list_all is_ascii_digit text ≡ true = ap (list_all is_ascii_digit) (sym c.as_bytes.ensures.value) ∙ sym c.are_digits.ensures ∙ c.if-not-are_digits.false in
    c.ok.ensures.value ∙ ap result_ok (number_read text c.parse.result c.parse.ensures.value.0 some few digits) ∙ sym (number_is text some few digits)
