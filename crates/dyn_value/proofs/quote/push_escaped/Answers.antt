use Rattle.std.proofs.Common.{rules, sym, ap, ◌∙◌, ◌++◌, string_bytes}
use Rattle.std.specs.Prelude.{encode_utf8}
use Rattle.std.specs.Str.{chars}
use Rattle.std.proofs.lemmas.Str.{IsUtf8-string_bytes}
use Rattle.dyn_value.specs.Texts.{escaped}
use Rattle.dyn_value.proofs.Encoding.{extended, chars_extended, chars_pushed}
use Rattle.dyn_value.proofs.quote.push_escaped.Goals as goal

pub returns-in-Some : goal.returns-in-Some
returns-in-Some c =
    let out = c.args.out.now in
    let bytes = c.in-Some.escape.now in
    extended c.push_str.result out c.push_str.new.self bytes (escaped c.args.character)
    (chars_extended (string_bytes out) bytes (escaped c.args.character) (IsUtf8-string_bytes out) c.in-Some.ensures) c.push_str.ensures.bytes

pub returns-in-None : goal.returns-in-None
returns-in-None c =
    let out = c.args.out.now in
    let character = c.args.character in
    extended c.push.result out c.push.new.self (encode_utf8 character) (escaped character)
    (chars_pushed (string_bytes out) character (IsUtf8-string_bytes out) (search (rules, c.ranges.character)) ∙ ap (λ x. chars (string_bytes out) ++ x) (sym c.in-None.ensures)) c.push.ensures.bytes
