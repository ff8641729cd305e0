use Rattle.std.proofs.Common.{rules, string_bytes, [], ◌∷◌}
use Rattle.std.specs.Prelude.{encode_utf8}
use Rattle.std.proofs.lemmas.Str.{IsUtf8-string_bytes}
use Rattle.dyn_value.proofs.Encoding.{extended, chars_pushed}
use Rattle.script_tokens.proofs.lexer.quoted.add.Goals as goal

pub returns : goal.returns
returns c =
    let characters = c.args.characters.now in
    extended c.push.result characters c.push.new.self (encode_utf8 c.args.character) (c.args.character ∷ [])
    (chars_pushed (string_bytes characters) c.args.character (IsUtf8-string_bytes characters) (search (rules, c.ranges.character))) c.push.ensures.bytes
