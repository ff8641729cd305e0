use Rattle.std.proofs.Common.{◌≡◌, ap, ◌∙◌, ◌++◌, rules, string_bytes}
use Rattle.std.specs.Prelude.{encode_utf8}
use Rattle.std.specs.Str.{chars}
use Rattle.dyn_value.proofs.Encoding.{chars_alone}
use Rattle.dyn_value.proofs.text.DynText.from_char.Goals as goal

pub returns-clause-characters : goal.returns-clause-characters
returns-clause-characters c =
    let character = c.args.character in
    let bytes : string_bytes c.push.new.self ≡ encode_utf8 character =
    c.in_ok-push.ensures.bytes ∙ ap (λ b. b ++ encode_utf8 character) c.new-text.ensures.bytes in
    c.in_ok-alone.ensures.characters ∙ ap chars bytes ∙ chars_alone character (search (rules, c.ranges.character))
