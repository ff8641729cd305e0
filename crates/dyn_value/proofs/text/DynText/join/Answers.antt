use Rattle.std.proofs.Common.{◌≡◌, ◌<◌, ◌++◌, length, string_bytes, arith, ◌∙◌, ap}
use Rattle.std.specs.Prelude.{encode_utf8_all}
use Rattle.std.specs.Str.{chars}
use Rattle.std.proofs.lemmas.Str.{IsUtf8-string_bytes}
use Rattle.dyn_value.proofs.Encoding.{length_joined, chars_joined}
use Rattle.dyn_value.proofs.text.DynText.join.Goals as goal

too_long : (c : goal.Then-bytes-gt-MOST_BYTES) → 65536 < length (encode_utf8_all (c.args.self.now ++ c.args.next.now))
too_long c =
    let mine = c.self.inside.text.text.value in
    let theirs = c.next.inside.text.text.value in
    omega (arith, length_joined (string_bytes mine) (string_bytes theirs) c.args.self.now c.args.next.now (IsUtf8-string_bytes mine) (IsUtf8-string_bytes theirs) c.self.view_is c.next.view_is)

pub returns-then-bytes-gt-MOST_BYTES-clause-characters : goal.returns-then-bytes-gt-MOST_BYTES-clause-characters
returns-then-bytes-gt-MOST_BYTES-clause-characters c = too_long c

pub returns-then-bytes-gt-MOST_BYTES-clause-fits : goal.returns-then-bytes-gt-MOST_BYTES-clause-fits
returns-then-bytes-gt-MOST_BYTES-clause-fits c = too_long c

pub returns-clause-characters : goal.returns-clause-characters
returns-clause-characters c =
    let mine = c.self.inside.text.text.value in
    let theirs = c.next.inside.text.text.value in
    let bytes : string_bytes c.push_str-2.new.self ≡ string_bytes mine ++ string_bytes theirs =
    c.in_ok-push_str-2.ensures.bytes ∙ grind (arith, c.in_ok-push_str.ensures.bytes, c.in_ok-text.ensures.bytes, c.as_str.ensures.value, c.as_str-2.ensures.value) in
    c.in_ok-joined.ensures.characters ∙ ap chars bytes ∙ chars_joined (string_bytes mine) (string_bytes theirs) c.args.self.now c.args.next.now (IsUtf8-string_bytes mine) (IsUtf8-string_bytes theirs) c.self.view_is c.next.view_is

pub returns-clause-fits : goal.returns-clause-fits
returns-clause-fits c =
    let mine = c.self.inside.text.text.value in
    let theirs = c.next.inside.text.text.value in
    omega (arith, length_joined (string_bytes mine) (string_bytes theirs) c.args.self.now c.args.next.now (IsUtf8-string_bytes mine) (IsUtf8-string_bytes theirs) c.self.view_is c.next.view_is)
