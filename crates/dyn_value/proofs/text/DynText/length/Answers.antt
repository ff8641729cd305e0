use Rattle.std.proofs.Common.{◌≡◌, ◌≤◌, ap, ◌∙◌, length, string_bytes, rules, arith}
use Rattle.std.specs.Str.{chars}
use Rattle.std.proofs.lemmas.Int.{ints}
use Rattle.std.proofs.lemmas.Str.{chars_from_encodes, IsUtf8-string_bytes}
use Rattle.dyn_value.proofs.Encoding.{length_chars_le}
use Rattle.dyn_value.proofs.text.DynText.length.Goals as goal

counted : (c : goal.After-count) → c.count.result ≡ length (chars c.as_str.result.now)
counted c = search (rules, chars_from_encodes)

pub returns : goal.returns
returns c =
    let bytes = string_bytes c.self.inside.text.text.value in
    let all : c.count.result ≡ length (chars bytes) = counted c ∙ ap (λ b. length (chars b)) c.as_str.ensures.value in
    let few : length (chars bytes) ≤ 65536 = length_chars_le bytes 65536 (IsUtf8-string_bytes c.self.inside.text.text.value) c.self.invariant in
    omega (arith, ints, all, ap length c.self.view_is)
