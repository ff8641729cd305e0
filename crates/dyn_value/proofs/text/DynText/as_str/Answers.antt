use Rattle.std.proofs.Common.{◌≡◌, ◌≤◌, sym, ap, ◌∙◌, subst, string_bytes, length}
use Rattle.std.specs.Prelude.{encode_utf8_all}
use Rattle.std.specs.Str.{chars, IsUtf8}
use Rattle.std.proofs.lemmas.Str.{encodes-chars, scalars-chars}
use Rattle.std.proofs.Math.Utf8.{scalars}
use Rattle.dyn_value.proofs.text.DynText.as_str.Goals as goal

pub returns-clause-bytes : goal.returns-clause-bytes
returns-clause-bytes c = sym (encodes-chars c.as_str.result.now c.as_str.utf8) ∙ ap (λ b. encode_utf8_all (chars b)) c.as_str.ensures.value ∙ ap encode_utf8_all c.self.view_is

pub returns-clause-proper : goal.returns-clause-proper
returns-clause-proper c =
    let is_text : IsUtf8 (string_bytes c.self.inside.text.text.value) = subst IsUtf8 c.as_str.ensures.value c.as_str.utf8 in
    let bytes : encode_utf8_all c.args.self.now ≡ string_bytes c.self.inside.text.text.value = ap encode_utf8_all (sym c.self.view_is) ∙ encodes-chars (string_bytes c.self.inside.text.text.value) is_text in (
      ap scalars (sym c.self.view_is) ∙ scalars-chars (string_bytes c.self.inside.text.text.value) is_text,
      subst (λ b. length b ≤ 65536) (sym bytes) c.self.invariant,
    )
