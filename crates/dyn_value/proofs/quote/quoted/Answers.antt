use Rattle.std.proofs.Common.{◌≡◌, refl, sym, ap, arith, ◌∙◌, [], ◌∷◌, ◌++◌, string_bytes}
use Rattle.std.specs.Str.{chars}
use Rattle.std.specs.List.{flat_map}
use Rattle.std.proofs.lemmas.List.{map-id}
use Rattle.std.proofs.lemmas.Str.{chars-encodes, IsUtf8-string_bytes}
use Rattle.std.proofs.lemmas.Iterator.{YieldsList-from_chars}
use Rattle.std.proofs.lemmas.Iterator.Consumers.{YieldsList-end}
use Rattle.dyn_value.specs.Texts.{escaped}
use Rattle.dyn_value.proofs.Encoding.{chars_extended}
use Rattle.dyn_value.proofs.quote.quoted.Goals as goal

pub loop-character-init : goal.loop-character-init
unfolding chars
loop-character-init c = ap chars c.in_ok-quoted.ensures.ok

quotation_mark : chars (34 ∷ []) ≡ 34 ∷ []
unfolding chars
quotation_mark = refl

pub returns : goal.returns
returns c =
    let written = c.loop-character.quoted in
    let all = YieldsList-end (YieldsList-from_chars c.as_str.result.now c.as_str.utf8 cc) c.loop-character.yielded _ c.loop-character.yielded_by _ _ c.in-None.is c.next.ensures.steps in
    let text : chars c.as_str.result.now ≡ c.args.text.now = ap chars c.as_str.ensures.bytes ∙ chars-encodes c.args.text.now c.as_str.ensures.proper.0 in
    let last : string_bytes c.push.new.self ≡ string_bytes written ++ 34 ∷ [] = c.in_ok-push.ensures.bytes ∙ ap (λ x. string_bytes written ++ x) (c.in_ok-push.ensures.ascii (omega arith)) in
    ap chars last ∙ chars_extended (string_bytes written) (34 ∷ []) (34 ∷ []) (IsUtf8-string_bytes written) quotation_mark
    ∙ ap (λ x. x ++ 34 ∷ []) c.loop-character.invariant
    ∙ ap (λ x. 34 ∷ (flat_map escaped x ++ 34 ∷ [])) (sym (map-id c.loop-character.yielded) ∙ all.0 ∙ text)
