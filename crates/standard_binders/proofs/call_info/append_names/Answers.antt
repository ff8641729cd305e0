use Rattle.std.proofs.Common.{◌≡◌, ℕ, List, ◌<◌, ◌∷◌, [], ◌++◌, ◌+◌, length, take, get_or, refl, sym, ap, ◌∙◌}
use Rattle.std.specs.Prelude.{encode_utf8_all}
use Rattle.std.specs.List.{flat_map}
use Rattle.std.proofs.lemmas.List.{flat_map_more, take_more}
use Rattle.standard_binders.specs.Arguments.{name_text}
use Rattle.standard_binders.proofs.Appended.{joined, labelled}
use Rattle.standard_binders.proofs.call_info.append_names.Goals as goal

one_more : (names : List (List ℕ)) (i : ℕ) (name : List ℕ) → i < length names → name ≡ get_or names i name → flat_map name_text (take i names) ++ name_text name ≡ flat_map name_text (take (i + 1) names)
one_more names i name within is =
    flat_map_more name_text [] (take i names) name
    ∙ ap (flat_map name_text) (ap (λ x. take i names ++ x ∷ []) is ∙ sym (take_more names i name within))

pub loop-name-preserved : goal.loop-name-preserved
loop-name-preserved c =
    let name = c.name-item.result in
    let before = c.loop-name.out.items in
    let spaced = c.push.new.self.items in
    let after = c.extend_from_slice.new.self.items in
    let bytes : after ≡ spaced ++ encode_utf8_all name =
    c.in_ok-extend_from_slice.ensures.items ∙ ap (λ x. spaced ++ x) (c.as_bytes.ensures.value ∙ c.as_str.ensures.bytes) in
    let added : after ≡ before ++ encode_utf8_all (name_text name) =
    joined before spaced after (32 ∷ []) name (labelled before spaced (32 ∷ []) refl c.in_ok-push.ensures.items) bytes in
    joined c.args.out.now.items before after (flat_map name_text (take c.loop-name.name-index c.args.names.now)) (name_text name) c.loop-name.invariant added
    ∙ ap (λ x. c.args.out.now.items ++ encode_utf8_all x) (one_more c.args.names.now c.loop-name.name-index name c.loop-name-test.true c.name-item.is)
