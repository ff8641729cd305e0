use Rattle.std.proofs.Common.{arith, refl, sym, ◌∙◌, ap, length}
use Rattle.script_tokens.proofs.WordFronts.{long_means_nothing, long_unless_short, keyword_means, name_means}
use Rattle.script_tokens.proofs.lexer.word.word_token.Goals as goal

pub returns-then-not-is_short : goal.returns-then-not-is_short
returns-then-not-is_short c =
    long_means_nothing c.args.word.now c.requires (long_unless_short _ c.is_short.result c.if-not-is_short.true c.is_short.ensures.1)

pub returns-in-Some : goal.returns-in-Some
returns-in-Some c =
    keyword_means c.args.word.now c.as_str.result.now c.in-Some.keyword (c.as_str.ensures.value ∙ c.in_ok-text.ensures) c.in-Some.ensures

pub unreachable-requires : goal.unreachable-requires
unreachable-requires c =
    let over = rw c.in-None.is at c.in_ok-name.ensures.characters in
    omega (arith, over, ap length (c.as_str-2.ensures.value ∙ c.in_ok-text.ensures), c.if-not-is_short.ensures.0 refl)

pub returns : goal.returns
returns c =
    name_means c.args.word.now c.as_str-2.result.now c.in-Some-2.name c.requires (c.as_str-2.ensures.value ∙ c.in_ok-text.ensures) c.as_str-2.utf8
    (λ w e. c.in_default.ensures w (c.as_str.ensures.value ∙ sym c.as_str-2.ensures.value ∙ e)) (c.if-not-is_short.ensures.0 refl)
    (rw c.in-Some-2.is at c.in_ok-name.ensures.characters)
