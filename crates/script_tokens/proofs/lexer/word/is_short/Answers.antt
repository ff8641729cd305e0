use Rattle.std.proofs.Common.{refl, arith}
use Rattle.script_tokens.proofs.WordFronts.{long_by, short_by}
use Rattle.script_tokens.proofs.lexer.word.is_short.Goals as goal

pub returns-then-bytes-gt-MOST_NAME_BYTES : goal.returns-then-bytes-gt-MOST_NAME_BYTES
returns-then-bytes-gt-MOST_NAME_BYTES c =
    let long = long_by c.args.word.now c.loop-c.c-index c.loop-c.bytes c.len_utf8-bytes.result c.c-item.result
    c.loop-c-test.true c.c-item.is c.len_utf8-bytes.ensures.value c.loop-c.invariant.0 c.if-bytes-gt-MOST_NAME_BYTES.true in
    (λ t. cc, λ short. absurd (omega arith))

pub returns : goal.returns
returns c =
    (λ t. short_by c.args.word.now c.loop-c.c-index c.loop-c.bytes c.loop-c-test.false c.loop-c.invariant.0 c.loop-c.invariant.1, λ short. refl)
