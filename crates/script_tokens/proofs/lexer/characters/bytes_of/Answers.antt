use Rattle.std.proofs.Common.{◌+◌, arith}
use Rattle.script_tokens.proofs.ByteCounts.{byte_count-more, byte_count-take}
use Rattle.script_tokens.proofs.lexer.characters.bytes_of.Goals as goal

pub overflow_add-bytes : goal.overflow_add-bytes
overflow_add-bytes c =
    let more = byte_count-more c.args.characters.now c.loop-c.c-index c.loop-c.bytes c.len_utf8.result c.c-item.result c.loop-c-test.true c.c-item.is c.len_utf8.ensures.value c.loop-c.invariant in
    omega (arith, more, byte_count-take (c.loop-c.c-index + 1) c.args.characters.now, c.requires)

pub loop-c-preserved : goal.loop-c-preserved
loop-c-preserved c =
    byte_count-more c.args.characters.now c.loop-c.c-index c.loop-c.bytes c.len_utf8.result c.c-item.result c.loop-c-test.true c.c-item.is c.len_utf8.ensures.value c.loop-c.invariant
