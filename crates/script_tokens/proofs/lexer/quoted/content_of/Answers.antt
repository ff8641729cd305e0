use Rattle.std.specs.Prelude.{string_bytes}
use Rattle.script_tokens.proofs.QuotedFronts.{nothing_read, more_read}
use Rattle.script_tokens.proofs.lexer.quoted.content_of.Goals as goal

pub inside-init : goal.inside-init
inside-init c =
    let read = nothing_read c.args.inside.now (string_bytes c.new-characters.result) c.new-characters.ensures.bytes in
    record { written = read.0; proper = read.1 }

pub inside-preserved : goal.inside-preserved
inside-preserved c =
    let read = more_read c.args.inside.now c.inside.rest.now c.in-Some.more.now (string_bytes c.inside.characters) (string_bytes c.add.new.characters) c.in-Some.character
    c.in_ok-add.ensures c.inside.invariant.written c.inside.invariant.proper c.in-Some.ensures.written c.in-Some.ensures.stands in
    record { written = read.0; proper = read.1 }
