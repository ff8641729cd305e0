use Rattle.std.proofs.Common.{sym}
use Rattle.script_tokens.proofs.TextFronts.{blank_front, comment_front}
use Rattle.script_tokens.proofs.lexer.front.front_of.Goals as goal

pub returns-then-is_blank : goal.returns-then-is_blank
returns-then-is_blank c = blank_front c.args.text.now c.index-text-0.result c.requires c.index-text-0.is (sym c.if-is_blank.ensures)

pub returns-then-first-eq35 : goal.returns-then-first-eq35
returns-then-first-eq35 c = comment_front c.args.text.now c.index-text-0.result c.comment_length.result c.requires c.index-text-0.is c.if-first-eq35.true c.comment_length.ensures
