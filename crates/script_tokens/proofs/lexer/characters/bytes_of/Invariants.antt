use Rattle.std.proofs.Common.{◌≡◌, take}
use Rattle.script_tokens.specs.Lexemes.{byte_count}
use Rattle.script_tokens.proofs.lexer.characters.bytes_of.Given as goal

abbrev pub invariant-loop-c : goal.invariant-loop-c
invariant-loop-c l = l.bytes ≡ byte_count (take l.c-index l.characters)
