use Rattle.std.proofs.Common.{◌≡◌, ◌≤◌, take}
use Rattle.std.specs.List.{sum_by}
use Rattle.std.specs.Char.{len_utf8}
use Rattle.script_tokens.proofs.lexer.word.is_short.Given as goal

abbrev pub invariant-loop-c : goal.invariant-loop-c
invariant-loop-c l = (l.bytes ≡ sum_by len_utf8 (take l.c-index l.word)) × (l.bytes ≤ 64)
