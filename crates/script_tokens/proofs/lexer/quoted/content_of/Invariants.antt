use Rattle.std.proofs.Common.{◌≡◌, ◌++◌, true, length}
use Rattle.std.specs.Prelude.{string_bytes}
use Rattle.std.specs.List.{flat_map, list_all}
use Rattle.std.specs.Str.{chars}
use Rattle.dyn_value.specs.Texts.{escaped}
use Rattle.script_tokens.specs.Lexemes.{stands_in_text}
use Rattle.script_tokens.proofs.lexer.quoted.content_of.Given as goal

abbrev pub invariant-inside : goal.invariant-inside
invariant-inside l = record {
  written : l.inside ≡ flat_map escaped (chars (string_bytes l.characters)) ++ l.rest;
  proper : list_all stands_in_text (chars (string_bytes l.characters)) ≡ true;
}

abbrev pub decreases-inside : goal.decreases-inside
decreases-inside l = length l.rest
