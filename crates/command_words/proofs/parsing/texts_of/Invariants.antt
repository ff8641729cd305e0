use Rattle.std.proofs.Common.{◌≡◌, map, take, true}
use Rattle.std.specs.Prelude.{encode_utf8_all}
use Rattle.std.specs.List.{list_all}
use Rattle.command_words.specs.Parsers.{are_characters}
use Rattle.command_words.proofs.parsing.texts_of.Given as goal

abbrev pub invariant-loop-word : goal.invariant-loop-word
invariant-loop-word l = record {
  texts : map (λ text. text.now) l.texts.items ≡ map encode_utf8_all (take l.word-index l.words);
  proper : list_all are_characters (take l.word-index l.words) ≡ true;
}
