use Rattle.std.proofs.Common.{rules}
use Rattle.std.proofs.lemmas.Str.{chars_from_encodes}
use Rattle.script_tokens.proofs.lexer.characters_of.Goals as goal

pub returns-in_ok-collect-in-Ok-clause-characters : goal.returns-in_ok-collect-in-Ok-clause-characters
returns-in_ok-collect-in-Ok-clause-characters c = search (rules, chars_from_encodes)
