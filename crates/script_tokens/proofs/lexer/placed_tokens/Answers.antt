use Rattle.std.proofs.Common.{rules, arith, ap, ◌∙◌}
use Rattle.script_tokens.specs.declared.lexer.LexRefused.TheVariants.{BadToken}
use Rattle.script_tokens.specs.Lexemes.{byte_count}
use Rattle.script_tokens.specs.Refusals.{IsRefused}
use Rattle.script_tokens.proofs.ByteCounts.{byte_count-chars}
use Rattle.script_tokens.proofs.RefusalLaws.{none_at_bad}
use Rattle.script_tokens.proofs.lexer.placed_tokens.Goals as goal

pub lex_characters-requires : goal.lex_characters-requires
lex_characters-requires c =
    omega (arith, c.requires, ap byte_count (c.as_slice.ensures.value ∙ c.in_ok-characters.ensures.characters), byte_count-chars c.args.bytes.now c.in_ok-characters.ensures.text)

pub returns-in-Err-Bad-clause-refused : goal.returns-in-Err-Bad-clause-refused
returns-in-Err-Bad-clause-refused c =
    let refused : IsRefused c.args.bytes.now (BadToken c.in-Err-Bad.place) = search rules in
    (refused, none_at_bad c.args.bytes.now c.in-Err-Bad.place refused.1)
