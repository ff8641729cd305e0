use Rattle.script_tokens.proofs.LexemeRuns.{word_run}
use Rattle.script_tokens.proofs.TextFronts.{run_front, run_bad}
use Rattle.script_tokens.specs.Lexemes.{IsWord}
use Rattle.script_tokens.proofs.lexer.word.word_front.Goals as goal

pub word_token-requires : goal.word_token-requires
word_token-requires c = (word_run c.args.text.now c.word_length-length.result c.requires c.word_length-length.ensures).lexes

pub returns-in-Some : goal.returns-in-Some
returns-in-Some c =
    run_front IsWord c.args.text.now c.word_length-length.result c.in-Some.token
    (word_run c.args.text.now c.word_length-length.result c.requires c.word_length-length.ensures) (rw c.in-Some.is at c.in_ok-token.ensures)

pub returns-in-None : goal.returns-in-None
returns-in-None c =
    run_bad IsWord c.args.text.now c.word_length-length.result
    (word_run c.args.text.now c.word_length-length.result c.requires c.word_length-length.ensures) (rw c.in-None.is at c.in_ok-token.ensures)
