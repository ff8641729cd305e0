use Rattle.std.proofs.Common.{refl}
use Rattle.std.proofs.lemmas.List.{take_rest}
use Rattle.script_tokens.proofs.QuotedFronts.{quoted_read, quoted_unended, quoted_long}
use Rattle.script_tokens.proofs.lexer.quoted.quoted_front.Goals as goal

pub returns-then-not-begins_quoted : goal.returns-then-not-begins_quoted
returns-then-not-begins_quoted c =
    quoted_unended c.args.text.now _ c.in_ok-content.content c.requires (take_rest c.args.text.now 1) c.in_ok-content.ensures
    (λ ends. let begins = c.if-not-begins_quoted.ensures.1 ends in cc)

pub returns-in-Some : goal.returns-in-Some
returns-in-Some c =
    quoted_read c.args.text.now _ c.as_str.result.now c.in-Some.quoted c.in_ok-content.content _ c.requires (take_rest c.args.text.now 1) c.in_ok-content.ensures
    (c.if-not-begins_quoted.ensures.0 refl) c.as_str.ensures.value c.as_str.utf8
    (rw c.in-Some.is at c.in_ok-quoted.ensures.fits) (rw c.in-Some.is at c.in_ok-quoted.ensures.characters) refl

pub returns : goal.returns
returns c =
    quoted_long c.args.text.now _ c.as_str.result.now c.in_ok-content.content c.requires (take_rest c.args.text.now 1) c.in_ok-content.ensures
    c.as_str.ensures.value c.as_str.utf8 (rw c.in-None.is at c.in_ok-quoted.ensures.characters)
