use Rattle.std.proofs.Common.{◌≡◌, ◌∙◌, [], Err, true, sym, ap, ap₂, map, codes}
use Rattle.std.specs.Prelude.{IsErrAnd, encode_utf8_all}
use Rattle.std.specs.List.{list_any}
use Rattle.clap.specs.Faults.{fault_of, is_simple_and_free}
use Rattle.clap.specs.Simple.{app_of}
use Rattle.command_words.specs.Parsers.{bare_app, is_end_mark}
use Rattle.command_words.specs.declared.words.WordsRefused.TheVariants.{Bad}
use Rattle.command_words.proofs.Answers.{no_mark, no_words, passed_up}
use Rattle.command_words.proofs.Parses.{check_none}
use Rattle.command_words.proofs.RunRules.{check_simple}
use Rattle.command_words.proofs.words.nothing_in.Goals as goal

pub returns-in_err-parsed-clause-refused : goal.returns-in_err-parsed-clause-refused
returns-in_err-parsed-clause-refused c is empty =
    let words = c.args.words.now in
    let refs = c.as_slice.result.now in
    let e = c.in_err-parsed.field-0.0 in
    let up : IsErrAnd c.from_residual-in_err-parsed.result (λ y. y ≡ e) = c.from_residual-in_err-parsed.ensures.1 in
    let bad : e ≡ Bad = passed_up c.from_residual-in_err-parsed.result e Bad up is in
    let are : map (λ r. r.now) refs ≡ map encode_utf8_all words = ap (map (λ r. r.now)) c.as_slice.ensures.value ∙ c.in_ok-texts.ensures.texts in
    let app : app_of c.check_command-command.result ≡ bare_app (codes "check") = c.check_command-command.ensures in
    let simple : is_simple_and_free (app_of c.check_command-command.result) ≡ true = ap is_simple_and_free app ∙ check_simple in
    let none : map (λ r. r.now) refs ≡ [] = are ∙ ap (map encode_utf8_all) empty in
    c.in_err-parsed.ensures.refused simple (ap Err bad) (no_mark words refs are ∙ ap (λ ws. list_any is_end_mark (map encode_utf8_all ws)) empty) (ap₂ fault_of app none ∙ check_none)

pub returns-clause-none : goal.returns-clause-none
returns-clause-none c =
    let words = c.args.words.now in
    let refs = c.as_slice.result.now in
    let are : map (λ r. r.now) refs ≡ map encode_utf8_all words = ap (map (λ r. r.now)) c.as_slice.ensures.value ∙ c.in_ok-texts.ensures.texts in
    let app : app_of c.check_command-command.result ≡ bare_app (codes "check") = c.check_command-command.ensures in
    let simple : is_simple_and_free (app_of c.check_command-command.result) ≡ true = ap is_simple_and_free app ∙ check_simple in
    no_words words c.in_ok-texts.ensures.proper (sym (no_mark words refs are) ∙ c.in_ok-parsed.ensures.marks) (sym (ap₂ fault_of app are) ∙ c.in_ok-parsed.ensures.passes simple)
