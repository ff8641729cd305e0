use Rattle.std.proofs.Common.{◌≡◌, ◌∙◌, None, Some, [], IfOk, Err, true, sym, ap, ap₂, subst, map}
use Rattle.std.specs.Prelude.{IsErrAnd, encode_utf8_all}
use Rattle.clap.specs.Faults.{fault_of, is_simple_and_free}
use Rattle.clap.specs.Simple.{HasMatchesOf, app_of}
use Rattle.command_words.specs.Commands.{AreWithinLimits, options_given}
use Rattle.command_words.specs.Parsers.{run_app}
use Rattle.command_words.specs.declared.words.WordsRefused.TheVariants.{Bad}
use Rattle.command_words.proofs.Answers.{answered, found_options, no_mark, passed_up, refused_options}
use Rattle.command_words.proofs.RunRules.{run_simple}
use Rattle.command_words.proofs.words.options_in.Goals as goal

pub returns-in_err-matches-clause-refused : goal.returns-in_err-matches-clause-refused
returns-in_err-matches-clause-refused c is =
    let words = c.args.words.now in
    let refs = c.as_slice.result.now in
    let e = c.in_err-matches.field-0.0 in
    let up : IsErrAnd c.from_residual-in_err-matches.result (λ y. y ≡ e) = c.from_residual-in_err-matches.ensures.1 in
    let bad : e ≡ Bad = passed_up c.from_residual-in_err-matches.result e Bad up is in
    let are : map (λ r. r.now) refs ≡ map encode_utf8_all words = ap (map (λ r. r.now)) c.as_slice.ensures.value ∙ c.in_ok-texts.ensures.texts in
    let app : app_of c.in_ok-command.command ≡ run_app = c.in_ok-command.ensures in
    let simple : is_simple_and_free (app_of c.in_ok-command.command) ≡ true = ap is_simple_and_free app ∙ run_simple in
    refused_options words c.in_ok-texts.ensures.proper (λ marks none.
    c.in_err-matches.ensures.refused simple (ap Err bad) (no_mark words refs are ∙ marks) (ap₂ fault_of app are ∙ none))

found : (c : goal.After-drop-texts-2) → IfOk c.ok_or.result (λ o. options_given c.args.words.now ≡ Some o) × IfOk c.ok_or.result AreWithinLimits
    × (c.ok_or.result ≡ Err Bad → options_given c.args.words.now ≡ None)
found c =
    let words = c.args.words.now in
    let refs = c.as_slice.result.now in
    let m = c.in_ok-matches.matches in
    let are : map (λ r. r.now) refs ≡ map encode_utf8_all words = ap (map (λ r. r.now)) c.as_slice.ensures.value ∙ c.in_ok-texts.ensures.texts in
    let app : app_of c.in_ok-command.command ≡ run_app = c.in_ok-command.ensures in
    let simple : is_simple_and_free (app_of c.in_ok-command.command) ≡ true = ap is_simple_and_free app ∙ run_simple in
    let matches : HasMatchesOf run_app (map encode_utf8_all words) m = subst (λ a. HasMatchesOf a (map encode_utf8_all words) m) app (subst (λ t. HasMatchesOf (app_of c.in_ok-command.command) t m) are c.in_ok-matches.ensures.matches) in
    let passed : fault_of run_app (map encode_utf8_all words) ≡ [] = sym (ap₂ fault_of app are) ∙ c.in_ok-matches.ensures.passes simple in
    let read = found_options words m c.options_of.result c.in_ok-texts.ensures.proper (sym (no_mark words refs are) ∙ c.in_ok-matches.ensures.marks) passed matches c.options_of.ensures in
    answered words c.options_of.result c.ok_or.result read c.ok_or.ensures.value

pub returns-clause-options : goal.returns-clause-options
returns-clause-options c = (found c).0

pub returns-clause-limits : goal.returns-clause-limits
returns-clause-limits c = (found c).1

pub returns-clause-refused : goal.returns-clause-refused
returns-clause-refused c = (found c).2
