-- From what a parse answers to what the words ask for.
use Rattle.std.proofs.Common.{◌≡◌, ◌≢◌, ◌∙◌, ◌≤◌, inl, inr, ℕ, Bool, true, false, cond, refl, sym, ap, subst, List, [], ◌∷◌, map, Option, Some, None, Result, Ok, Err, IfOk, codes, arith}
use Rattle.std.specs.Prelude.{IfSome, IsErrAnd, encode_utf8_all, nat_lt, option_and_then, option_map, ◌||◌}
use Rattle.std.specs.Borrow.{Bor}
use Rattle.std.specs.List.{list_all, list_any}
use Rattle.std.specs.Option.{ok_or}
use Rattle.std.proofs.lemmas.Bool.Decides.{nat_tests}
use Rattle.clap.proofs.WalkLemmas.{list_any-map}
use Rattle.clap.specs.Simple.{HasMatchesOf}
use Rattle.clap.specs.Faults.{fault_of}
use Rattle.clap.specs.Walk.{Text}
use Rattle.clap.specs.declared.parser.matches.ArgMatches.{ArgMatches}
use Rattle.command_words.specs.Commands.{AreWithinLimits, Given, none_given, number_of, number_within, options_after, options_by, options_given, options_with, within}
use Rattle.command_words.specs.Parsers.{HasGiven, are_characters, bare_app, is_end_mark, run_app}
use Rattle.command_words.specs.declared.words.Options.{Options}
use Rattle.command_words.specs.declared.words.WordsRefused.{WordsRefused}
use Rattle.command_words.specs.declared.words.WordsRefused.TheVariants.{Bad}
use Rattle.command_words.proofs.Kept.{end_mark}
use Rattle.command_words.proofs.Parses.{are_words, check_reads, run_reads}

-- the words have no `--`, by the references to their texts
pub no_mark : (words : List Text) (refs : List (Bor Text)) → map (λ r. r.now) refs ≡ map encode_utf8_all words → list_any (λ r. is_end_mark r.now) refs ≡ list_any is_end_mark (map encode_utf8_all words)
no_mark words refs are = list_any-map is_end_mark (λ (r : Bor Text). r.now) refs ∙ ap (list_any is_end_mark) are

-- what a parse found is what the words ask for
pub found_options : (words : List Text) (m : ArgMatches) (r : Option Options) → list_all are_characters words ≡ true
    → list_any is_end_mark (map encode_utf8_all words) ≡ false → fault_of run_app (map encode_utf8_all words) ≡ []
    → HasMatchesOf run_app (map encode_utf8_all words) m → ((g : Given) → HasGiven g m → r ≡ options_by g) → r ≡ options_given words
found_options words m r proper marks passed matches read = elim (run_reads (map encode_utf8_all words) (are_words words proper marks)) [
  | inl p ↦ read p.1.0 (p.1.2 m matches) ∙ sym (ap (option_and_then options_by) p.1.1)
  | inr p ↦ absurd (p.0 passed)
]

-- words that a parse refuses ask for nothing
pub refused_options : (words : List Text) → list_all are_characters words ≡ true
    → (list_any is_end_mark (map encode_utf8_all words) ≡ false → fault_of run_app (map encode_utf8_all words) ≢ []) → options_given words ≡ None
refused_options words proper fails = by (list_any is_end_mark (map encode_utf8_all words)) refl
  where
    by : (b : Bool) → list_any is_end_mark (map encode_utf8_all words) ≡ b → options_given words ≡ None
    by true e = end_mark (map encode_utf8_all words) none_given e
    by false e = elim (run_reads (map encode_utf8_all words) (are_words words proper e)) [
      | inl p ↦ absurd (fails e p.0)
      | inr p ↦ p.1
    ]

few_within : (o : Option Text) → IfSome (number_within 0 4032 4032 o) (λ n. n ≤ 4032)
few_within None = omega arith
few_within (Some t) = on (number_of t)
  where
    kept : (n : ℕ) (b : Bool) → nat_lt 4032 n ≡ b → IfSome (cond (nat_lt n 0 || b) None (Some n)) (λ k. k ≤ 4032)
    kept n true e = none (nat_lt n 0)
      where
        none : (b : Bool) → IfSome (cond (b || true) None (Some n)) (λ k. k ≤ 4032)
        none true = tt
        none false = tt
    kept n false e = some (nat_lt n 0)
      where
        few : n ≤ 4032
        few = grind (arith, nat_tests)

        some : (b : Bool) → IfSome (cond (b || false) None (Some n)) (λ k. k ≤ 4032)
        some true = tt
        some false = few

    on : (o : Option ℕ) → IfSome (option_and_then (within 0 4032) o) (λ n. n ≤ 4032)
    on None = tt
    on (Some n) = kept n (nat_lt 4032 n) refl

few_options : (g : Given) → IfSome (options_by g) AreWithinLimits
few_options g = by (number_within 1 1000000 100000 g.turns)
  where
    objects : (n : ℕ) (o : Option ℕ) → IfSome o (λ k. k ≤ 4032) → IfSome (option_map (options_with g n) o) AreWithinLimits
    objects n None h = tt
    objects n (Some k) h = h

    by : (o : Option ℕ) → IfSome (option_and_then (λ turns. option_map (options_with g turns) (number_within 0 4032 4032 g.objects)) o) AreWithinLimits
    by None = tt
    by (Some n) = objects n (number_within 0 4032 4032 g.objects) (few_within g.objects)

few_given : (words : List Text) → IfSome (options_given words) AreWithinLimits
few_given words = by (options_after (map encode_utf8_all words) none_given)
  where
    by : (o : Option Given) → IfSome (option_and_then options_by o) AreWithinLimits
    by None = tt
    by (Some g) = few_options g

-- the answer, from the options that were found
pub answered : (words : List Text) (r : Option Options) (a : Result Options WordsRefused) → r ≡ options_given words → a ≡ ok_or r Bad
    → IfOk a (λ o. options_given words ≡ Some o) × IfOk a AreWithinLimits × (a ≡ Err Bad → options_given words ≡ None)
answered words r a is gives = by r is a gives
  where
    by : (r : Option Options) → r ≡ options_given words → (a : Result Options WordsRefused) → a ≡ ok_or r Bad
        → IfOk a (λ o. options_given words ≡ Some o) × IfOk a AreWithinLimits × (a ≡ Err Bad → options_given words ≡ None)
    by None e a g = subst (λ x. IfOk x (λ o. options_given words ≡ Some o) × IfOk x AreWithinLimits × (x ≡ Err Bad → options_given words ≡ None)) (sym g) (tt, tt, (λ _. sym e))
    by (Some o) e a g =
        subst (λ x. IfOk x (λ o. options_given words ≡ Some o) × IfOk x AreWithinLimits × (x ≡ Err Bad → options_given words ≡ None)) (sym g)
        (sym e, subst (λ p. IfSome p AreWithinLimits) (sym e) (few_given words), (λ bad. cc))

-- an error is passed up as it is
pub passed_up : {T E : Type 0} (r : Result T E) (e x : E) → IsErrAnd r (λ y. y ≡ e) → r ≡ Err x → e ≡ x
passed_up (Ok v) e x h is = cc
passed_up (Err y) e x h is = cc

pub no_words : (words : List Text) → list_all are_characters words ≡ true → list_any is_end_mark (map encode_utf8_all words) ≡ false
    → fault_of (bare_app (codes "check")) (map encode_utf8_all words) ≡ [] → words ≡ []
no_words words proper marks passed = by words (check_reads (map encode_utf8_all words) (are_words words proper marks) passed)
  where
    by : (ws : List Text) → map encode_utf8_all ws ≡ [] → ws ≡ []
    by [] e = refl
    by (w ∷ ws) e = cc
