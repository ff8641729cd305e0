-- The longest run of characters that pass a test, and the lexemes that are such runs.
use Rattle.std.proofs.Common.{◌≡◌, ℕ, suc, ◌+◌, ◌<◌, ◌≤◌, Bool, true, false, cond, ◌&&◌, List, [], ◌∷◌, ◌++◌, length, take, drop, refl, sym, ◌∙◌, ap, subst, arith}
use Rattle.std.specs.List.{list_all, prefix_len}
use Rattle.std.specs.Char.{is_ascii_digit}
use Rattle.std.proofs.lemmas.Bool.{and_parts}
use Rattle.std.proofs.lemmas.List.Folds.{list_all-append}
use Rattle.std.proofs.lemmas.List.Sums.{prefix_len-le-length}
use Rattle.unicode_ident.specs.Ident.{is_xid_continue}
use Rattle.script_tokens.specs.Lexemes.{IsWord, IsDigits, IsLexeme, Longest}
use Rattle.script_tokens.specs.Lexemes.IsLexeme.{OfWord, OfDigits, OfText, OfSymbol}
use Rattle.script_tokens.specs.TextFronts.{BeginsWord, BeginsDigits}
use Rattle.script_tokens.proofs.FirstCharacters.{first_kind, words_kind, digits_kind, quoted_kind, symbol_kind, word_continues}

-- a run of characters that pass stops here
abbrev pub StopsAt : (ℕ → Bool) → List ℕ → Type 0
StopsAt p [] = Unit {0}
StopsAt p (c ∷ cs) = p c ≡ false

pub run_passes : (p : ℕ → Bool) (cs : List ℕ) → list_all p (take (prefix_len p cs) cs) ≡ true
run_passes p [] = refl
run_passes p (c ∷ cs) =
    elim (p c) as (λ b. p c ≡ b → list_all p (take (cond b (1 + prefix_len p cs) 0) (c ∷ cs)) ≡ true) [
      | true ↦ λ is. let e : 1 + prefix_len p cs ≡ suc (prefix_len p cs) = omega arith in rw (e, is) (run_passes p cs)
      | false ↦ λ _. refl
    ] refl

pub run_stops : (p : ℕ → Bool) (cs : List ℕ) → StopsAt p (drop (prefix_len p cs) cs)
run_stops p [] = tt
run_stops p (c ∷ cs) =
    elim (p c) as (λ b. p c ≡ b → StopsAt p (drop (cond b (1 + prefix_len p cs) 0) (c ∷ cs))) [
      | true ↦ λ is. let e : 1 + prefix_len p cs ≡ suc (prefix_len p cs) = omega arith in rw e (run_stops p cs)
      | false ↦ λ is. is
    ] refl

-- a run that begins has a first character
pub run_begins : (p : ℕ → Bool) (c : ℕ) (cs : List ℕ) → p c ≡ true → prefix_len p (c ∷ cs) ≡ suc (prefix_len p cs)
run_begins p c cs is = let e : 1 + prefix_len p cs ≡ suc (prefix_len p cs) = omega arith in rw (is, e)

-- no run goes on where it stops
stopped : (p : ℕ → Bool) (cs more rest after : List ℕ) → list_all p (cs ++ more) ≡ true → StopsAt p rest → rest ≡ more ++ after → more ≡ []
stopped p cs [] rest after pass stop is = refl
stopped p cs (m ∷ ms) rest after pass stop is =
    let passes : p m ≡ true = (and_parts (p m) (list_all p ms) ((and_parts (list_all p cs) (list_all p (m ∷ ms)) (sym (list_all-append p cs (m ∷ ms)) ∙ pass)).1)).0 in
    let stops : p m ≡ false = subst (StopsAt p) is stop in
    cc

pub word_longest : (front rest : List ℕ) → IsWord front → StopsAt is_xid_continue rest → Longest front rest
word_longest [] rest word stop = absurd word
word_longest (c ∷ cs) rest word stop =
    let kind = words_kind (c ∷ cs) word in
    let longest : (more after : List ℕ) → rest ≡ more ++ after → IsLexeme (c ∷ (cs ++ more)) → more ≡ []
    = λ more after is lexeme. elim lexeme as (λ _. more ≡ []) [
      | OfWord w ↦ stopped is_xid_continue cs more rest after w.1 stop is
      | OfDigits d ↦ let other = digits_kind (c ∷ (cs ++ more)) d in cc
      | OfText text q ↦ let other = quoted_kind (c ∷ (cs ++ more)) text q.0 in cc
      | OfSymbol s e ↦ let other = ap first_kind e ∙ symbol_kind s in cc
    ] in
    record { lexeme = OfWord word; longest = longest }

pub digits_longest : (front rest : List ℕ) → IsDigits front → StopsAt is_ascii_digit rest → Longest front rest
digits_longest [] rest digits stop = absurd digits
digits_longest (c ∷ cs) rest digits stop =
    let kind = digits_kind (c ∷ cs) digits in
    let longest : (more after : List ℕ) → rest ≡ more ++ after → IsLexeme (c ∷ (cs ++ more)) → more ≡ []
    = λ more after is lexeme. elim lexeme as (λ _. more ≡ []) [
      | OfWord w ↦ let other = words_kind (c ∷ (cs ++ more)) w in cc
      | OfDigits d ↦ stopped is_ascii_digit cs more rest after d.1 stop is
      | OfText text q ↦ let other = quoted_kind (c ∷ (cs ++ more)) text q.0 in cc
      | OfSymbol s e ↦ let other = ap first_kind e ∙ symbol_kind s in cc
    ] in
    record { lexeme = OfDigits digits; longest = longest }

-- what a run at the front of a text is
pub record IsRun (Lexes : List ℕ → Type 0) (cs : List ℕ) (n : ℕ) : Type 0 where
  pub some : 0 < n
  pub within : n ≤ length cs
  pub lexes : Lexes (take n cs)
  pub longest : Longest (take n cs) (drop n cs)

word_run_of : (cs : List ℕ) → BeginsWord cs → IsRun IsWord cs (prefix_len is_xid_continue cs)
word_run_of [] begins = absurd begins
word_run_of (c ∷ cs) begins =
    let begun = run_begins is_xid_continue c cs (word_continues c begins) in
    let word : IsWord (take (prefix_len is_xid_continue (c ∷ cs)) (c ∷ cs)) = rw begun (begins, run_passes is_xid_continue cs) in
    record {
      some = omega arith;
      within = prefix_len-le-length is_xid_continue (c ∷ cs);
      lexes = word;
      longest = word_longest _ _ word (run_stops is_xid_continue (c ∷ cs));
    }

digits_run_of : (cs : List ℕ) → BeginsDigits cs → IsRun IsDigits cs (prefix_len is_ascii_digit cs)
digits_run_of [] begins = absurd begins
digits_run_of (c ∷ cs) begins =
    let begun = run_begins is_ascii_digit c cs begins in
    let digits : IsDigits (take (prefix_len is_ascii_digit (c ∷ cs)) (c ∷ cs)) = rw begun (begins, run_passes is_ascii_digit cs) in
    record {
      some = omega arith;
      within = prefix_len-le-length is_ascii_digit (c ∷ cs);
      lexes = digits;
      longest = digits_longest _ _ digits (run_stops is_ascii_digit (c ∷ cs));
    }

pub word_run : (cs : List ℕ) (n : ℕ) → BeginsWord cs → n ≡ prefix_len is_xid_continue cs → IsRun IsWord cs n
word_run cs n begins is = subst (IsRun IsWord cs) (sym is) (word_run_of cs begins)

pub digits_run : (cs : List ℕ) (n : ℕ) → BeginsDigits cs → n ≡ prefix_len is_ascii_digit cs → IsRun IsDigits cs n
digits_run cs n begins is = subst (IsRun IsDigits cs) (sym is) (digits_run_of cs begins)
