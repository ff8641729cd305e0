-- From the lexeme, blank or comment at the front of a text to what stands there.
use Rattle.std.proofs.Common.{◌≡◌, ◌≢◌, ℕ, suc, ◌+◌, ◌<◌, ◌≤◌, Bool, true, not, List, [], ◌∷◌, length, get_or, take, drop, refl, sym, ◌∙◌, ap, subst, arith, take-append-drop}
use Rattle.std.specs.Prelude.{◌==◌, Some, None}
use Rattle.std.specs.List.{list_all, prefix_len}
use Rattle.std.proofs.lemmas.Bool.{and_parts}
use Rattle.std.proofs.lemmas.Bool.Decides.{nat_tests}
use Rattle.std.proofs.lemmas.List.Sums.{prefix_len-le-length}
use Rattle.script_tokens.specs.declared.token.Token.{Token}
use Rattle.script_tokens.specs.Lexemes.{is_blank, Longest, Means, EndsLine, HasNoLineFeed, BeginsNoToken}
use Rattle.script_tokens.specs.Lexemes.Piece.{Blank, Comment, Lexeme}
use Rattle.script_tokens.specs.TextFronts.{MeansNothing, IsFront}
use Rattle.script_tokens.proofs.FrontPieces.{bad_lexeme}
use Rattle.script_tokens.proofs.LexemeRuns.{IsRun, StopsAt, run_passes, run_stops}

-- a token at the front
pub lexeme_front : (cs : List ℕ) (n : ℕ) (t : Token) → 0 < n → n ≤ length cs → Longest (take n cs) (drop n cs) → Means (take n cs) t
    → IsFront cs (record { length = n; token = Some t })
lexeme_front cs n t some within longest means = record {
  some = some;
  within = within;
  piece = Lexeme (take n cs);
  text = sym (take-append-drop n cs);
  stands = longest;
  tokens = (means, refl);
}

pub blank_front : (cs : List ℕ) (x : ℕ) → cs ≢ [] → x ≡ get_or cs 0 x → is_blank x ≡ true → IsFront cs (record { length = 1; token = None })
blank_front [] x some is blank = absurd (some refl)
blank_front (c ∷ cs) x some is blank =
    record { some = omega arith; within = omega arith; piece = Blank c; text = refl; stands = ap is_blank (sym is) ∙ blank; tokens = refl }

no_ten : (c : ℕ) → not (c == 10) ≡ true → c ≢ 10
no_ten c pass is = grind (arith, nat_tests)

no_line_feed : (cs : List ℕ) → list_all (λ c. not (c == 10)) cs ≡ true → HasNoLineFeed cs
no_line_feed [] pass = tt
no_line_feed (c ∷ cs) pass =
    let rest = list_all (λ c. not (c == 10)) cs in
    (no_ten c ((and_parts (not (c == 10)) rest pass).0), no_line_feed cs ((and_parts (not (c == 10)) rest pass).1))

ends_line : (cs : List ℕ) → StopsAt (λ c. not (c == 10)) cs → EndsLine cs
ends_line [] stop = tt
ends_line (c ∷ cs) stop = grind (arith, nat_tests)

comment_at : (cs : List ℕ) → IsFront (35 ∷ cs) (record { length = prefix_len (λ c. not (c == 10)) (35 ∷ cs); token = None })
comment_at cs =
    let no_ten : ℕ → Bool = λ c. not (c == 10) in
    let begun : 1 + prefix_len no_ten cs ≡ suc (prefix_len no_ten cs) = omega arith in
    record {
      some = omega arith;
      within = prefix_len-le-length no_ten (35 ∷ cs);
      piece = Comment (take (prefix_len no_ten cs) cs);
      text = rw begun (ap (λ x. 35 ∷ x) (sym (take-append-drop (prefix_len no_ten cs) cs)));
      stands = (no_line_feed _ (run_passes no_ten cs), rw begun (ends_line _ (run_stops no_ten cs)));
      tokens = refl;
    }

pub comment_front : (cs : List ℕ) (x n : ℕ) → cs ≢ [] → x ≡ get_or cs 0 x → x ≡ 35 → n ≡ prefix_len (λ c. not (c == 10)) cs
    → IsFront cs (record { length = n; token = None })
comment_front [] x n some is sign length = absurd (some refl)
comment_front (c ∷ cs) x n some is sign length =
    let first : 35 ≡ c = sym sign ∙ is in
    let front : IsFront (c ∷ cs) (record { length = prefix_len (λ c. not (c == 10)) (c ∷ cs); token = None })
    = subst (λ d. IsFront (d ∷ cs) (record { length = prefix_len (λ c. not (c == 10)) (d ∷ cs); token = None })) first (comment_at cs) in
    subst (λ m. IsFront (c ∷ cs) (record { length = m; token = None })) (sym length) front

-- a run at the front that means a token, and one that means none
pub run_front : (Lexes : List ℕ → Type 0) (cs : List ℕ) (n : ℕ) (t : Token) → IsRun Lexes cs n → Means (take n cs) t → IsFront cs (record { length = n; token = Some t })
run_front Lexes cs n t run means = lexeme_front cs n t run.some run.within run.longest means

pub run_bad : (Lexes : List ℕ → Type 0) (cs : List ℕ) (n : ℕ) → IsRun Lexes cs n → MeansNothing (take n cs) → BeginsNoToken cs
run_bad Lexes cs n run nothing = bad_lexeme (take n cs) (drop n cs) cs (sym (take-append-drop n cs)) run.longest nothing
