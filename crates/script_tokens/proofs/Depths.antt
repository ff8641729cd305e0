-- Brackets that stand open after the first tokens.
use Rattle.std.proofs.Common.{◌≡◌, ◌↔◌, ◌⊎◌, ⊎_elim, ℕ, zero, suc, ◌+◌, ◌-◌, ◌<◌, ◌≤◌, List, [], ◌∷◌, length, get_or, take, drop, sym, ◌∙◌, ap, subst, arith}
use Rattle.std.proofs.lemmas.Bool.{cases_lt}
use Rattle.std.proofs.Math.Seq.{drop-cons}
use Rattle.std.proofs.lemmas.List.{take_all}
use Rattle.script_tokens.specs.declared.token.Symbol.TheVariants as mark
use Rattle.script_tokens.specs.declared.token.Token.{Token}
use Rattle.script_tokens.specs.declared.token.Token.TheVariants.{Name, Int, Text, Word, Mark}
use Rattle.script_tokens.specs.Refusals.{IsTooDeepAt}
use Rattle.script_tokens.specs.Shallow.{IsShallow}

-- what holds of the tokens after one holds of fewer
shallow_after : (n : ℕ) (t : Token) (us vs : List Token) → ((m : ℕ) → IsShallow m us → IsShallow m vs) → IsShallow n (t ∷ us) → IsShallow n (t ∷ vs)
shallow_after n (Name x) us vs less s = less n s
shallow_after n (Int x) us vs less s = less n s
shallow_after n (Text x) us vs less s = less n s
shallow_after n (Word x) us vs less s = less n s
shallow_after n (Mark mark.OpenParenthesis) us vs less s = (s.0, less (suc n) s.1)
shallow_after n (Mark mark.CloseParenthesis) us vs less s = less (n - 1) s
shallow_after n (Mark mark.OpenBrace) us vs less s = (s.0, less (suc n) s.1)
shallow_after n (Mark mark.CloseBrace) us vs less s = less (n - 1) s
shallow_after n (Mark mark.OpenBracket) us vs less s = (s.0, less (suc n) s.1)
shallow_after n (Mark mark.CloseBracket) us vs less s = less (n - 1) s
shallow_after n (Mark mark.Comma) us vs less s = less n s
shallow_after n (Mark mark.Semicolon) us vs less s = less n s
shallow_after n (Mark mark.Dot) us vs less s = less n s
shallow_after n (Mark mark.Colon) us vs less s = less n s
shallow_after n (Mark mark.Equal) us vs less s = less n s
shallow_after n (Mark mark.EqualEqual) us vs less s = less n s
shallow_after n (Mark mark.BangEqual) us vs less s = less n s
shallow_after n (Mark mark.Less) us vs less s = less n s
shallow_after n (Mark mark.LessEqual) us vs less s = less n s
shallow_after n (Mark mark.Greater) us vs less s = less n s
shallow_after n (Mark mark.GreaterEqual) us vs less s = less n s
shallow_after n (Mark mark.Plus) us vs less s = less n s
shallow_after n (Mark mark.Minus) us vs less s = less n s
shallow_after n (Mark mark.Star) us vs less s = less n s
shallow_after n (Mark mark.Slash) us vs less s = less n s
shallow_after n (Mark mark.Percent) us vs less s = less n s
shallow_after n (Mark mark.Ampersand) us vs less s = less n s
shallow_after n (Mark mark.Bar) us vs less s = less n s
shallow_after n (Mark mark.Bang) us vs less s = less n s

-- no more brackets stand open in fewer tokens
pub shallow_before : (ts : List Token) (i j n : ℕ) → i ≤ j → IsShallow n (take j ts) → IsShallow n (take i ts)
shallow_before [] zero j n less s = tt
shallow_before [] (suc i) j n less s = tt
shallow_before (t ∷ ts) zero j n less s = tt
shallow_before (t ∷ ts) (suc i) zero n less s = absurd (omega (arith, less))
shallow_before (t ∷ ts) (suc i) (suc j) n less s = shallow_after n t (take j ts) (take i ts) (λ m. shallow_before ts i j m (omega (arith, less))) s

not_before : (ts : List Token) (i j : ℕ) → IsTooDeepAt ts i → IsTooDeepAt ts j → i < j → ⊥
not_before ts i j a b less = a.here (shallow_before ts (suc i) j 0 (omega (arith, less)) b.before)

-- one token at most is the first that is too deep
pub one_depth : (ts : List Token) (i j : ℕ) → IsTooDeepAt ts i → IsTooDeepAt ts j → i ≡ j
one_depth ts i j a b = ⊎_elim (λ less. absurd (not_before ts i j a b less))
    (λ most. ⊎_elim (λ less. absurd (not_before ts j i b a less)) (λ least. omega (arith, most, least)) (cases_lt j i)) (cases_lt i j)

pub not_too_deep : (ts : List Token) (i : ℕ) → IsShallow 0 ts → IsTooDeepAt ts i → ⊥
not_too_deep ts i s deep =
    deep.here (shallow_before ts (suc i) (suc i + length ts) 0 (omega arith) (subst (IsShallow 0) (sym (take_all (suc i + length ts) ts (omega arith))) s))

-- after the first tokens so many brackets stand open, whatever follows
abbrev pub HasOpen : List Token → ℕ → ℕ → Type 0
HasOpen ts at brackets = (k : ℕ) → IsShallow 0 (take (at + k) ts) ↔ IsShallow brackets (take k (drop at ts))

pub none_open : (ts : List Token) → HasOpen ts 0 0
none_open ts k =
    let same : 0 + k ≡ k = omega arith in
    (λ s. subst (λ n. IsShallow 0 (take n ts)) same s, λ s. subst (λ n. IsShallow 0 (take n ts)) (sym same) s)

next_is : (ts : List Token) (at : ℕ) (t : Token) (k : ℕ) → at < length ts → t ≡ get_or ts at t → take (suc k) (drop at ts) ≡ t ∷ take k (drop (suc at) ts)
next_is ts at t k within is = ap (take (suc k)) (drop-cons ts at t within ∙ ap (λ x. x ∷ drop (suc at) ts) (sym is))

pub opened_more : (ts : List Token) (at before after : ℕ) (t : Token) → HasOpen ts at before → at < length ts → t ≡ get_or ts at t
    → ((us : List Token) → IsShallow before (t ∷ us) ↔ IsShallow after us) → HasOpen ts (at + 1) after
opened_more ts at before after t has within is step k =
    let place : at + suc k ≡ at + 1 + k = omega arith in
    let next : suc at ≡ at + 1 = omega arith in
    let us = take k (drop (at + 1) ts) in
    let first : take (suc k) (drop at ts) ≡ t ∷ us = next_is ts at t k within is ∙ ap (λ n. t ∷ take k (drop n ts)) next in (
      λ s. (step us).0 (subst (IsShallow before) first ((has (suc k)).0 (subst (λ n. IsShallow 0 (take n ts)) (sym place) s))),
      λ s. subst (λ n. IsShallow 0 (take n ts)) place ((has (suc k)).1 (subst (IsShallow before) (sym first) ((step us).1 s))),
    )

pub deep_here : (ts : List Token) (at brackets : ℕ) (t : Token) → HasOpen ts at brackets → at < length ts → t ≡ get_or ts at t
    → ((us : List Token) → IsShallow brackets (t ∷ us) → ⊥) → IsTooDeepAt ts at
deep_here ts at brackets t has within is none =
    let place : at + 0 ≡ at = omega arith in
    let next : at + 1 ≡ suc at = omega arith in
    record {
      before = subst (λ n. IsShallow 0 (take n ts)) place ((has 0).1 tt);
      here = λ s. none [] (subst (IsShallow brackets) (next_is ts at t 0 within is) ((has 1).0 (subst (λ n. IsShallow 0 (take n ts)) (sym next) s)));
    }

pub all_shallow : (ts : List Token) (at brackets : ℕ) → HasOpen ts at brackets → length ts ≤ at → IsShallow 0 ts
all_shallow ts at brackets has end =
    let place : at + 0 ≡ at = omega arith in
    subst (IsShallow 0) (take_all at ts end) (subst (λ n. IsShallow 0 (take n ts)) place ((has 0).1 tt))
