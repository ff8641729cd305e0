-- A text between quotation marks is read in one way: each escape, and the end, by its first characters.
use Rattle.std.proofs.Common.{◌≡◌, ℕ, true, false, cond, List, [], ◌∷◌, ◌++◌, refl, sym, ◌∙◌, ap, subst, append_assoc, append-nil}
use Rattle.std.specs.Prelude.{◌==◌}
use Rattle.std.specs.List.{flat_map}
use Rattle.std.proofs.lemmas.Bool.{eqb-true}
use Rattle.dyn_value.specs.Texts.{escaped, quoted_text}

-- what stands first: a character, and what comes after it
data First : Type 0 where
  Of : (c : ℕ) → (after : List ℕ) → First

meant : ℕ → ℕ
meant e = cond (e == 110) 10 (cond (e == 116) 9 e)

after_backslash : List ℕ → First
after_backslash [] = First.Of 0 []
after_backslash (e ∷ after) = First.Of (meant e) after

first_of : List ℕ → First
first_of [] = First.Of 0 []
first_of (c ∷ cs) = cond (c == 92) (after_backslash cs) (First.Of c cs)

plain_first : (c : ℕ) (after : List ℕ) → (c == 92) ≡ false → escaped c ≡ c ∷ [] → first_of (escaped c ++ after) ≡ First.Of c after
unfolding first_of
plain_first c after other plain =
    let first : first_of (c ∷ after) ≡ First.Of c after = rw other in
    ap (λ x. first_of (x ++ after)) plain ∙ first

first_escaped : (c : ℕ) (after : List ℕ) → first_of (escaped c ++ after) ≡ First.Of c after
unfolding first_of after_backslash meant
first_escaped c after = elim (c == 34) as (λ b. (c == 34) ≡ b → first_of (escaped c ++ after) ≡ First.Of c after) [
  | true ↦ λ quote. subst (λ d. first_of (escaped d ++ after) ≡ First.Of d after) (sym (eqb-true c 34 quote)) refl
  | false ↦ λ quote. elim (c == 92) as (λ b. (c == 92) ≡ b → first_of (escaped c ++ after) ≡ First.Of c after) [
    | true ↦ λ backslash. subst (λ d. first_of (escaped d ++ after) ≡ First.Of d after) (sym (eqb-true c 92 backslash)) refl
    | false ↦ λ backslash. elim (c == 10) as (λ b. (c == 10) ≡ b → first_of (escaped c ++ after) ≡ First.Of c after) [
      | true ↦ λ feed. subst (λ d. first_of (escaped d ++ after) ≡ First.Of d after) (sym (eqb-true c 10 feed)) refl
      | false ↦ λ feed. elim (c == 9) as (λ b. (c == 9) ≡ b → first_of (escaped c ++ after) ≡ First.Of c after) [
        | true ↦ λ tab. subst (λ d. first_of (escaped d ++ after) ≡ First.Of d after) (sym (eqb-true c 9 tab)) refl
        | false ↦ λ tab. plain_first c after backslash (rw (quote, backslash, feed, tab))
      ] refl
    ] refl
  ] refl
] refl

escape_same : (c d : ℕ) (a b : List ℕ) → escaped c ++ a ≡ escaped d ++ b → (c ≡ d) × (a ≡ b)
escape_same c d a b e =
    let same : First.Of c a ≡ First.Of d b = sym (first_escaped c a) ∙ ap first_of e ∙ first_escaped d b in
    let first : c ≡ d = cc in
    let rest : a ≡ b = cc in
    (first, rest)

-- no character is written so that a quotation mark stands first
pub no_quote_first : (c : ℕ) (a b : List ℕ) → escaped c ++ a ≡ 34 ∷ b → ⊥
unfolding first_of
no_quote_first c a b e =
    let same : First.Of c a ≡ First.Of 34 b = sym (first_escaped c a) ∙ ap first_of e in
    let is : c ≡ 34 = cc in
    let quote : escaped 34 ++ a ≡ 34 ∷ b = subst (λ d. escaped d ++ a ≡ 34 ∷ b) is e in
    cc

-- the characters after those that are read
pub record ReadOn (content text rest after : List ℕ) : Type 0 where
  pub more : List ℕ
  pub longer : text ≡ content ++ more
  pub rest_is : rest ≡ flat_map escaped more ++ 34 ∷ after

pub reads_on : (content text rest after : List ℕ) → flat_map escaped content ++ rest ≡ flat_map escaped text ++ 34 ∷ after → ReadOn content text rest after
reads_on [] text rest after e = record { more = text; longer = refl; rest_is = e }
reads_on (c ∷ content) [] rest after e =
    absurd (no_quote_first c (flat_map escaped content ++ rest) after (sym (append_assoc (escaped c) (flat_map escaped content) rest) ∙ e))
reads_on (c ∷ content) (d ∷ text) rest after e =
    let same = escape_same c d (flat_map escaped content ++ rest) (flat_map escaped text ++ 34 ∷ after)
    (sym (append_assoc (escaped c) (flat_map escaped content) rest) ∙ e ∙ append_assoc (escaped d) (flat_map escaped text) (34 ∷ after)) in
    let first = same.0 in
    let on = reads_on content text rest after same.1 in
    let longer = on.longer in
    record { more = on.more; longer = cc; rest_is = on.rest_is }

-- before a quotation mark no further character is read
pub ends_here : (more rest after : List ℕ) → 34 ∷ rest ≡ flat_map escaped more ++ 34 ∷ after → (more ≡ []) × (rest ≡ after)
ends_here [] rest after e = let same : rest ≡ after = cc in (refl, same)
ends_here (c ∷ more) rest after e =
    absurd (no_quote_first c (flat_map escaped more ++ 34 ∷ after) rest (sym (append_assoc (escaped c) (flat_map escaped more) (34 ∷ after)) ∙ sym e))

-- two texts between quotation marks, each with something after it
pub quoted_begins : (text other a b : List ℕ) → quoted_text text ++ a ≡ quoted_text other ++ b → (text ≡ other) × (a ≡ b)
quoted_begins text other a b e =
    let inner : (flat_map escaped text ++ 34 ∷ []) ++ a ≡ (flat_map escaped other ++ 34 ∷ []) ++ b = cc in
    let on = reads_on text other (34 ∷ a) b (sym (append_assoc (flat_map escaped text) (34 ∷ []) a) ∙ inner ∙ append_assoc (flat_map escaped other) (34 ∷ []) b) in
    let end = ends_here on.more a b on.rest_is in
    (sym (append-nil text) ∙ ap (λ m. text ++ m) (sym end.0) ∙ sym on.longer, end.1)

pub quoted_same : (text other : List ℕ) → quoted_text text ≡ quoted_text other → text ≡ other
quoted_same text other e = (quoted_begins text other [] [] (ap (λ x. x ++ []) e)).0
