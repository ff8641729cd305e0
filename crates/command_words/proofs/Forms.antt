-- The forms of a word, as `clap` cuts it and as the options are read.
use Rattle.std.proofs.Common.{◌≡◌, ◌∙◌, ◌++◌, ◌||◌, ◌⊎◌, inl, inr, ℕ, Bool, true, false, cond, not, refl, sym, ap, ap₂, [], ◌∷◌, length, take, drop, Some, None, codes, suc, arith}
use Rattle.std.specs.Prelude.{nat_lt, ◌==◌, option_and_then, ◌+◌}
use Rattle.std.specs.List.{after_first, before_first, list_any, position_or_len}
use Rattle.std.specs.Str.{bytes_eq}
use Rattle.std.proofs.lemmas.Slice.Eq.{bytes_eq-Decides}
use Rattle.std.proofs.lemmas.List.{take-append-drop}
use Rattle.std.proofs.lemmas.Bool.Decides.{Decides-eqb, nat_tests}
use Rattle.clap.specs.Lexer.{long_of, long_of_rest, strip_byte}
use Rattle.clap.specs.Walk.{Text, arg_by_long}
use Rattle.command_words.specs.Commands.{Given, is_equals, with_equals, with_value, with_word}
use Rattle.command_words.proofs.RunRules.{top}

-- ---- the first `=`

one_more : (n : ℕ) → 1 + n ≡ suc n
one_more n = omega arith

less_again : (p n : ℕ) → nat_lt (1 + p) (suc n) ≡ nat_lt p n
less_again p n = grind (arith, nat_tests)

pub mark_at : (t : Text) → nat_lt (position_or_len is_equals t) (length t) ≡ list_any is_equals t
mark_at [] = refl
mark_at (x ∷ xs) = by (is_equals x) (mark_at xs)
  where
    by : (b : Bool) → nat_lt (position_or_len is_equals xs) (length xs) ≡ list_any is_equals xs
        → nat_lt (cond (not b) (1 + position_or_len is_equals xs) 0) (suc (length xs)) ≡ (b || list_any is_equals xs)
    by true e = grind (arith, nat_tests)
    by false e = less_again (position_or_len is_equals xs) (length xs) ∙ e

pub whole_before : (t : Text) → list_any is_equals t ≡ false → before_first is_equals t ≡ t
whole_before [] none = refl
whole_before (x ∷ xs) none = by (is_equals x) (whole_before xs) none
  where
    by : (b : Bool) → (list_any is_equals xs ≡ false → before_first is_equals xs ≡ xs) → (b || list_any is_equals xs) ≡ false
        → take (cond (not b) (1 + position_or_len is_equals xs) 0) (x ∷ xs) ≡ x ∷ xs
    by true rest e = cc
    by false rest e = ap (λ k. take k (x ∷ xs)) (one_more (position_or_len is_equals xs)) ∙ ap (λ l. x ∷ l) (rest e)

-- a word with two hyphens and more, with no `=` and with one
pub long_alone : (x : ℕ) (xs : Text) → list_any is_equals (x ∷ xs) ≡ false → long_of (45 ∷ 45 ∷ x ∷ xs) ≡ Some (x ∷ xs, None)
long_alone x xs none = (λ i. Some (whole_before (x ∷ xs) none i, cond (none i) (Some (after_first is_equals (x ∷ xs))) None))

pub long_equals : (x : ℕ) (xs : Text) → list_any is_equals (x ∷ xs) ≡ true
    → long_of (45 ∷ 45 ∷ x ∷ xs) ≡ Some (before_first is_equals (x ∷ xs), Some (after_first is_equals (x ∷ xs)))
long_equals x xs some = (λ i. Some (before_first is_equals (x ∷ xs), cond (some i) (Some (after_first is_equals (x ∷ xs))) None))

-- ---- names

pub no_answer : (b : Bool) → (b ≡ true → ⊥) → b ≡ false
no_answer true h = absurd (h refl)
no_answer false h = refl

pub turned : (a b : Text) → bytes_eq a b ≡ false → bytes_eq b a ≡ false
turned a b not = no_answer _ (λ e.
    let is : b ≡ a = (bytes_eq-Decides b a).0 e in
    let same : bytes_eq a b ≡ true = (bytes_eq-Decides a b).1 (sym is) in
    cc)

pub record IsOther (n : Text) : Type 0 where
  pub serial : bytes_eq n (codes "serial") ≡ false
  pub journal : bytes_eq n (codes "journal") ≡ false
  pub turns : bytes_eq n (codes "turns") ≡ false
  pub objects : bytes_eq n (codes "objects") ≡ false

pub other_unknown : (n : Text) → IsOther n → arg_by_long top.rules n ≡ None
other_unknown n o = rw (turned n (codes "serial") o.serial, turned n (codes "journal") o.journal, turned n (codes "turns") o.turns, turned n (codes "objects") o.objects) refl

-- the options that have this name
pub named : (n : Text) → (n ≡ codes "serial") ⊎ ((n ≡ codes "journal") ⊎ ((n ≡ codes "turns") ⊎ ((n ≡ codes "objects") ⊎ IsOther n)))
named n = by (bytes_eq n (codes "serial")) (bytes_eq n (codes "journal")) (bytes_eq n (codes "turns")) (bytes_eq n (codes "objects")) refl refl refl refl
  where
    by : (a b c d : Bool) → bytes_eq n (codes "serial") ≡ a → bytes_eq n (codes "journal") ≡ b → bytes_eq n (codes "turns") ≡ c → bytes_eq n (codes "objects") ≡ d
        → (n ≡ codes "serial") ⊎ ((n ≡ codes "journal") ⊎ ((n ≡ codes "turns") ⊎ ((n ≡ codes "objects") ⊎ IsOther n)))
    by true b c d s j t o = inl ((bytes_eq-Decides n (codes "serial")).0 s)
    by false true c d s j t o = inr (inl ((bytes_eq-Decides n (codes "journal")).0 j))
    by false false true d s j t o = inr (inr (inl ((bytes_eq-Decides n (codes "turns")).0 t)))
    by false false false true s j t o = inr (inr (inr (inl ((bytes_eq-Decides n (codes "objects")).0 o))))
    by false false false false s j t o = inr (inr (inr (inr (record { serial = s; journal = j; turns = t; objects = o }))))

-- ---- the shape of a word that is not `--`

first_differs : (a : ℕ) (more : Text) → (a == 45) ≡ false → long_of (a ∷ more) ≡ None
first_differs a more e = ap (λ b. option_and_then long_of_rest (option_and_then (strip_byte 45) (cond b (Some more) None))) e

second_differs : (b : ℕ) (bs : Text) → (b == 45) ≡ false → long_of (45 ∷ b ∷ bs) ≡ None
second_differs b bs e = ap (λ t. option_and_then long_of_rest (cond t (Some bs) None)) e

abbrev pub IsLong : Text → Type 0
IsLong word = (x : ℕ) × (xs : Text) × (word ≡ 45 ∷ 45 ∷ x ∷ xs)

two_hyphens : (a b : ℕ) (cs : Text) → a ≡ 45 → b ≡ 45 → bytes_eq (a ∷ b ∷ cs) (codes "--") ≡ false → IsLong (a ∷ b ∷ cs) ⊎ (long_of (a ∷ b ∷ cs) ≡ None)
two_hyphens a b [] first second bare =
    let same : bytes_eq (a ∷ b ∷ []) (codes "--") ≡ true = (λ i. bytes_eq (first i ∷ second i ∷ []) (codes "--")) in
    cc
two_hyphens a b (c ∷ cs) first second bare = inl (c, cs, (λ i. first i ∷ second i ∷ c ∷ cs))

one_hyphen : (a : ℕ) (bs : Text) → a ≡ 45 → bytes_eq (a ∷ bs) (codes "--") ≡ false → IsLong (a ∷ bs) ⊎ (long_of (a ∷ bs) ≡ None)
one_hyphen a [] first bare = inr (ap (λ x. long_of (x ∷ [])) first)
one_hyphen a (b ∷ cs) first bare = by (b == 45) refl
  where
    by : (t : Bool) → (b == 45) ≡ t → IsLong (a ∷ b ∷ cs) ⊎ (long_of (a ∷ b ∷ cs) ≡ None)
    by true e = two_hyphens a b cs first ((Decides-eqb b 45).0 e) bare
    by false e = inr (ap (λ x. long_of (x ∷ b ∷ cs)) first ∙ second_differs b cs e)

pub shape : (word : Text) → bytes_eq word (codes "--") ≡ false → IsLong word ⊎ (long_of word ≡ None)
shape [] bare = inr refl
shape (a ∷ more) bare = by (a == 45) refl
  where
    by : (t : Bool) → (a == 45) ≡ t → IsLong (a ∷ more) ⊎ (long_of (a ∷ more) ≡ None)
    by true e = one_hyphen a more ((Decides-eqb a 45).0 e) bare
    by false e = inr (first_differs a more e)

-- ---- what the options make of a word

not_long : (word : Text) (x : ℕ) (xs : Text) → long_of word ≡ None → bytes_eq word (45 ∷ 45 ∷ x ∷ xs) ≡ false
not_long word x xs none = no_answer _ (λ e.
    let is : word ≡ 45 ∷ 45 ∷ x ∷ xs = (bytes_eq-Decides word (45 ∷ 45 ∷ x ∷ xs)).0 e in
    let long : long_of (45 ∷ 45 ∷ x ∷ xs) ≡ None = ap long_of (sym is) ∙ none in
    cc)

not_before : (word : Text) (x : ℕ) (xs : Text) → long_of word ≡ None → bytes_eq (before_first is_equals word) (45 ∷ 45 ∷ x ∷ xs) ≡ false
not_before word x xs none = no_answer _ (λ e.
    let n = position_or_len is_equals word in
    let is : take n word ≡ 45 ∷ 45 ∷ x ∷ xs = (bytes_eq-Decides (take n word) (45 ∷ 45 ∷ x ∷ xs)).0 e in
    let whole : word ≡ 45 ∷ 45 ∷ x ∷ (xs ++ drop n word) = sym (take-append-drop n word) ∙ ap (λ t. t ++ drop n word) is in
    let long : long_of (45 ∷ 45 ∷ x ∷ (xs ++ drop n word)) ≡ None = ap long_of (sym whole) ∙ none in
    cc)

no_value : (name value : Text) (g : Given) → bytes_eq name (codes "--turns") ≡ false → bytes_eq name (codes "--objects") ≡ false → with_value name value g ≡ None
no_value name value g turns objects = rw (turns, objects) refl

no_equals : (word : Text) (g : Given) → ((value : Text) → with_value (before_first is_equals word) value g ≡ None) → with_equals word g ≡ None
no_equals word g none = by (nat_lt (position_or_len is_equals word) (length word)) (none (after_first is_equals word))
  where
    by : (b : Bool) → with_value (before_first is_equals word) (after_first is_equals word) g ≡ None
        → cond b (with_value (before_first is_equals word) (after_first is_equals word) g) None ≡ None
    by true e = e
    by false e = refl

-- a word without two hyphens and a name is no option
pub plain_word : (word : Text) (g : Given) → long_of word ≡ None → with_word word g ≡ None
plain_word word g none =
    rw (not_long word 115 (codes "erial") none, not_long word 106 (codes "ournal") none)
    (no_equals word g (λ value. no_value (before_first is_equals word) value g (not_before word 116 (codes "urns") none) (not_before word 111 (codes "bjects") none)))

-- a word with two hyphens and no `=`
pub alone_word : (x : ℕ) (xs : Text) (g : Given) → list_any is_equals (x ∷ xs) ≡ false → with_equals (45 ∷ 45 ∷ x ∷ xs) g ≡ None
alone_word x xs g none = rw (mark_at (45 ∷ 45 ∷ x ∷ xs), none) refl

before_two : (t : Text) → before_first is_equals (45 ∷ 45 ∷ t) ≡ 45 ∷ 45 ∷ before_first is_equals t
before_two t =
    let two : 1 + (1 + position_or_len is_equals t) ≡ suc (suc (position_or_len is_equals t)) = omega arith in
    ap (λ k. take k (45 ∷ 45 ∷ t)) two

after_two : (t : Text) → after_first is_equals (45 ∷ 45 ∷ t) ≡ after_first is_equals t
after_two t =
    let two : (1 + (1 + position_or_len is_equals t)) + 1 ≡ suc (suc (position_or_len is_equals t + 1)) = omega arith in
    ap (λ k. drop k (45 ∷ 45 ∷ t)) two

-- a word with two hyphens and a value after `=`
pub equals_word : (x : ℕ) (xs : Text) (g : Given) → list_any is_equals (x ∷ xs) ≡ true
    → with_equals (45 ∷ 45 ∷ x ∷ xs) g ≡ with_value (45 ∷ 45 ∷ before_first is_equals (x ∷ xs)) (after_first is_equals (x ∷ xs)) g
equals_word x xs g some = rw (mark_at (45 ∷ 45 ∷ x ∷ xs), some) (ap₂ (λ b a. with_value b a g) (before_two (x ∷ xs)) (after_two (x ∷ xs)))

has_mark : (word text : Text) → list_any is_equals word ≡ true → list_any is_equals text ≡ false → bytes_eq word text ≡ false
has_mark word text some none = no_answer _ (λ e.
    let same : list_any is_equals word ≡ list_any is_equals text = ap (list_any is_equals) ((bytes_eq-Decides word text).0 e) in
    cc)

pub equals_only : (x : ℕ) (xs : Text) (g : Given) → list_any is_equals (x ∷ xs) ≡ true → with_word (45 ∷ 45 ∷ x ∷ xs) g ≡ with_equals (45 ∷ 45 ∷ x ∷ xs) g
equals_only x xs g some =
    let word = 45 ∷ 45 ∷ x ∷ xs in
    rw (has_mark word (codes "--serial") some refl, has_mark word (codes "--journal") some refl) refl
