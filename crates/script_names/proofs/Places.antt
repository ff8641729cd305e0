-- Names that are found by their texts.
use Rattle.std.proofs.Common.{◌≡◌, ◌≢◌, ◌≤◌, ◌<◌, ◌⊎◌, inl, inr, ℕ, zero, suc, Bool, true, false, cond, List, [], ◌∷◌, ◌++◌, length, take, Option, None, Some, refl, sym, ap, ◌∙◌, arith, slice_get}
use Rattle.std.specs.Prelude.{◌||◌, encode_utf8_all}
use Rattle.std.specs.Cmp.Lexicographic.{bytes_decides}
use Rattle.std.specs.Map.{update}
use Rattle.std.specs.Option.{unwrap_or}
use Rattle.std.specs.Str.{bytes_eq, chars}
use Rattle.std.proofs.Math.Utf8.{scalars}
use Rattle.std.proofs.lemmas.Option.{slice_get_within}
use Rattle.std.proofs.lemmas.Str.{chars-encodes}
use Rattle.script_names.specs.NamePlaces.{FindsEach, place_for}
use Rattle.script_names.specs.Names.{Names, is_in}

abbrev Finder : Type 0
Finder = List ℕ → Option ℕ

-- the elements of a longer list and of a shorter one

grown_get : (xs : Names) (i : ℕ) (n m : List ℕ) → slice_get xs i ≡ Some m → slice_get (xs ++ n ∷ []) i ≡ Some m
grown_get [] i n m at = cc
grown_get (x ∷ xs) zero n m at = at
grown_get (x ∷ xs) (suc i) n m at = grown_get xs i n m at

last_get : (xs : Names) (n : List ℕ) → slice_get (xs ++ n ∷ []) (length xs) ≡ Some n
last_get [] n = refl
last_get (x ∷ xs) n = last_get xs n

grown_got : (xs : Names) (i : ℕ) (n m : List ℕ) → slice_get (xs ++ n ∷ []) i ≡ Some m → (slice_get xs i ≡ Some m) ⊎ ((i ≡ length xs) × (m ≡ n))
grown_got [] zero n m at = inr (refl, (let same : n ≡ m = cc in sym same))
grown_got [] (suc i) n m at = cc
grown_got (x ∷ xs) zero n m at = inl at
grown_got (x ∷ xs) (suc i) n m at = elim (grown_got xs i n m at) [ inl h ↦ inl h | inr h ↦ inr (ap suc h.0, h.1) ]

taken_got : (k : ℕ) (xs : Names) (i : ℕ) (m : List ℕ) → slice_get (take k xs) i ≡ Some m → (i < k) × (slice_get xs i ≡ Some m)
taken_got zero xs i m at = cc
taken_got (suc k) [] i m at = cc
taken_got (suc k) (x ∷ xs) zero m at = (omega arith, at)
taken_got (suc k) (x ∷ xs) (suc i) m at = let rest = taken_got k xs i m at in (omega (arith, rest.0), rest.1)

taken_get : (k : ℕ) (xs : Names) (i : ℕ) (m : List ℕ) → i < k → slice_get xs i ≡ Some m → slice_get (take k xs) i ≡ Some m
taken_get zero xs i m less at = absurd (omega arith)
taken_get (suc k) [] i m less at = cc
taken_get (suc k) (x ∷ xs) zero m less at = at
taken_get (suc k) (x ∷ xs) (suc i) m less at = taken_get k xs i m (omega arith) at

-- a name is one of the names where it stands somewhere

or_right : (a b : Bool) → b ≡ true → (a || b) ≡ true
or_right true b h = refl
or_right false b h = h

in_at : (names : Names) (i : ℕ) (n : List ℕ) → slice_get names i ≡ Some n → is_in names n ≡ true
in_at [] i n at = cc
in_at (m ∷ names) zero n at = let same : m ≡ n = cc in ap (λ b. b || is_in names n) ((bytes_decides n m).1 (sym same))
in_at (m ∷ names) (suc i) n at = or_right (bytes_eq n m) (is_in names n) (in_at names i n at)

found_at : (names : Names) (n : List ℕ) → is_in names n ≡ true → (i : ℕ) × (slice_get names i ≡ Some n)
found_at [] n h = cc
found_at (m ∷ names) n h = elim (bytes_eq n m) as (λ b. bytes_eq n m ≡ b → (b || is_in names n) ≡ true → (i : ℕ) × (slice_get (m ∷ names) i ≡ Some n)) [
  | true ↦ λ same _. (0, ap Some (sym ((bytes_decides n m).0 same)))
  | false ↦ λ _ rest. let found = found_at names n rest in (suc found.0, found.1)
] refl h

-- where a name is found

record Stands (find : Finder) (names : Names) (n : List ℕ) (i : ℕ) : Type 0 where
  place : ℕ
  found : find (encode_utf8_all n) ≡ Some place
  early : place ≤ i
  at : slice_get names place ≡ Some n

stands_at : (find : Finder) (names : Names) (n : List ℕ) (i : ℕ) (o : Option ℕ) → find (encode_utf8_all n) ≡ o → place_for find n i ≤ i →
    slice_get names (place_for find n i) ≡ Some n → Stands find names n i
stands_at find names n i None e low at = let same : place_for find n i ≡ suc i = ap (λ o. unwrap_or o (suc i)) e in absurd (omega arith)
stands_at find names n i (Some p) e low at =
    let same : place_for find n i ≡ p = ap (λ o. unwrap_or o (suc i)) e in
    record { place = p; found = e; early = omega arith; at = ap (slice_get names) (sym same) ∙ at }

stands : (find : Finder) (names : Names) (n : List ℕ) (i : ℕ) → FindsEach find names → slice_get names i ≡ Some n → Stands find names n i
stands find names n i each at = let h = each i n at in stands_at find names n i (find (encode_utf8_all n)) refl h.1 h.2

finds : (find : Finder) (names : Names) (n : List ℕ) (i : ℕ) → Stands find names n i → (place_for find n i ≤ i) × (slice_get names (place_for find n i) ≡ Some n)
finds find names n i s =
    let same : place_for find n i ≡ s.place = ap (λ o. unwrap_or o (suc i)) s.found in
    (omega (arith, s.early), ap (slice_get names) same ∙ s.at)

pub none_found : (find : Finder) → FindsEach find []
none_found find = λ i n at. cc

bool_same : (a b : Bool) → (a ≡ true → b ≡ true) → (b ≡ true → a ≡ true) → a ≡ b
bool_same true b f g = sym (f refl)
bool_same false true f g = g refl
bool_same false false f g = refl

found_there : (find : Finder) (names : Names) (n : List ℕ) (o : Option ℕ) (b : Bool) → FindsEach find names → find (encode_utf8_all n) ≡ o →
    ((p : ℕ) → o ≡ Some p → slice_get names p ≡ Some n → b ≡ true) → (b ≡ true → is_in names n ≡ true) → b ≡ is_in names n
found_there find names n o b each e there from = bool_same b (is_in names n) from
    (λ among. let found = found_at names n among in let s = stands find names n found.0 each found.1 in there s.place (sym e ∙ s.found) s.at)

no_place : (p : ℕ) → None ≡ Some p → ⊥
no_place p is = cc

no_name : (n : List ℕ) → None ≡ Some n → ⊥
no_name n is = cc

not_true : false ≡ true → ⊥
not_true is = cc

-- a name whose text is not found is none of the names
pub not_found : (find : Finder) (names : Names) (n : List ℕ) → FindsEach find names → find (encode_utf8_all n) ≡ None → false ≡ is_in names n
not_found find names n each e = found_there find names n None false each e (λ p is at. absurd (no_place p is)) (λ h. absurd (not_true h))

-- nor is one that is found where no name stands
pub nothing_there : (find : Finder) (names : Names) (n : List ℕ) (p : ℕ) → FindsEach find names → find (encode_utf8_all n) ≡ Some p → slice_get names p ≡ None → false ≡ is_in names n
nothing_there find names n p each e none = found_there find names n (Some p) false each e
    (λ q is at. let same : p ≡ q = cc in absurd (no_name n (sym none ∙ ap (slice_get names) same ∙ at))) (λ h. absurd (not_true h))

-- and one that is found is one of them where it stands there itself
pub known_there : (find : Finder) (names : Names) (n known : List ℕ) (p : ℕ) (b : Bool) → FindsEach find names → find (encode_utf8_all n) ≡ Some p → slice_get names p ≡ Some known →
    (b ≡ true → known ≡ n) → (known ≡ n → b ≡ true) → b ≡ is_in names n
known_there find names n known p b each e at from to = found_there find names n (Some p) b each e
    (λ q is there. let same : p ≡ q = cc in let equal : Some known ≡ Some n = sym at ∙ ap (slice_get names) same ∙ there in let name : known ≡ n = cc in to name)
    (λ h. in_at names p n (at ∙ ap Some (from h)))

-- one name more

false_from : (b : Bool) → (b ≡ true → ⊥) → b ≡ false
false_from false f = refl
false_from true f = absurd (f refl)

same_name : (n m : List ℕ) → scalars n ≡ true → scalars m ≡ true → encode_utf8_all n ≡ encode_utf8_all m → n ≡ m
same_name n m one two e = sym (chars-encodes n one) ∙ ap chars e ∙ chars-encodes m two

-- the text of this name is found at this place from now on
abbrev Puts : Finder → Finder → List ℕ → ℕ → Type 0
Puts find new n k = (bs : List ℕ) → new bs ≡ update bytes_eq find (encode_utf8_all n) (Some k) bs

other : (find new : Finder) (n m : List ℕ) (k : ℕ) → Puts find new n k → scalars n ≡ true → scalars m ≡ true → m ≢ n → new (encode_utf8_all m) ≡ find (encode_utf8_all m)
other find new n m k puts one two apart =
    puts (encode_utf8_all m) ∙ ap (λ b. cond b (Some k) (find (encode_utf8_all m)))
    (false_from (bytes_eq (encode_utf8_all n) (encode_utf8_all m)) (λ h. apart (sym (same_name n m one two ((bytes_decides (encode_utf8_all n) (encode_utf8_all m)).0 h)))))

-- the place of a name that is none of the names changes nothing
put_beside : (find new : Finder) (names : Names) (n : List ℕ) (k : ℕ) → Puts find new n k → scalars n ≡ true → is_in names n ≡ false → FindsEach find names → FindsEach new names
put_beside find new names n k puts text not_in each = λ i m at.
    let s = stands find names m i each at in
    let apart : m ≢ n = λ same. let inside = in_at names i m at in let outside = ap (is_in names) same ∙ not_in in cc in
    let t = finds new names m i (record { place = s.place; found = other find new n m k puts text (each i m at).0 apart ∙ s.found; early = s.early; at = s.at }) in
    ((each i m at).0, t.0, t.1)

grown : (find : Finder) (names : Names) (n : List ℕ) → scalars n ≡ true → FindsEach find names → Stands find (names ++ n ∷ []) n (length names) → FindsEach find (names ++ n ∷ [])
grown find names n text each s = λ i m at. elim (grown_got names i n m at) [
  | inl before ↦
      let t = stands find names m i each before in
      let r = finds find (names ++ n ∷ []) m i (record { place = t.place; found = t.found; early = t.early; at = grown_get names t.place n m t.at }) in
      ((each i m before).0, r.0, r.1)
  | inr last ↦
      let same = last.1 in
      let r = finds find (names ++ n ∷ []) m i
      (record { place = s.place; found = ap (λ z. find (encode_utf8_all z)) same ∙ s.found; early = omega (arith, s.early, last.0); at = s.at ∙ ap Some (sym same) }) in
      (ap scalars same ∙ text, r.0, r.1)
]

-- a name that is none of the names, whose place was put, is found after them
grown_by_new : (find new : Finder) (names : Names) (n : List ℕ) → Puts find new n (length names) → scalars n ≡ true → is_in names n ≡ false → FindsEach find names →
    FindsEach new (names ++ n ∷ [])
grown_by_new find new names n puts text not_in each =
    let found = puts (encode_utf8_all n) ∙ ap (λ b. cond b (Some (length names)) (find (encode_utf8_all n))) ((bytes_decides (encode_utf8_all n) (encode_utf8_all n)).1 refl) in
    grown new names n text (put_beside find new names n (length names) puts text not_in each)
    (record { place = length names; found = found; early = omega arith; at = last_get names n })

-- a name that is one of the names stands once more
grown_by_old : (find : Finder) (names : Names) (n : List ℕ) → is_in names n ≡ true → FindsEach find names → FindsEach find (names ++ n ∷ [])
grown_by_old find names n among each =
    let found = found_at names n among in
    let s = stands find names n found.0 each found.1 in
    let inside = slice_get_within names found.0 n found.1 in
    grown find names n (each found.0 n found.1).0 each
    (record { place = s.place; found = s.found; early = omega (arith, s.early); at = grown_get names s.place n n s.at })

-- the places serve these names, and also with one more
abbrev pub Serves : Finder → Names → List ℕ → Type 0
Serves find names n = FindsEach find names × FindsEach find (names ++ n ∷ [])

-- after the place of a new name was put at the end
pub serves_new : (find new : Finder) (names : Names) (n bs : List ℕ) (k : ℕ) → ((cs : List ℕ) → new cs ≡ update bytes_eq find bs (Some k) cs) → bs ≡ encode_utf8_all n → k ≡ length names →
    scalars n ≡ true → is_in names n ≡ false → FindsEach find names → Serves new names n
serves_new find new names n bs k puts text_is place_is text not_in each =
    let here : Puts find new n (length names) = λ cs.
    puts cs ∙ ap (λ b. update bytes_eq find b (Some k) cs) text_is ∙ ap (λ p. update bytes_eq find (encode_utf8_all n) (Some p) cs) place_is in
    (put_beside find new names n (length names) here text not_in each, grown_by_new find new names n here text not_in each)

-- where the name is one of them
pub serves_old : (find : Finder) (names : Names) (n : List ℕ) → is_in names n ≡ true → FindsEach find names → Serves find names n
serves_old find names n among each = (each, grown_by_old find names n among each)

-- of names that are gone places may be left
pub cut_found : (find : Finder) (names : Names) (k : ℕ) → FindsEach find names → FindsEach find (take k names)
cut_found find names k each = λ i m at.
    let got = taken_got k names i m at in
    let s = stands find names m i each got.1 in
    let r = finds find (take k names) m i
    (record { place = s.place; found = s.found; early = s.early; at = taken_get k names s.place m (omega (arith, s.early, got.0)) s.at }) in
    ((each i m got.1).0, r.0, r.1)
