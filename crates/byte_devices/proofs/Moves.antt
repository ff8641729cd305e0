-- How the bytes of a source and of a sink go on from call to call.
use Rattle.std.proofs.Common.{◌≡◌, ◌≢◌, ℕ, ◌+◌, ◌<◌, ◌≤◌, ◌⊎◌, inl, inr, IfSome, List, [], ◌++◌, length, take, drop, Option, None, Some, refl, sym, ◌∙◌, ap, subst, append_assoc, take-append-drop, length-drop, arith}
use Rattle.std.proofs.lemmas.List.{append-nil, take_at, take_all, drop_at, drop_all, drop-drop, drop-append-le, length-take-le}
use Rattle.std.proofs.Math.Seq.{take-add}
use Rattle.byte_devices.specs.Devices.{TakesFirst, IsAtEnd, IsReadThrough, Adds, AddsFirst, AddsProperFront}

-- a copied piece stands at the front of what it was copied into
pub piece_moves : (bytes copied room : List ℕ) (at count : ℕ) → copied ≡ take count (drop at bytes) → length copied ≡ count → drop at bytes ≡ take count (copied ++ room) ++ drop (at + count) bytes
piece_moves bytes copied room at count is long =
    sym (take-append-drop count (drop at bytes))
    ∙ ap (λ (l : List ℕ). l ++ drop count (drop at bytes)) (sym is ∙ sym (take_at copied room count long))
    ∙ ap (λ (l : List ℕ). take count (copied ++ room) ++ l) (drop-drop count at bytes)

-- what a call left of a part that it was lent is left of the whole
pub part_kept : (whole part : List ℕ) (most n : ℕ) → length part ≡ most → most ≤ length whole → n ≤ most → drop n part ≡ drop n (take most whole) → drop n (part ++ drop most whole) ≡ drop n whole
part_kept whole part most n long fits within kept =
    let short : length (take most whole) ≡ most = length-take-le most whole fits in
    drop-append-le n part (drop most whole) (omega arith)
    ∙ ap (λ (l : List ℕ). l ++ drop most whole) kept
    ∙ sym (drop-append-le n (take most whole) (drop most whole) (omega arith))
    ∙ ap (λ (l : List ℕ). drop n l) (take-append-drop most whole)

pub takes_nothing : (before : Option (List ℕ)) → TakesFirst before before []
takes_nothing None = refl
takes_nothing (Some held) = (held, (refl, refl))

-- one piece after another
pub takes_on : (before mid after : Option (List ℕ)) (first second : List ℕ) → TakesFirst before mid first → TakesFirst mid after second → TakesFirst before after (first ++ second)
takes_on None None after first second one two = two
takes_on None (Some held) after first second one two = cc
takes_on (Some held) None after first second (rest, (split, is)) two = cc
takes_on (Some held) (Some left) after first second (rest, (split, is)) (last, (parts, ends)) =
    let same : left ≡ rest = cc in
    (last, (split ∙ ap (λ (l : List ℕ). first ++ l) (sym same ∙ parts) ∙ sym (append_assoc first second last), ends))

-- a source that gave nothing at its end is still there
pub stays_at_end : (before after : Option (List ℕ)) → TakesFirst before after [] → IsAtEnd before → IsAtEnd after
stays_at_end None after is ends = subst IsAtEnd (sym is) tt
stays_at_end (Some held) after (rest, (split, is)) ends = subst IsAtEnd (sym is) (sym split ∙ ends)

-- a source that was read up to a number of bytes, or to its end
left_over : (most : ℕ) (bytes rest : List ℕ) → length bytes ≤ most → (length bytes ≡ most) ⊎ (rest ≡ []) → drop most (bytes ++ rest) ≡ rest
left_over most bytes rest few (inl all) = drop_at bytes rest most all
left_over most bytes rest few (inr ends) =
    ap (λ (l : List ℕ). drop most (bytes ++ l)) ends ∙ ap (λ (l : List ℕ). drop most l) (append-nil bytes) ∙ drop_all most bytes few ∙ sym ends

brought : (most : ℕ) (bytes rest : List ℕ) → length bytes ≤ most → (length bytes ≡ most) ⊎ (rest ≡ []) → bytes ≡ take most (bytes ++ rest)
brought most bytes rest few (inl all) = sym (take_at bytes rest most all)
brought most bytes rest few (inr ends) =
    sym (take_all most bytes few) ∙ ap (λ (l : List ℕ). take most l) (sym (append-nil bytes)) ∙ ap (λ (l : List ℕ). take most (bytes ++ l)) (sym ends)

-- reading ended at the most that is read, or at the end of the source
abbrev pub Ended : Option (List ℕ) → List ℕ → Type 0
Ended after bytes = (length bytes ≡ 1048577) ⊎ IsAtEnd after

nothing_left : (after : Option (List ℕ)) (rest bytes : List ℕ) → after ≡ Some rest → Ended after bytes → (length bytes ≡ 1048577) ⊎ (rest ≡ [])
nothing_left after rest bytes is (inl all) = inl all
nothing_left after rest bytes is (inr ends) = inr (subst IsAtEnd is ends)

pub all_read : (before after : Option (List ℕ)) (bytes : List ℕ) → TakesFirst before after bytes → length bytes ≤ 1048577 → Ended after bytes → IfSome before (λ held. bytes ≡ take 1048577 held)
all_read None after bytes takes few ended = tt
all_read (Some held) after bytes (rest, (split, is)) few ended =
    brought 1048577 bytes rest few (nothing_left after rest bytes is ended) ∙ ap (λ (l : List ℕ). take 1048577 l) (sym split)

pub read_through : (before after : Option (List ℕ)) (bytes : List ℕ) → TakesFirst before after bytes → length bytes ≤ 1048577 → Ended after bytes → IsReadThrough before after
read_through None after bytes takes few ended = takes
read_through (Some held) after bytes (rest, (split, is)) few ended =
    is ∙ ap (λ (l : List ℕ). Some l) (sym (left_over 1048577 bytes rest few (nothing_left after rest bytes is ended)) ∙ ap (λ (l : List ℕ). drop 1048577 l) (sym split))

pub adds_nothing : (before : Option (List ℕ)) → Adds before before []
adds_nothing None = refl
adds_nothing (Some had) = ap (λ (l : List ℕ). Some l) (sym (append-nil had))

-- one text after another
pub adds_both : (before mid after : Option (List ℕ)) (first second : List ℕ) → Adds before mid first → Adds mid after second → Adds before after (first ++ second)
adds_both None None after first second one two = two
adds_both None (Some held) after first second one two = cc
adds_both (Some had) None after first second one two = cc
adds_both (Some had) (Some has) after first second one two =
    let same : has ≡ had ++ first = cc in
    two ∙ ap (λ (l : List ℕ). Some (l ++ second)) same ∙ ap (λ (l : List ℕ). Some l) (append_assoc had first second)

pub adds_on : (before mid after : Option (List ℕ)) (text : List ℕ) (at n : ℕ) → Adds before mid (take at text) → Adds mid after (take n (drop at text)) → Adds before after (take (at + n) text)
adds_on before mid after text at n one two =
    let P : List ℕ → Type 0 = λ l. Adds before after l in
    subst P (sym (take-add at n text)) (adds_both before mid after (take at text) (take n (drop at text)) one two)

something_left : (text : List ℕ) (at : ℕ) → at < length text → drop at text ≢ []
something_left text at inside none = absurd (omega (arith, length-drop at text, ap length none))

-- what was added ends before the text does
pub adds_front : (before after : Option (List ℕ)) (text : List ℕ) (at : ℕ) → at < length text → Adds before after (take at text) → AddsProperFront before after text
adds_front before after text at inside adds =
    (take at text, drop at text, (sym (take-append-drop at text), (something_left text at inside, adds)))

pub first_of_proper : (before after : Option (List ℕ)) (text : List ℕ) → AddsProperFront before after text → AddsFirst before after text
first_of_proper before after text proper = (proper.0, proper.1, (proper.2.0, proper.2.1.1))
