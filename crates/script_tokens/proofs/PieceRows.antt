-- The row of pieces that is taken from a text: it grows at its end.
use Rattle.std.proofs.Common.{◌≡◌, ℕ, ◌+◌, ◌≤◌, List, [], ◌∷◌, ◌++◌, length, take, drop, refl, sym, ◌∙◌, ap, subst, append_assoc, append-nil, length-append, length-drop, arith, Option, None, Some}
use Rattle.std.proofs.Math.Seq.{take-append_seam}
use Rattle.std.proofs.lemmas.List.{drop-drop, drop_all}
use Rattle.std.proofs.lemmas.Grind.{flat_map-append}
use Rattle.script_tokens.specs.declared.token.Token.{Token}
use Rattle.script_tokens.specs.Lexemes.{Piece, piece_text, row_text, byte_count, places_from, Stands, IsRow, AreOf, AreTokensAt, BeginsNoToken}
use Rattle.script_tokens.specs.Lexemes.Piece.{Blank, Comment, Lexeme}
use Rattle.script_tokens.specs.declared.lexer.front.Front.{Front}
use Rattle.script_tokens.specs.Refusals.{IsBadAt}
use Rattle.script_tokens.specs.TextFronts.{tokens_of, places_of, IsFront}
use Rattle.script_tokens.proofs.ByteCounts.{byte_count-append, byte_count-take}

-- The text is a row of pieces up to this rest. They mean the tokens taken, which begin at these places; the rest
-- begins at the byte `end`.
pub record IsTaken (text rest : List ℕ) (taken : List Token) (places : List ℕ) (end : ℕ) : Type 0 where
  pub row : List Piece
  pub whole : text ≡ row_text row ++ rest
  pub stands : IsRow row rest
  pub tokens : AreOf row taken
  pub begin : places ≡ places_from 0 row
  pub reached : end ≡ byte_count (row_text row)

pub nothing_taken : (text : List ℕ) → IsTaken text text [] [] 0
nothing_taken text = record { row = []; whole = refl; stands = tt; tokens = refl; begin = refl; reached = refl }

row_text-push : (row : List Piece) (p : Piece) → row_text (row ++ p ∷ []) ≡ row_text row ++ piece_text p
row_text-push row p = flat_map-append piece_text row (p ∷ []) ∙ ap (λ x. row_text row ++ x) (append-nil (piece_text p))

row_text_push : (row : List Piece) (p : Piece) (from rest : List ℕ) → from ≡ piece_text p ++ rest → row_text row ++ from ≡ row_text (row ++ p ∷ []) ++ rest
row_text_push row p from rest is =
    ap (λ x. row_text row ++ x) is ∙ sym (append_assoc (row_text row) (piece_text p) rest) ∙ ap (λ x. x ++ rest) (sym (row_text-push row p))

row_push : (row : List Piece) (p : Piece) (from rest : List ℕ) → IsRow row from → from ≡ piece_text p ++ rest → Stands p rest → IsRow (row ++ p ∷ []) rest
row_push [] p from rest stands is last = (last, tt)
row_push (q ∷ row) p from rest stands is last =
    (subst (Stands q) (row_text_push row p from rest is) stands.0, row_push row p from rest stands.1 is last)

of_append : (ps qs : List Piece) (ts us : List Token) → AreOf ps ts → AreOf qs us → AreOf (ps ++ qs) (ts ++ us)
of_append [] qs ts us of more = subst (λ vs. AreOf qs (vs ++ us)) (sym of) more
of_append (Blank c ∷ ps) qs ts us of more = of_append ps qs ts us of more
of_append (Comment body ∷ ps) qs ts us of more = of_append ps qs ts us of more
of_append (Lexeme cs ∷ ps) qs [] us of more = absurd of
of_append (Lexeme cs ∷ ps) qs (t ∷ ts) us of more = (of.0, of_append ps qs ts us of.1 more)

further : (at : ℕ) (q : Piece) (row : List Piece) → at + byte_count (piece_text q) + byte_count (row_text row) ≡ at + byte_count (row_text (q ∷ row))
further at q row = omega (arith, byte_count-append (piece_text q) (row_text row))

places_push : (at : ℕ) (row : List Piece) (p : Piece) → places_from at (row ++ p ∷ []) ≡ places_from at row ++ places_from (at + byte_count (row_text row)) (p ∷ [])
places_push at [] p = let here : at ≡ at + byte_count [] = omega arith in ap (λ n. places_from n (p ∷ [])) here
places_push at (Blank c ∷ row) p =
    places_push (at + byte_count (piece_text (Blank c))) row p
    ∙ ap (λ n. places_from (at + byte_count (piece_text (Blank c))) row ++ places_from n (p ∷ [])) (further at (Blank c) row)
places_push at (Comment body ∷ row) p =
    places_push (at + byte_count (piece_text (Comment body))) row p
    ∙ ap (λ n. places_from (at + byte_count (piece_text (Comment body))) row ++ places_from n (p ∷ [])) (further at (Comment body) row)
places_push at (Lexeme cs ∷ row) p =
    ap (λ ns. at ∷ ns) (places_push (at + byte_count cs) row p
    ∙ ap (λ n. places_from (at + byte_count cs) row ++ places_from n (p ∷ [])) (further at (Lexeme cs) row))

from_zero : (n : ℕ) → n ≡ 0 + n
from_zero n = omega arith

-- one more piece is taken
piece_taken : (text from rest : List ℕ) (before tokens : List Token) (places : List ℕ) (end : ℕ) (p : Piece)
    → IsTaken text from before places end → from ≡ piece_text p ++ rest → Stands p rest → AreOf (p ∷ []) tokens
    → IsTaken text rest (before ++ tokens) (places ++ places_from end (p ∷ [])) (end + byte_count (piece_text p))
piece_taken text from rest before tokens places end p t is stands of = record {
  row = t.row ++ p ∷ [];
  whole = t.whole ∙ row_text_push t.row p from rest is;
  stands = row_push t.row p from rest t.stands is stands;
  tokens = of_append t.row (p ∷ []) before tokens t.tokens of;
  begin = ap (λ ns. ns ++ places_from end (p ∷ [])) t.begin ∙ ap (λ n. places_from 0 t.row ++ places_from n (p ∷ [])) (t.reached ∙ from_zero (byte_count (row_text t.row))) ∙ sym (places_push 0 t.row p);
  reached = ap (λ n. n + byte_count (piece_text p)) t.reached ∙ sym (byte_count-append (row_text t.row) (piece_text p)) ∙ ap byte_count (sym (row_text-push t.row p));
}

-- all is taken
pub all_taken : (text : List ℕ) (tokens : List Token) (places : List ℕ) (end : ℕ) → IsTaken text [] tokens places end → AreTokensAt text tokens places
all_taken text tokens places end t = record {
  tokens = record { row = t.row; text = t.whole ∙ append-nil (row_text t.row); stands = t.stands; tokens = t.tokens };
  begin = t.begin;
}

-- where no token stands at the rest, its first byte is bad
pub bad_at : (text rest : List ℕ) (taken : List Token) (places : List ℕ) (end : ℕ) → IsTaken text rest taken places end → BeginsNoToken rest → IsBadAt text end
bad_at text rest taken places end t bad = record {
  row = t.row;
  taken = taken;
  rest = rest;
  text = t.whole;
  stands = t.stands;
  tokens = t.tokens;
  begins = t.reached;
  bad = bad;
}

-- the bytes taken, and those of the rest
pub taken_bytes : (text rest : List ℕ) (taken : List Token) (places : List ℕ) (end : ℕ) → IsTaken text rest taken places end → end + byte_count rest ≡ byte_count text
taken_bytes text rest taken places end t = ap (λ n. n + byte_count rest) t.reached ∙ sym (byte_count-append (row_text t.row) rest) ∙ ap byte_count (sym t.whole)

-- a part of the rest has no more bytes than the text after what is taken
pub part_bytes : (text rest part : List ℕ) (at n : ℕ) (taken : List Token) (places : List ℕ) (end : ℕ)
    → IsTaken text (drop at text) taken places end → rest ≡ drop at text → part ≡ take n rest → end + byte_count part ≤ byte_count text
part_bytes text rest part at n taken places end t is first =
    omega (arith, taken_bytes text (drop at text) taken places end t, ap byte_count first, ap byte_count is, byte_count-take n rest)

piece_is : (front cs : List ℕ) (n : ℕ) → n ≤ length cs → cs ≡ front ++ drop n cs → front ≡ take n cs
piece_is front cs n within is =
    let size : length front ≡ n = omega (arith, ap length is, length-append front (drop n cs), length-drop n cs) in
    sym (take-append_seam front (drop n cs)) ∙ ap (take (length front)) (sym is) ∙ ap (λ m. take m cs) size

piece_places : (p : Piece) (t : Option Token) (at : ℕ) → AreOf (p ∷ []) (tokens_of t) → places_from at (p ∷ []) ≡ places_of t at
piece_places (Blank c) None at of = refl
piece_places (Blank c) (Some t) at of = cc
piece_places (Comment body) None at of = refl
piece_places (Comment body) (Some t) at of = cc
piece_places (Lexeme cs) None at of = absurd of
piece_places (Lexeme cs) (Some t) at of = refl

-- what stands at the front of the rest is taken
pub front_taken : (text rest part : List ℕ) (at : ℕ) (before after : List Token) (places begun : List ℕ) (end bytes : ℕ) (f : Front)
    → rest ≡ drop at text → IsTaken text (drop at text) before places end → IsFront rest f → part ≡ take f.length rest → bytes ≡ byte_count part
    → after ≡ before ++ tokens_of f.token → begun ≡ places ++ places_of f.token end → IsTaken text (drop (at + f.length) text) after begun (end + bytes)
front_taken text rest part at before after places begun end bytes f is taken front first counted kept placed =
    let further : drop f.length rest ≡ drop (at + f.length) text = ap (drop f.length) is ∙ drop-drop f.length at text in
    let whole = subst (λ r. IsTaken text r before places end) (sym is) taken in
    let size : byte_count (piece_text front.piece) ≡ bytes
    = ap byte_count (piece_is (piece_text front.piece) rest f.length front.within front.text ∙ sym first) ∙ sym counted in
    let begins : places ++ places_from end (front.piece ∷ []) ≡ begun
    = ap (λ ns. places ++ ns) (piece_places front.piece f.token end front.tokens) ∙ sym placed in
    let next = piece_taken text rest (drop f.length rest) before (tokens_of f.token) places end front.piece whole front.text front.stands front.tokens in
    subst (λ r. IsTaken text r after begun (end + bytes)) further
    (subst (λ ts. IsTaken text (drop f.length rest) ts begun (end + bytes)) (sym kept)
    (subst (λ ns. IsTaken text (drop f.length rest) (before ++ tokens_of f.token) ns (end + bytes)) begins
    (subst (λ n. IsTaken text (drop f.length rest) (before ++ tokens_of f.token) (places ++ places_from end (front.piece ∷ [])) (end + n)) size next)))

pub front_within : (text rest : List ℕ) (at : ℕ) (f : Front) → rest ≡ drop at text → IsFront rest f → at ≤ length text → at + f.length ≤ length text
front_within text rest at f is front within =
    let within_rest = front.within in omega (arith, ap length is, length-drop at text)

token_alone : (t : Option Token) → length (tokens_of t) ≤ 1
token_alone None = omega arith
token_alone (Some t) = omega arith

-- a piece is at least as long as its tokens are many
pub front_few : (rest : List ℕ) (f : Front) (old new : List Token) (at : ℕ) → IsFront rest f → new ≡ old ++ tokens_of f.token → length old ≤ at → length new ≤ at + f.length
front_few rest f old new at front grown few =
    let some = front.some in
    omega (arith, ap length grown, length-append old (tokens_of f.token), token_alone f.token)

-- at the end nothing is left
pub taken_to_end : (text : List ℕ) (at : ℕ) (taken : List Token) (places : List ℕ) (end : ℕ) → length text ≤ at → IsTaken text (drop at text) taken places end → IsTaken text [] taken places end
taken_to_end text at taken places end all t = subst (λ r. IsTaken text r taken places end) (drop_all at text all) t
