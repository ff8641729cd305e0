-- A place at which a refusal points is within the script, and the script is a text up to it.
use Rattle.std.proofs.Common.{◌≡◌, ℕ, zero, suc, ◌+◌, ◌<◌, ◌≤◌, true, List, [], ◌∷◌, ◌++◌, length, get_or, take, refl, sym, ◌∙◌, ap, subst, append_assoc, length-append, arith, ⊎_elim}
use Rattle.std.specs.Prelude.{IsUtf8, encode_utf8_all}
use Rattle.std.specs.Str.{all_scalars, chars}
use lib.Utf8.{scalar}
use Rattle.std.proofs.lemmas.Bool.{and_parts, cases_lt}
use Rattle.std.proofs.lemmas.List.{take_all, take_at, get_or_append_left, get_or_at}
use Rattle.std.proofs.lemmas.Str.{encodes-append, encodes-chars, scalars-chars}
use Rattle.script_tokens.specs.Lexemes.{Piece, piece_text, row_text, byte_count, places_from}
use Rattle.script_tokens.specs.Lexemes.Piece.{Blank, Comment, Lexeme}
use Rattle.script_places.specs.declared.refusal.Refusal.{Refusal}
use Rattle.script_places.specs.declared.refusal.Refusal.TheVariants.{NotText, BadToken, TooDeep, Syntax, BadName}
use Rattle.script_places.specs.Points.{HasTokensAt, IsTokenAt, IsTokenOrEndAt, PointsAt}

-- the place stands between characters, where so many bytes stand before them
record Between (at : ℕ) (cs : List ℕ) (place : ℕ) : Type 0 where
  before : List ℕ
  after : List ℕ
  whole : cs ≡ before ++ after
  here : place ≡ at + byte_count before

byte_count-append : (cs ds : List ℕ) → byte_count (cs ++ ds) ≡ byte_count cs + byte_count ds
byte_count-append cs ds = ap length (encodes-append cs ds) ∙ length-append (encode_utf8_all cs) (encode_utf8_all ds)

further : (at : ℕ) (cs rest : List ℕ) (place : ℕ) → Between (at + byte_count cs) rest place → Between at (cs ++ rest) place
further at cs rest place b = record {
  before = cs ++ b.before;
  after = b.after;
  whole = ap (λ x. cs ++ x) b.whole ∙ sym (append_assoc cs b.before b.after);
  here = omega (arith, b.here, byte_count-append cs b.before);
}

token_between : (at : ℕ) (row : List Piece) (number place : ℕ) → number < length (places_from at row) →
    place ≡ get_or (places_from at row) number 0 → Between at (row_text row) place
token_between at [] number place within is = absurd (omega arith)
token_between at (Blank c ∷ row) number place within is =
    further at (piece_text (Blank c)) (row_text row) place (token_between (at + byte_count (piece_text (Blank c))) row number place within is)
token_between at (Comment body ∷ row) number place within is =
    further at (piece_text (Comment body)) (row_text row) place (token_between (at + byte_count (piece_text (Comment body))) row number place within is)
token_between at (Lexeme cs ∷ row) zero place within is = record { before = []; after = row_text (Lexeme cs ∷ row); whole = refl; here = omega (arith, is) }
token_between at (Lexeme cs ∷ row) (suc number) place within is =
    further at cs (row_text row) place (token_between (at + byte_count cs) row number place (omega arith) is)

front_scalars : (xs ys : List ℕ) → all_scalars (xs ++ ys) ≡ true → all_scalars xs ≡ true
front_scalars [] ys s = refl
front_scalars (x ∷ xs) ys s = let parts = and_parts (scalar x) (all_scalars (xs ++ ys)) s in rw parts.0 (front_scalars xs ys parts.1)

-- a place that may be cut at
pub record IsCut (bytes : List ℕ) (place : ℕ) : Type 0 where
  pub within : place ≤ length bytes
  pub front : IsUtf8 (take place bytes)

between_cut : (bytes : List ℕ) (place : ℕ) → IsUtf8 bytes → Between 0 (chars bytes) place → IsCut bytes place
between_cut bytes place text b =
    let parts : bytes ≡ encode_utf8_all b.before ++ encode_utf8_all b.after =
    sym (encodes-chars bytes text) ∙ ap encode_utf8_all b.whole ∙ encodes-append b.before b.after in
    let size : length (encode_utf8_all b.before) ≡ place = omega (arith, b.here) in
    record {
      within = omega (arith, ap length parts, length-append (encode_utf8_all b.before) (encode_utf8_all b.after), size);
      front = (
        b.before,
        (
          front_scalars b.before b.after (subst (λ cs. all_scalars cs ≡ true) b.whole (scalars-chars bytes text)),
          sym (ap (take place) parts ∙ take_at (encode_utf8_all b.before) (encode_utf8_all b.after) place size),
        ),
      );
    }

token_cut : (bytes places : List ℕ) (number place : ℕ) → HasTokensAt bytes places → number < length places → place ≡ get_or places number 0 → IsCut bytes place
token_cut bytes places number place has within is =
    between_cut bytes place has.text
    (subst (λ cs. Between 0 cs place) (sym has.begin.tokens.text)
    (token_between 0 has.begin.tokens.row number place (subst (λ ps. number < length ps) has.begin.begin within)
    (is ∙ ap (λ ps. get_or ps number 0) has.begin.begin)))

end_cut : (bytes : List ℕ) (place : ℕ) → IsUtf8 bytes → place ≡ length bytes → IsCut bytes place
end_cut bytes place text is = record { within = omega arith; front = subst IsUtf8 (sym (take_all place bytes (omega arith))) text }

token_or_end_cut : (bytes places : List ℕ) (number place : ℕ) → HasTokensAt bytes places →
    number < length (places ++ length bytes ∷ []) → place ≡ get_or (places ++ length bytes ∷ []) number 0 →
    IsCut bytes place
token_or_end_cut bytes places number place has within is =
    ⊎_elim
    (λ token. token_cut bytes places number place has token (is ∙ get_or_append_left places (length bytes ∷ []) 0 number token))
    (λ end. let last : length places ≡ number = omega (arith, length-append places (length bytes ∷ [])) in
    end_cut bytes place has.text (is ∙ get_or_at places (length bytes) [] 0 number last))
    (cases_lt number (length places))

pub pointed_cut : (bytes : List ℕ) (refusal : Refusal) (place : ℕ) → PointsAt bytes refusal place → IsCut bytes place
pointed_cut bytes (NotText number) place p =
    let is = p.0 in
    let up = p.1 in
    record { within = omega (arith, up.short); front = subst (λ n. IsUtf8 (take n bytes)) (sym is) up.front }
pointed_cut bytes (BadToken number) place p =
    let is = p.0 in
    let has = p.1 in
    record { within = omega (arith, has.within); front = subst (λ n. IsUtf8 (take n bytes)) (sym is) has.front }
pointed_cut bytes (TooDeep number) place p = token_cut bytes p.0 number place p.1.0 p.1.1.0 p.1.1.1
pointed_cut bytes (Syntax number) place p = token_or_end_cut bytes p.0 number place p.1.0 p.1.1.0 p.1.1.1
pointed_cut bytes (BadName number) place p = token_cut bytes p.0 number place p.1.0 p.1.1.0 p.1.1.1
