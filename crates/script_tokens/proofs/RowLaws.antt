-- A text is one row of pieces, up to where nothing more can be taken.
use Rattle.std.proofs.Common.{◌≡◌, ℕ, List, [], ◌∷◌, ◌++◌, refl, sym, ◌∙◌, ap, subst, append_assoc, append-nil}
use Rattle.script_tokens.specs.declared.token.Token.{Token}
use Rattle.script_tokens.specs.Lexemes.{Piece, piece_text, row_text, byte_count, Stands, IsRow, AreOf, AreTokens}
use Rattle.script_tokens.specs.Lexemes.Piece.{Blank, Comment, Lexeme}
use Rattle.script_tokens.specs.Refusals.{IsBadAt}
use Rattle.script_tokens.proofs.FrontPieces.{front_same, piece_begins}
use Rattle.script_tokens.proofs.TokenMeanings.{means_same}

-- no piece that means a token, or is none, stands here
abbrev Ends : List ℕ → Type 0
Ends rest = (p : Piece) (after : List ℕ) (ts : List Token) → rest ≡ piece_text p ++ after → Stands p after → AreOf (p ∷ []) ts → ⊥

nothing_before : (a b : List ℕ) → a ++ b ≡ [] → a ≡ []
nothing_before [] b e = refl
nothing_before (x ∷ a) b e = cc

ends_empty : Ends []
ends_empty p after ts e stands of = piece_begins p after stands (nothing_before (piece_text p) after (sym e))

first_means : (p : Piece) (ps : List Piece) (ts : List Token) → AreOf (p ∷ ps) ts → (us : List Token) × AreOf (p ∷ []) us
first_means (Blank c) ps ts of = ([], refl)
first_means (Comment body) ps ts of = ([], refl)
first_means (Lexeme cs) ps [] of = absurd of
first_means (Lexeme cs) ps (t ∷ ts) of = (t ∷ [], (of.0, refl))

others_mean : (p : Piece) (ps : List Piece) (ts : List Token) → AreOf (p ∷ ps) ts → (us : List Token) × AreOf ps us
others_mean (Blank c) ps ts of = (ts, of)
others_mean (Comment body) ps ts of = (ts, of)
others_mean (Lexeme cs) ps [] of = absurd of
others_mean (Lexeme cs) ps (t ∷ ts) of = (ts, of.1)

rows_same : (ps qs : List Piece) (a b : List ℕ) (ts us : List Token) → row_text ps ++ a ≡ row_text qs ++ b
    → IsRow ps a → IsRow qs b → AreOf ps ts → AreOf qs us → Ends a → Ends b → ps ≡ qs
rows_same [] [] a b ts us e s t of og ea eb = refl
rows_same [] (q ∷ qs) a b ts us e s t of og ea eb =
    let first = first_means q qs us og in
    absurd (ea q (row_text qs ++ b) first.0 (e ∙ append_assoc (piece_text q) (row_text qs) b) t.0 first.1)
rows_same (p ∷ ps) [] a b ts us e s t of og ea eb =
    let first = first_means p ps ts of in
    absurd (eb p (row_text ps ++ a) first.0 (sym e ∙ append_assoc (piece_text p) (row_text ps) a) s.0 first.1)
rows_same (p ∷ ps) (q ∷ qs) a b ts us e s t of og ea eb =
    let meet : piece_text p ++ (row_text ps ++ a) ≡ piece_text q ++ (row_text qs ++ b)
    = sym (append_assoc (piece_text p) (row_text ps) a) ∙ e ∙ append_assoc (piece_text q) (row_text qs) b in
    let front = front_same p q (row_text ps ++ a) (row_text qs ++ b) meet s.0 t.0 in
    let first = front.0 in
    let left = others_mean p ps ts of in
    let right = others_mean q qs us og in
    let others = rows_same ps qs a b left.0 right.0 front.1 s.1 t.1 left.1 right.1 ea eb in
    cc

of_same : (row : List Piece) (ts us : List Token) → AreOf row ts → AreOf row us → ts ≡ us
of_same [] ts us of og = of ∙ sym og
of_same (Blank c ∷ ps) ts us of og = of_same ps ts us of og
of_same (Comment body ∷ ps) ts us of og = of_same ps ts us of og
of_same (Lexeme cs ∷ ps) [] us of og = absurd of
of_same (Lexeme cs ∷ ps) (t ∷ ts) [] of og = absurd og
of_same (Lexeme cs ∷ ps) (t ∷ ts) (u ∷ us) of og =
    let first = means_same cs t u of.0 og.0 in
    let others = of_same ps ts us of.1 og.1 in
    cc

-- a text has one row
pub one_row : (cs : List ℕ) (ts us : List Token) (t : AreTokens cs ts) (u : AreTokens cs us) → t.row ≡ u.row
one_row cs ts us t u =
    rows_same t.row u.row [] [] ts us (append-nil (row_text t.row) ∙ sym t.text ∙ u.text ∙ sym (append-nil (row_text u.row)))
    t.stands u.stands t.tokens u.tokens ends_empty ends_empty

-- a text has one list of tokens
pub one_tokens : (cs : List ℕ) (ts us : List Token) → AreTokens cs ts → AreTokens cs us → ts ≡ us
one_tokens cs ts us t u = of_same u.row ts us (subst (λ row. AreOf row ts) (one_row cs ts us t u) t.tokens) u.tokens

-- a text that has tokens has no bad place
pub no_bad : (cs : List ℕ) (ts : List Token) (place : ℕ) → AreTokens cs ts → IsBadAt cs place → ⊥
no_bad cs ts place t b =
    let same = rows_same b.row t.row b.rest [] b.taken ts (sym b.text ∙ t.text ∙ sym (append-nil (row_text t.row))) b.stands t.stands b.tokens t.tokens b.bad.none ends_empty in
    b.bad.more (nothing_after (row_text b.row) b.rest (sym b.text ∙ t.text ∙ ap row_text (sym same)))
  where
    nothing_after : (front rest : List ℕ) → front ++ rest ≡ front → rest ≡ []
    nothing_after [] rest e = e
    nothing_after (c ∷ front) rest e = nothing_after front rest cc

-- a text has one bad place at most
pub one_bad : (cs : List ℕ) (place other : ℕ) → IsBadAt cs place → IsBadAt cs other → place ≡ other
one_bad cs place other a b =
    let same = rows_same a.row b.row a.rest b.rest a.taken b.taken (sym a.text ∙ b.text) a.stands b.stands a.tokens b.tokens a.bad.none b.bad.none in
    a.begins ∙ ap (λ row. byte_count (row_text row)) same ∙ sym b.begins
