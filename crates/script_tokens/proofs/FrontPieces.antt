-- What stands at the front of a text is one piece.
use Rattle.std.proofs.Common.{◌≡◌, ◌≢◌, ℕ, ◌⊎◌, inl, inr, ⊎_elim, List, [], ◌∷◌, ◌++◌, refl, sym, ◌∙◌, ap, subst, append-nil}
use Rattle.script_tokens.specs.declared.token.Token.{Token}
use Rattle.script_tokens.specs.Lexemes.{IsLexeme, Longest, Piece, piece_text, EndsLine, HasNoLineFeed, Stands, AreOf, BeginsNoToken}
use Rattle.script_tokens.specs.Lexemes.Piece.{Blank, Comment, Lexeme}
use Rattle.script_tokens.specs.TextFronts.{MeansNothing}
use Rattle.script_tokens.proofs.FirstCharacters.{kind_of, first_kind, blank_kind, begins_lexeme}
use Rattle.script_tokens.proofs.FirstCharacters.Kind.{Ends, Blanks, Comments}

-- one of two beginnings of a text goes on to the other
pub record GoesOn (cs ds a b : List ℕ) : Type 0 where
  pub more : List ℕ
  pub longer : ds ≡ cs ++ more
  pub rest : a ≡ more ++ b

goes_on : (cs ds a b : List ℕ) → cs ++ a ≡ ds ++ b → GoesOn cs ds a b ⊎ GoesOn ds cs b a
goes_on [] ds a b e = inl (record { more = ds; longer = refl; rest = e })
goes_on (c ∷ cs) [] a b e = inr (record { more = c ∷ cs; longer = refl; rest = sym e })
goes_on (c ∷ cs) (d ∷ ds) a b e =
    let first : c ≡ d = cc in
    let others : cs ++ a ≡ ds ++ b = cc in
    ⊎_elim
    (λ g. let longer = g.longer in inl (record { more = g.more; longer = cc; rest = g.rest }))
    (λ g. let longer = g.longer in inr (record { more = g.more; longer = cc; rest = g.rest }))
    (goes_on cs ds a b others)

no_more : (cs ds a b more : List ℕ) → more ≡ [] → ds ≡ cs ++ more → a ≡ more ++ b → (cs ≡ ds) × (a ≡ b)
no_more cs ds a b [] none longer rest = (sym (longer ∙ append-nil cs), rest)
no_more cs ds a b (m ∷ more) none longer rest = cc

lexemes_same : (cs ds a b : List ℕ) → cs ++ a ≡ ds ++ b → Longest cs a → Longest ds b → (cs ≡ ds) × (a ≡ b)
lexemes_same cs ds a b e l m = ⊎_elim
    (λ g. no_more cs ds a b g.more (l.longest g.more b g.rest (subst IsLexeme g.longer m.lexeme)) g.longer g.rest)
    (λ g. let same = no_more ds cs b a g.more (m.longest g.more a g.rest (subst IsLexeme g.longer l.lexeme)) g.longer g.rest in (sym same.0, sym same.1))
    (goes_on cs ds a b e)

comments_same : (cs ds a b : List ℕ) → cs ++ a ≡ ds ++ b → HasNoLineFeed cs → EndsLine a → HasNoLineFeed ds → EndsLine b → (cs ≡ ds) × (a ≡ b)
comments_same [] [] a b e n end m fin = (refl, e)
comments_same [] (d ∷ ds) [] b e n end m fin = cc
comments_same [] (d ∷ ds) (x ∷ a) b e n end m fin = let same : x ≡ d = cc in absurd (m.0 (sym same ∙ end))
comments_same (c ∷ cs) [] a [] e n end m fin = cc
comments_same (c ∷ cs) [] a (x ∷ b) e n end m fin = let same : c ≡ x = cc in absurd (n.0 (same ∙ fin))
comments_same (c ∷ cs) (d ∷ ds) a b e n end m fin =
    let others : cs ++ a ≡ ds ++ b = cc in
    let rec = comments_same cs ds a b others n.1 end m.1 fin in
    let same : cs ≡ ds = rec.0 in
    let first : c ≡ d = cc in
    (cc, rec.1)

-- the piece's first character, before any rest
pub kind_before : (cs a : List ℕ) → first_kind cs ≢ Ends → first_kind (cs ++ a) ≡ first_kind cs
kind_before [] a some = absurd (some refl)
kind_before (c ∷ cs) a some = refl

lexeme_kind : (cs a ds : List ℕ) → Longest cs a → cs ++ a ≡ ds → (first_kind ds ≢ Blanks) × (first_kind ds ≢ Comments)
lexeme_kind cs a ds l e =
    let begins = begins_lexeme cs l.lexeme in
    let kind : first_kind ds ≡ first_kind cs = ap first_kind (sym e) ∙ kind_before cs a begins.ends in
    (λ k. begins.blanks (sym kind ∙ k), λ k. begins.comments (sym kind ∙ k))

pub front_same : (p q : Piece) (a b : List ℕ) → piece_text p ++ a ≡ piece_text q ++ b → Stands p a → Stands q b → (p ≡ q) × (a ≡ b)
front_same (Blank c) (Blank d) a b e s t = let first : c ≡ d = cc in let others : a ≡ b = cc in (ap Blank first, others)
front_same (Blank c) (Comment body) a b e s t = let first : c ≡ 35 = cc in let k = sym (blank_kind c s) ∙ ap kind_of first in cc
front_same (Blank c) (Lexeme cs) a b e s t = absurd ((lexeme_kind cs b (c ∷ a) t (sym e)).0 (blank_kind c s))
front_same (Comment body) (Blank c) a b e s t = let first : c ≡ 35 = cc in let k = sym (blank_kind c t) ∙ ap kind_of first in cc
front_same (Comment body) (Comment text) a b e s t =
    let others : body ++ a ≡ text ++ b = cc in
    let same = comments_same body text a b others s.0 s.1 t.0 t.1 in (ap Comment same.0, same.1)
front_same (Comment body) (Lexeme cs) a b e s t = absurd ((lexeme_kind cs b (35 ∷ (body ++ a)) t (sym e)).1 refl)
front_same (Lexeme cs) (Blank c) a b e s t = absurd ((lexeme_kind cs a (c ∷ b) s e).0 (blank_kind c t))
front_same (Lexeme cs) (Comment body) a b e s t = absurd ((lexeme_kind cs a (35 ∷ (body ++ b)) s e).1 refl)
front_same (Lexeme cs) (Lexeme ds) a b e s t = let same = lexemes_same cs ds a b e s t in (ap Lexeme same.0, same.1)

-- nothing that stands at the front is empty
pub piece_begins : (p : Piece) (rest : List ℕ) → Stands p rest → piece_text p ≢ []
piece_begins (Blank c) rest s e = cc
piece_begins (Comment body) rest s e = cc
piece_begins (Lexeme cs) rest s e = (begins_lexeme cs s.lexeme).ends (ap first_kind e)

-- a lexeme that means nothing is the beginning of no token
pub bad_lexeme : (cs rest text : List ℕ) → text ≡ cs ++ rest → Longest cs rest → MeansNothing cs → BeginsNoToken text
bad_lexeme cs rest text is longest bad = record { more = more; none = none }
  where
    more : text ≢ []
    more e = let ends = (begins_lexeme cs longest.lexeme).ends in ends (sym (kind_before cs rest ends) ∙ ap first_kind (sym is ∙ e))

    none : (p : Piece) (after : List ℕ) (ts : List Token) → text ≡ piece_text p ++ after → Stands p after → AreOf (p ∷ []) ts → ⊥
    none p after ts e stands of =
        let same = front_same (Lexeme cs) p rest after (sym is ∙ e) longest stands in
        means_none ts (subst (λ q. AreOf (q ∷ []) ts) (sym same.0) of)
      where
        means_none : (ts : List Token) → AreOf (Lexeme cs ∷ []) ts → ⊥
        means_none [] of = of
        means_none (t ∷ ts) of = bad t of.0
