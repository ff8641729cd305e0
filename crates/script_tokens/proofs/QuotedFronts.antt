-- The text between quotation marks at the front of a text.
use Rattle.std.proofs.Common.{◌≡◌, ◌≢◌, ℕ, ◌+◌, ◌-◌, ◌<◌, ◌≤◌, true, List, [], ◌∷◌, ◌++◌, length, drop, refl, sym, ◌∙◌, ap, subst, append_assoc, append-nil, length-append, arith}
use Rattle.std.specs.Prelude.{Some, string_bytes, IsUtf8}
use Rattle.std.specs.List.{flat_map, list_all}
use Rattle.std.specs.Str.{chars}
use Rattle.std.proofs.Math.Seq.{drop-append_seam}
use Rattle.std.proofs.lemmas.Bool.{and_parts}
use Rattle.std.proofs.lemmas.Grind.{flat_map-append}
use Rattle.std.proofs.lemmas.List.Folds.{list_all-append}
use Rattle.std.proofs.lemmas.Str.{chars-nil}
use Rattle.dyn_value.specs.Texts.{escaped, quoted_text}
use Rattle.script_tokens.specs.declared.lexer.quoted.Content.{Content}
use Rattle.script_tokens.specs.declared.token.Token.{Token}
use Rattle.script_tokens.specs.declared.token.Token.TheVariants.{Name, Int, Text, Word, Mark}
use Rattle.script_tokens.specs.Lexemes.{stands_in_text, byte_count, IsLexeme, Longest, Means, Piece, piece_text, Stands, AreOf, BeginsNoToken}
use Rattle.script_tokens.specs.Lexemes.IsLexeme.{OfWord, OfDigits, OfText, OfSymbol}
use Rattle.script_tokens.specs.Lexemes.Piece.{Blank, Comment, Lexeme}
use Rattle.script_tokens.specs.TextFronts.{BeginsQuoted, IsContent, IsFront}
use Rattle.script_tokens.proofs.ByteCounts.{byte_count-chars}
use Rattle.script_tokens.proofs.Escapes.{ReadOn, quoted_begins, reads_on}
use Rattle.script_tokens.proofs.FirstCharacters.{kind_of, first_kind, blank_kind, comment_kind, words_kind, digits_kind, symbol_kind}
use Rattle.script_tokens.proofs.FirstCharacters.Kind.{Ends, Texts}
use Rattle.script_tokens.proofs.FrontPieces.{kind_before}
use Rattle.script_tokens.proofs.TokenMeanings.{means_kind}

text_longest : (t rest : List ℕ) → list_all stands_in_text t ≡ true → Longest (quoted_text t) rest
text_longest t rest proper = record { lexeme = OfText t (refl, proper); longest = longest }
  where
    longest : (more after : List ℕ) → rest ≡ more ++ after → IsLexeme (quoted_text t ++ more) → more ≡ []
    longest more after is (OfWord w) = let other = words_kind (quoted_text t ++ more) w in cc
    longest more after is (OfDigits d) = let other = digits_kind (quoted_text t ++ more) d in cc
    longest more after is (OfText u q) = (quoted_begins t u more [] (q.0 ∙ sym (append-nil (quoted_text u)))).1
    longest more after is (OfSymbol s e) = let other = ap first_kind e ∙ symbol_kind s in cc

text_front : (cs t after : List ℕ) (n : ℕ) → cs ≡ quoted_text t ++ after → n ≡ length (quoted_text t) → list_all stands_in_text t ≡ true → byte_count t ≤ 65536
    → IsFront cs (record { length = n; token = Some (Text t) })
text_front cs t after n is size proper small =
    let rest : drop n cs ≡ after = ap (drop n) is ∙ ap (λ m. drop m (quoted_text t ++ after)) size ∙ drop-append_seam (quoted_text t) after in
    record {
      some = omega (arith, size);
      within = omega (arith, size, ap length is, length-append (quoted_text t) after);
      piece = Lexeme (quoted_text t);
      text = is ∙ ap (λ x. quoted_text t ++ x) (sym rest);
      stands = text_longest t (drop n cs) proper;
      tokens = (((refl, proper), small), refl);
    }

same_kind : (ds after cs : List ℕ) → cs ≡ ds ++ after → first_kind ds ≢ Ends → first_kind ds ≡ first_kind cs
same_kind ds after cs e some = sym (kind_before ds after some) ∙ ap first_kind (sym e)

-- a lexeme at a quotation mark means a text
pub record IsText (ds : List ℕ) : Type 0 where
  pub text : List ℕ
  pub written : ds ≡ quoted_text text
  pub proper : list_all stands_in_text text ≡ true
  pub small : byte_count text ≤ 65536

quoted_means : (ds after cs : List ℕ) (t : Token) → first_kind cs ≡ Texts → cs ≡ ds ++ after → Means ds t → IsText ds
quoted_means ds after cs (Text t) kind e m = record { text = t; written = m.0.0; proper = m.0.1; small = m.1 }
quoted_means ds after cs (Name n) kind e m = let k = means_kind ds (Name n) m in let same = same_kind ds after cs e (λ ends. cc) in cc
quoted_means ds after cs (Int n) kind e m = let k = means_kind ds (Int n) m in let same = same_kind ds after cs e (λ ends. cc) in cc
quoted_means ds after cs (Word w) kind e m = let k = means_kind ds (Word w) m in let same = same_kind ds after cs e (λ ends. cc) in cc
quoted_means ds after cs (Mark s) kind e m = let k = means_kind ds (Mark s) m in let same = same_kind ds after cs e (λ ends. cc) in cc

-- a piece at a quotation mark is a text
quoted_piece : (cs after : List ℕ) (p : Piece) (ts : List Token) → first_kind cs ≡ Texts → cs ≡ piece_text p ++ after → Stands p after → AreOf (p ∷ []) ts
    → (ds : List ℕ) × ((cs ≡ ds ++ after) × IsText ds)
quoted_piece cs after (Blank d) ts kind e stands of = let k = blank_kind d stands in let l = ap first_kind e in cc
quoted_piece cs after (Comment body) ts kind e stands of = let l = ap first_kind e in let k = comment_kind in cc
quoted_piece cs after (Lexeme ds) [] kind e stands of = absurd of
quoted_piece cs after (Lexeme ds) (t ∷ ts) kind e stands of = (ds, (e, quoted_means ds after cs t kind e of.0))

texts_kind : (cs : List ℕ) → BeginsQuoted cs → first_kind cs ≡ Texts
texts_kind [] quoted = absurd quoted
texts_kind (c ∷ cs) quoted = ap kind_of quoted

-- at a quotation mark nothing else stands than a text
no_text : (cs : List ℕ) → BeginsQuoted cs
    → ((t after : List ℕ) → cs ≡ quoted_text t ++ after → list_all stands_in_text t ≡ true → byte_count t ≤ 65536 → ⊥) → BeginsNoToken cs
no_text cs quoted none = record {
  more = λ e. let kind = texts_kind cs quoted in let ends = ap first_kind e in cc;
  none = λ p after ts e stands of.
      let is = quoted_piece cs after p ts (texts_kind cs quoted) e stands of in
      none is.1.1.text after (is.1.0 ∙ ap (λ x. x ++ after) is.1.1.written) is.1.1.proper is.1.1.small;
}

-- the characters that were read
abbrev pub read_of : Content → List ℕ
read_of content = chars (string_bytes content.characters)

quoted_is : (cs inside : List ℕ) → BeginsQuoted cs → inside ≡ drop 1 cs → cs ≡ 34 ∷ inside
quoted_is [] inside quoted is = absurd quoted
quoted_is (c ∷ cs) inside quoted is = let first : c ≡ 34 = quoted in let rest : inside ≡ cs = is in cc

begins_is : (rest : List ℕ) → BeginsQuoted rest → rest ≡ 34 ∷ drop 1 rest
begins_is [] quoted = absurd quoted
begins_is (c ∷ rest) quoted = let first : c ≡ 34 = quoted in cc

-- the characters that are read are those of any text that stands there
pub read_all : (cs inside t after : List ℕ) (content : Content) → BeginsQuoted cs → inside ≡ drop 1 cs → IsContent inside content
    → cs ≡ quoted_text t ++ after → list_all stands_in_text t ≡ true → (t ≡ read_of content) × BeginsQuoted content.rest.now
read_all cs inside t after content quoted is read e proper =
    ended on.more on.longer on.rest_is
  where
    meet : 34 ∷ inside ≡ 34 ∷ ((flat_map escaped t ++ 34 ∷ []) ++ after)
    meet = sym (quoted_is cs inside quoted is) ∙ e

    inner : inside ≡ (flat_map escaped t ++ 34 ∷ []) ++ after
    inner = ap (drop 1) meet

    on : ReadOn (read_of content) t content.rest.now after
    on = reads_on (read_of content) t content.rest.now after (sym read.written ∙ inner ∙ append_assoc (flat_map escaped t) (34 ∷ []) after)

    ended : (more : List ℕ) → t ≡ read_of content ++ more → content.rest.now ≡ flat_map escaped more ++ 34 ∷ after → (t ≡ read_of content) × BeginsQuoted content.rest.now
    ended [] longer rest = (longer ∙ append-nil (read_of content), subst BeginsQuoted (sym rest) refl)
    ended (m ∷ more) longer rest =
        let all = sym (list_all-append stands_in_text (read_of content) (m ∷ more)) ∙ ap (list_all stands_in_text) (sym longer) ∙ proper in
        let stands = (and_parts (stands_in_text m) (list_all stands_in_text more) ((and_parts (list_all stands_in_text (read_of content)) (list_all stands_in_text (m ∷ more)) all).1)).0 in
        absurd (read.ends m (flat_map escaped more ++ 34 ∷ after) stands (rest ∙ append_assoc (escaped m) (flat_map escaped more) (34 ∷ after)))

pub quoted_read : (cs inside bytes t : List ℕ) (content : Content) (n : ℕ) → BeginsQuoted cs → inside ≡ drop 1 cs → IsContent inside content → BeginsQuoted content.rest.now
    → bytes ≡ string_bytes content.characters → IsUtf8 bytes → length bytes ≤ 65536 → t ≡ chars bytes → n ≡ length cs - length content.rest.now + 1
    → IsFront cs (record { length = n; token = Some (Text t) })
quoted_read cs inside bytes t content n quoted is read ends encoded text small meant size =
    let same : t ≡ read_of content = meant ∙ ap chars encoded in
    let after = drop 1 content.rest.now in
    let inner : inside ≡ (flat_map escaped (read_of content) ++ 34 ∷ []) ++ after
    = read.written ∙ ap (λ x. flat_map escaped (read_of content) ++ x) (begins_is content.rest.now ends) ∙ sym (append_assoc (flat_map escaped (read_of content)) (34 ∷ []) after) in
    let whole : cs ≡ quoted_text (read_of content) ++ after = quoted_is cs inside quoted is ∙ ap (λ x. 34 ∷ x) inner in
    let long : length (quoted_text (read_of content)) ≡ n
    = omega (arith, size, ap length whole, length-append (quoted_text (read_of content)) after, ap length (begins_is content.rest.now ends)) in
    let few : byte_count t ≤ 65536 = omega (arith, small, ap byte_count meant, byte_count-chars bytes text) in
    text_front cs t after n (whole ∙ ap (λ x. quoted_text x ++ after) (sym same)) (sym long ∙ ap (λ x. length (quoted_text x)) (sym same))
    (ap (list_all stands_in_text) same ∙ read.proper) few

pub quoted_unended : (cs inside : List ℕ) (content : Content) → BeginsQuoted cs → inside ≡ drop 1 cs → IsContent inside content → (BeginsQuoted content.rest.now → ⊥) → BeginsNoToken cs
quoted_unended cs inside content quoted is read unended =
    no_text cs quoted (λ t after e proper small. unended ((read_all cs inside t after content quoted is read e proper).1))

pub quoted_long : (cs inside bytes : List ℕ) (content : Content) → BeginsQuoted cs → inside ≡ drop 1 cs → IsContent inside content
    → bytes ≡ string_bytes content.characters → IsUtf8 bytes → 65536 < length bytes → BeginsNoToken cs
quoted_long cs inside bytes content quoted is read encoded text long =
    no_text cs quoted (λ t after e proper small.
    omega (arith, small, long, ap byte_count ((read_all cs inside t after content quoted is read e proper).0 ∙ ap chars (sym encoded)), byte_count-chars bytes text))

pub nothing_read : (inside bytes : List ℕ) → bytes ≡ [] → (inside ≡ flat_map escaped (chars bytes) ++ inside) × (list_all stands_in_text (chars bytes) ≡ true)
nothing_read inside bytes none =
    let empty : chars bytes ≡ [] = ap chars none ∙ chars-nil in
    (ap (λ cs. flat_map escaped cs ++ inside) (sym empty), ap (list_all stands_in_text) empty)

-- one more character is read
pub more_read : (inside rest more old new : List ℕ) (c : ℕ) → chars new ≡ chars old ++ c ∷ []
    → inside ≡ flat_map escaped (chars old) ++ rest → list_all stands_in_text (chars old) ≡ true → rest ≡ escaped c ++ more → stands_in_text c ≡ true
    → (inside ≡ flat_map escaped (chars new) ++ more) × (list_all stands_in_text (chars new) ≡ true)
more_read inside rest more old new c longer before proper next stands =
    let written : flat_map escaped (chars new) ≡ flat_map escaped (chars old) ++ escaped c
    = ap (flat_map escaped) longer ∙ flat_map-append escaped (chars old) (c ∷ []) ∙ ap (λ x. flat_map escaped (chars old) ++ x) (append-nil (escaped c)) in
    let all : list_all stands_in_text (chars old ++ c ∷ []) ≡ true = list_all-append stands_in_text (chars old) (c ∷ []) ∙ rw (proper, stands) in (
      before ∙ ap (λ x. flat_map escaped (chars old) ++ x) next ∙ sym (append_assoc (flat_map escaped (chars old)) (escaped c) more) ∙ ap (λ x. x ++ more) (sym written),
      ap (list_all stands_in_text) longer ∙ all,
    )
