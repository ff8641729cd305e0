-- Expressions that can be assigned to or deleted, by what they are made of.
use Rattle.std.proofs.Common.{◌≡◌, ◌≢◌, ℕ, Bool, true, false, ◌&&◌, List, [], ◌∷◌, ◌++◌, map, refl, sym, ap, ◌∙◌, subst, append_assoc, codes}
use Rattle.std.proofs.Math.Bool.{and_assoc}
use Rattle.std.proofs.lemmas.List.{map-append, same_from_push}
use Rattle.script_tokens.specs.declared.token.Symbol.TheVariants as mark
use Rattle.script_tokens.specs.declared.token.Token.TheVariants.{Mark, Name}
use Rattle.script_grammar.specs.declared.halt.Halt.{Halt}
use Rattle.script_grammar.specs.declared.halt.Halt.TheVariants as halt
use Rattle.script_grammar.specs.declared.parser.places.Part.{Part}
use Rattle.script_grammar.specs.declared.parser.places.Part.TheVariants as part
use Rattle.script_grammar.specs.declared.parser.places.Place.{Place}
use Rattle.script_grammar.specs.declared.parser.places.Place.TheVariants as place
use Rattle.script_grammar.specs.declared.tree.Expr.{Expr}
use Rattle.script_grammar.specs.declared.tree.Head.{Head}
use Rattle.script_grammar.specs.declared.tree.Head.TheVariants as head
use Rattle.script_grammar.specs.declared.tree.Head.TheOpen.{Suffix-F}
use Rattle.script_grammar.specs.declared.tree.Head.TheViews.{out-Suffix}
use Rattle.script_grammar.specs.declared.tree.Suffix.{Suffix}
use Rattle.script_grammar.specs.declared.tree.Suffix.TheVariants as suffix
use Rattle.script_grammar.specs.ExpressionForms.{expr_form, name_expr}
use Rattle.script_grammar.specs.Forms.{Tokens, Reads, Stops}
use Rattle.script_grammar.specs.Halts.{Halts}
use Rattle.script_grammar.specs.Spelling.{spell_expr, spell_index}
use Rattle.script_grammar.specs.StatementForms.{with_last, part_expr, place_expr, part_form}
use Rattle.script_grammar.specs.Written.{SuffixWriting, implies, is_written_head, is_written_expr, writing_of_suffix, are_written_suffixes}
use Rattle.script_grammar.proofs.Ends.{end_apart}
use Rattle.script_grammar.proofs.ExpressionLaws.{lawful_expr}
use Rattle.script_grammar.proofs.Items.{Lawful, plain_append}
use Rattle.script_grammar.proofs.Spellings.{bare-spelling, longer-spelling, member-spelling, index-spelling}
use Rattle.script_grammar.proofs.Writings.{expr-writing, member-writing, index-writing, expr_is_written, name_is_written}

-- What they are spelled as, and where they can be written.

pub member_part-spelling : (e : Expr) (n : List ℕ) →
    spell_expr (part_expr (part.Member e n)) ≡ spell_expr e ++ Mark mark.Dot ∷ Name n ∷ []
member_part-spelling e n = longer-spelling e (suffix.Member n) ∙ ap (λ z. spell_expr e ++ z) (member-spelling n)

pub index_part-spelling : (e key : Expr) → spell_expr (part_expr (part.Index e key)) ≡ spell_expr e ++ spell_index key
index_part-spelling e key = longer-spelling e (suffix.Index key) ∙ ap (λ z. spell_expr e ++ z) (index-spelling key)

and_true : (a : Bool) → (a && true) ≡ a
and_true true = refl
and_true false = refl

-- suffixes and one more, which is no plain call
last_writing : (member : Bool) (xs : List SuffixWriting) (written last : Bool) →
    are_written_suffixes member (xs ++ record { written = written; member = last; no_call = true } ∷ []) ≡
    (are_written_suffixes member xs && written)
last_writing true [] written last = and_true written
last_writing false [] written last = and_true written
last_writing member (x ∷ xs) written last =
    let rest = are_written_suffixes x.member xs in
    let goes_on = implies member x.no_call in
    ap (λ z. x.written && (goes_on && z)) (last_writing x.member xs written last)
    ∙ ap (λ z. x.written && z) (sym (and_assoc goes_on rest written))
    ∙ sym (and_assoc x.written (goes_on && rest) written)

longer-writing : (e : Expr) (s : Suffix) (written last : Bool) →
    writing_of_suffix s ≡ record { written = written; member = last; no_call = true } →
    is_written_expr (with_last e s) ≡ (is_written_expr e && written)
longer-writing e s written last is =
    let row = map writing_of_suffix e.suffixes in
    expr-writing e.head (e.suffixes ++ s ∷ [])
    ∙ ap (λ z. is_written_head e.head && are_written_suffixes false z)
    (map-append writing_of_suffix e.suffixes (s ∷ []) ∙ ap (λ (z : SuffixWriting). row ++ z ∷ []) is)
    ∙ ap (λ z. is_written_head e.head && z) (last_writing false row written last)
    ∙ sym (and_assoc (is_written_head e.head) (are_written_suffixes false row) written)
    ∙ ap (λ z. z && written) (sym (expr-writing e.head e.suffixes))

pub member_part-writing : (e : Expr) (n : List ℕ) → is_written_expr (part_expr (part.Member e n)) ≡ is_written_expr e
member_part-writing e n = longer-writing e (suffix.Member n) true true (member-writing n) ∙ and_true (is_written_expr e)

pub index_part-writing : (e key : Expr) →
    is_written_expr (part_expr (part.Index e key)) ≡ (is_written_expr e && is_written_expr key)
index_part-writing e key = longer-writing e (suffix.Index key) (is_written_expr key) false (index-writing key)

pub bare_is_written : (n : List ℕ) → is_written_expr (name_expr n) ≡ true
bare_is_written n = expr_is_written (head.Name n) [] (name_is_written n) refl

-- Two of them are two expressions.

same_name : (n k : List ℕ) → suffix.Member n ≡ suffix.Member k → n ≡ k
same_name n k e =
    let f : Suffix-F.Member n ≡ Suffix-F.Member k = sym (suffix.outs-Member n) ∙ ap out-Suffix e ∙ suffix.outs-Member k in
    cc

same_key : (a b : Expr) → suffix.Index a ≡ suffix.Index b → a ≡ b
same_key a b e =
    let f : Suffix-F.Index a ≡ Suffix-F.Index b = sym (suffix.outs-Index a) ∙ ap out-Suffix e ∙ suffix.outs-Index b in
    cc

no_key : (n : List ℕ) (b : Expr) → suffix.Member n ≢ suffix.Index b
no_key n b e =
    let f : Suffix-F.Member n ≡ Suffix-F.Index b = sym (suffix.outs-Member n) ∙ ap out-Suffix e ∙ suffix.outs-Index b in
    cc

-- an expression with one suffix more, by what stands before it
longer_same : (a b : Expr) (s t : Suffix) → with_last a s ≡ with_last b t → (a ≡ b) × (s ≡ t)
longer_same a b s t e =
    let heads : a.head ≡ b.head = ap (λ (z : Expr). z.head) e in
    let ends = same_from_push a.suffixes b.suffixes s t (ap (λ (z : Expr). z.suffixes) e) in
    let same : a ≡ b =
    ap (λ (h : Head). let x : Expr = record { head = h; suffixes = a.suffixes } in x) heads
    ∙ ap (λ (ss : List Suffix). let x : Expr = record { head = b.head; suffixes = ss } in x) ends.0 in
    (same, ends.1)

part_same : (a b : Part) → part_expr a ≡ part_expr b → a ≡ b
part_same (part.Member a n) (part.Member b k) e =
    let f = longer_same a b (suffix.Member n) (suffix.Member k) e in
    ap (λ z. part.Member z n) f.0 ∙ ap (λ z. part.Member b z) (same_name n k f.1)
part_same (part.Member a n) (part.Index b k) e =
    absurd (no_key n k (longer_same a b (suffix.Member n) (suffix.Index k) e).1)
part_same (part.Index a k) (part.Member b n) e =
    absurd (no_key n k (sym (longer_same a b (suffix.Index k) (suffix.Member n) e).1))
part_same (part.Index a j) (part.Index b k) e =
    let f = longer_same a b (suffix.Index j) (suffix.Index k) e in
    ap (λ z. part.Index z j) f.0 ∙ ap (λ z. part.Index b z) (same_key j k f.1)

no_push : {X : Type 0} (xs : List X) (x : X) → xs ++ x ∷ [] ≢ []
no_push [] x e = cc
no_push (y ∷ xs) x e = cc

no_name : (n : List ℕ) (e : Expr) (s : Suffix) → with_last e s ≢ name_expr n
no_name n e s same = no_push e.suffixes s (ap (λ (z : Expr). z.suffixes) same)

no_name_part : (n : List ℕ) (p : Part) → part_expr p ≢ name_expr n
no_name_part n (part.Member e k) same = no_name n e (suffix.Member k) same
no_name_part n (part.Index e k) same = no_name n e (suffix.Index k) same

pub place_same : (a b : Place) → place_expr a ≡ place_expr b → a ≡ b
place_same (place.Name n) (place.Name k) e =
    let spelled : Name n ∷ [] ≡ Name k ∷ [] = sym (bare-spelling n) ∙ ap spell_expr e ∙ bare-spelling k in
    let same : n ≡ k = cc in
    ap place.Name same
place_same (place.Name n) (place.Part p) e = absurd (no_name_part n p (sym e))
place_same (place.Part p) (place.Name n) e = absurd (no_name_part n p e)
place_same (place.Part p) (place.Part q) e = ap place.Part (part_same p q e)

-- The reading of a part.

pub lawful_part : Lawful part_form
lawful_part = record {
  unique = λ a b x y m n e. let f = lawful_expr.unique (part_expr a) (part_expr b) x y m n e in (part_same a b f.0, f.1);
  local = λ a x y go m. lawful_expr.local (part_expr a) x y go m;
  ends = λ a x m. lawful_expr.ends (part_expr a) x m;
}

-- the member `a` makes a part of any expression

abbrev with_a : Expr → Part
with_a e = part.Member e (codes "a")

abbrev dot_a : Tokens
dot_a = Mark mark.Dot ∷ Name (codes "a") ∷ []

pub part_halts : (r : Tokens) (h : Halt) → Halts expr_form r h → Halts part_form r h
part_halts r (halt.Stop rest) s = record {
  taken = s.taken;
  split = s.split;
  tree = with_a s.tree;
  more = s.more ++ dot_a;
  begins = member_part-spelling s.tree (codes "a") ∙ ap (λ z. z ++ dot_a) s.begins ∙ append_assoc s.taken s.more dot_a;
  proper = (member_part-writing s.tree (codes "a") ∙ s.proper.0, end_apart);
  plain = plain_append s.more dot_a s.plain (tt, (refl, tt));
  stuck = λ us go p post m e. s.stuck us go (part_expr p) post m e;
}
part_halts r halt.Memory s = tt

-- an expression that is no part would have to go on
pub no_part_stops : {r rest : Tokens} {e : Expr} → Reads expr_form r e rest → ((p : Part) → e ≢ part_expr p) →
    Stops part_form r rest
no_part_stops {r} {rest} {e} reads other = record {
  taken = spell_expr e;
  split = reads.split;
  tree = with_a e;
  more = dot_a;
  begins = member_part-spelling e (codes "a");
  proper = (member_part-writing e (codes "a") ∙ reads.may.0, end_apart);
  plain = (tt, (refl, tt));
  stuck = λ us go p post m is.
      other p (lawful_expr.unique e (part_expr p) us post (lawful_expr.local e rest us go reads.may) m is).0;
}

pub part_read : {r rest : Tokens} {e : Expr} {p : Part} → Reads expr_form r e rest → e ≡ part_expr p →
    Reads part_form r p rest
part_read {r} {rest} {e} {p} reads is =
    let whole = subst (λ z. Reads expr_form r z rest) is reads in
    record { split = whole.split; may = whole.may }
