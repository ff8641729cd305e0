-- What stands at the front of tokens, as a form, is one tree.
use Rattle.std.proofs.Common.{◌≡◌, ◌++◌, refl, sym, ap, ◌∙◌, subst, append_assoc}
use Rattle.script_tokens.specs.declared.token.Token.{Token}
use Rattle.script_grammar.specs.Forms.{Tokens, Form, tok, seq}
use Rattle.script_grammar.proofs.Items.{At, Lawful, goes_same}

-- no other tree stands where this one does
abbrev pub UniqueAt : (F : Form) → F.Tree → Type 0
UniqueAt F a = (b : F.Tree) (x y : Tokens) → F.May a x → F.May b y → F.tokens a ++ x ≡ F.tokens b ++ y → (a ≡ b) × (x ≡ y)

pub tok_unique : (t : Token) → UniqueAt (tok t) tt
tok_unique t b x y m n e = (refl, cc)

pub lawful_tok : (t : Token) → Lawful (tok t)
lawful_tok t = record {
  unique = λ a b x y m n e. (refl, cc);
  local = λ a x y go m. m;
  ends = λ a x m. m;
}

-- a row of two
pub seq_unique : (F : Form) (G : F.Tree → Form) (f : F.Tree) (g : (G f).Tree) → UniqueAt F f → UniqueAt (G f) g →
    UniqueAt (seq F G) (f, g)
seq_unique F G f g first second b x y m n e =
    let u = first b.0 ((G f).tokens g ++ x) ((G b.0).tokens b.1 ++ y) m.0 n.0
    (sym (append_assoc (F.tokens f) ((G f).tokens g) x) ∙ e ∙ append_assoc (F.tokens b.0) ((G b.0).tokens b.1) y) in
    subst (λ (z : F.Tree). (h : (G z).Tree) → (G z).May h y → (G f).tokens g ++ x ≡ (G z).tokens h ++ y →
    (◌≡◌ {A = (a : F.Tree) × (G a).Tree} (f, g) (z, h)) × (x ≡ y))
    u.0 (λ h k i. let v = second h x y m.1 k i in (ap (λ (w : (G f).Tree). let p : (a : F.Tree) × (G a).Tree = (f, w) in p) v.0, v.1)) b.1 n.1 u.1

-- a form that is another at a tree's own tokens
pub unique_by : (F G : Form) (ts x : Tokens) (c : G.Tree → F.Tree) (h : G.Tree) → At F ts G (G.tokens h ++ x) c →
    G.May h x → UniqueAt G h → (b : F.Tree) (y : Tokens) → F.May b y → F.tokens (c h) ++ x ≡ F.tokens b ++ y →
    (c h ≡ b) × (x ≡ y)
unique_by F G ts x c h f m u b y n e =
    let o = f.only (G.tokens h ++ x) (goes_same (G.tokens h ++ x)) b y n
    (sym (append_assoc f.before (G.tokens h) x) ∙ ap (λ z. z ++ x) (sym (f.same h x m)) ∙ e) in
    let v = u o.0 x y m o.1.1 o.1.2 in
    (ap c v.0 ∙ sym o.1.0, v.1)
