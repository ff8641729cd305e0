-- Where a reading call stands within its form.
use Rattle.std.proofs.Common.{◌≡◌, ◌⊎◌, inl, inr, [], ◌∷◌, ◌++◌, refl, sym, ap, ◌∙◌, subst, append_assoc}
use Rattle.std.proofs.lemmas.List.{append_cancel_left}
use Rattle.script_tokens.specs.declared.token.Token.{Token}
use Rattle.script_grammar.specs.Forms.{Tokens, Form, AllPlain, GoesOnAs, Reads, Stops, seq, or, or_tokens, or_may}

-- What stands as the form is one tree, whatever follows; what follows counts by its first token; and a tree may
-- end its tokens where it may stand before others.
pub record Lawful (F : Form) : Type 0 where
  pub unique : (a b : F.Tree) (x y : Tokens) → F.May a x → F.May b y → F.tokens a ++ x ≡ F.tokens b ++ y →
      (a ≡ b) × (x ≡ y)
  pub local : (a : F.Tree) (x y : Tokens) → GoesOnAs x y → F.May a x → F.May a y
  pub ends : (a : F.Tree) (x : Tokens) → F.May a x → F.May a []

-- what stands after in a row does not bar what stands before
abbrev pub Follows : (G : Form) → (G.Tree → Form) → Type 0
Follows G H = (g : G.Tree) (b : (H g).Tree) (post : Tokens) → G.May g [] → (H g).May b post → G.May g ((H g).tokens b ++ post)

-- a tree that needs nothing after it, of plain tokens
pub record Complete (F : Form) : Type 0 where
  pub tree : F.Tree
  pub may : F.May tree []
  pub plain : AllPlain (F.tokens tree)

pub plain_append : (a b : Tokens) → AllPlain a → AllPlain b → AllPlain (a ++ b)
plain_append [] b p q = q
plain_append (t ∷ a) b p q = (p.0, plain_append a b p.1 q)

-- whatever stands before in a row, what stands after can be completed
abbrev pub Completes : (G : Form) → (G.Tree → Form) → Type 0
Completes G H = (g : G.Tree) → Complete (H g)

-- to read F at ts is to read G at r
pub record At (F : Form) (ts : Tokens) (G : Form) (r : Tokens) (c : G.Tree → F.Tree) : Type 0 where
  pub before : Tokens
  pub split : ts ≡ before ++ r
  pub same : (b : G.Tree) (post : Tokens) → G.May b post → F.tokens (c b) ≡ before ++ G.tokens b
  pub may : (b : G.Tree) (post : Tokens) → G.May b post → F.May (c b) post
  pub only : (us : Tokens) → GoesOnAs r us → (a : F.Tree) (post : Tokens) → F.May a post →
      before ++ us ≡ F.tokens a ++ post → (b : G.Tree) × ((a ≡ c b) × G.May b post × (us ≡ G.tokens b ++ post))

-- Tokens that go on as others, with more before both.

pub goes_same : (ts : Tokens) → GoesOnAs ts ts
goes_same [] = refl
goes_same (t ∷ ts) = (ts, refl)

pub goes_under : (x r us : Tokens) → GoesOnAs r us → GoesOnAs (x ++ r) (x ++ us)
goes_under [] r us g = g
goes_under (t ∷ x) r us g = (x ++ us, refl)

goes_along : (r q : Tokens) (us : Tokens) → q ≡ r → GoesOnAs q us → GoesOnAs r us
goes_along r q us e g = subst (λ z. GoesOnAs z us) e g

-- nothing is read yet
pub here : (F : Form) (ts : Tokens) → At F ts F ts (λ a. a)
here F ts = record {
  before = [];
  split = refl;
  same = λ b post m. refl;
  may = λ b post m. m;
  only = λ us g a post m e. (a, (refl, m, e));
}

-- a form within a form
pub then_at : (F G H : Form) (ts r q : Tokens) (c : G.Tree → F.Tree) (d : H.Tree → G.Tree) → At F ts G r c →
    At G r H q d → At F ts H q (λ b. c (d b))
then_at F G H ts r q c d f g = record {
  before = f.before ++ g.before;
  split = f.split ∙ ap (λ z. f.before ++ z) g.split ∙ sym (append_assoc f.before g.before q);
  same = λ b post m.
      f.same (d b) post (g.may b post m) ∙ ap (λ z. f.before ++ z) (g.same b post m) ∙ sym (append_assoc f.before g.before (H.tokens b));
  may = λ b post m. f.may (d b) post (g.may b post m);
  only = λ us go a post m e.
      let first = f.only (g.before ++ us) (goes_along r (g.before ++ q) (g.before ++ us) (sym g.split) (goes_under g.before q us go)) a post m
      (sym (append_assoc f.before g.before us) ∙ e) in
      let second = g.only us go first.0 post first.1.1 first.1.2 in
      (second.0, (first.1.0 ∙ ap c second.1.0, second.1.1, second.1.2));
}

-- what was read is behind
pub read_at : (G : Form) (H : G.Tree → Form) (r q : Tokens) (g : G.Tree) → Lawful G → Follows G H → Reads G r g q →
    At (seq G H) r (H g) q (λ b. (g, b))
read_at G H r q g laws follows reads = record {
  before = G.tokens g;
  split = reads.split;
  same = λ b post m. refl;
  may = λ b post m. (follows g b post (laws.ends g q reads.may) m, m);
  only = λ us go a post m e.
      let both = laws.unique g a.0 us ((H a.0).tokens a.1 ++ post) (laws.local g q us go reads.may) m.0
      (e ∙ append_assoc (G.tokens a.0) ((H a.0).tokens a.1) post) in
      subst (λ (z : G.Tree). (b : (H z).Tree) → (H z).May b post → us ≡ (H z).tokens b ++ post →
      (x : (H g).Tree) × ((◌≡◌ {A = (y : G.Tree) × (H y).Tree} (z, b) (g, x)) × (H g).May x post × (us ≡ (H g).tokens x ++ post)))
      both.0 (λ b n u. (b, (refl, n, u))) a.1 m.1 both.1;
}

-- where a form within stops, the form around it stops
pub stop_at : (F G : Form) (ts r rest : Tokens) (c : G.Tree → F.Tree) → At F ts G r c → Stops G r rest →
    Stops F ts rest
stop_at F G ts r rest c f s = record {
  taken = f.before ++ s.taken;
  split = f.split ∙ ap (λ z. f.before ++ z) s.split ∙ sym (append_assoc f.before s.taken rest);
  tree = c s.tree;
  more = s.more;
  begins = f.same s.tree [] s.proper ∙ ap (λ z. f.before ++ z) s.begins ∙ sym (append_assoc f.before s.taken s.more);
  proper = f.may s.tree [] s.proper;
  plain = s.plain;
  stuck = λ us go t post m e.
      let only = f.only (s.taken ++ us) (goes_along r (s.taken ++ rest) (s.taken ++ us) (sym s.split) (goes_under s.taken rest us go)) t post m
      (sym (append_assoc f.before s.taken us) ∙ e) in
      s.stuck us go only.0 post only.1.1 only.1.2;
}

-- where the first of a row stops, the row stops
pub first_stop : (G : Form) (H : G.Tree → Form) (r rest : Tokens) → Follows G H → Completes G H → Stops G r rest →
    Stops (seq G H) r rest
first_stop G H r rest follows completes s =
    let d = completes s.tree in
    record {
      taken = s.taken;
      split = s.split;
      tree = (s.tree, d.tree);
      more = s.more ++ (H s.tree).tokens d.tree;
      begins = ap (λ z. z ++ (H s.tree).tokens d.tree) s.begins ∙ append_assoc s.taken s.more ((H s.tree).tokens d.tree);
      proper = (follows s.tree d.tree [] s.proper d.may, d.may);
      plain = plain_append s.more ((H s.tree).tokens d.tree) s.plain d.plain;
      stuck = λ us go t post m e.
          s.stuck us go t.0 ((H t.0).tokens t.1 ++ post) m.0 (e ∙ append_assoc (G.tokens t.0) ((H t.0).tokens t.1) post);
    }

-- the rest of the form is read
pub read_rest : (F G : Form) (ts r q : Tokens) (c : G.Tree → F.Tree) (g : G.Tree) → At F ts G r c → Reads G r g q →
    Reads F ts (c g) q
read_rest F G ts r q c g f reads = record {
  split = f.split ∙ ap (λ z. f.before ++ z) reads.split ∙ sym (append_assoc f.before (G.tokens g) q)
      ∙ ap (λ z. z ++ q) (sym (f.same g q reads.may));
  may = f.may g q reads.may;
}

-- a form is another where its first token stands
pub branch : (F G : Form) (r : Tokens) (c : G.Tree → F.Tree) →
    ((b : G.Tree) (post : Tokens) → G.May b post → F.tokens (c b) ≡ G.tokens b) →
    ((b : G.Tree) (post : Tokens) → G.May b post → F.May (c b) post) →
    ((us : Tokens) → GoesOnAs r us → (a : F.Tree) (post : Tokens) → F.May a post → us ≡ F.tokens a ++ post →
    (b : G.Tree) × ((a ≡ c b) × G.May b post)) →
    At F r G r c
branch F G r c same may only = record {
  before = [];
  split = refl;
  same = same;
  may = may;
  only = λ us go a post m e.
      let f = only us go a post m e in
      (f.0, (f.1.0, f.1.1, e ∙ ap (λ z. F.tokens z ++ post) f.1.0 ∙ ap (λ z. z ++ post) (same f.0 post f.1.1)));
}

-- the first token of a form is taken
pub after_first : (F G : Form) (t : Token) (r : Tokens) (c : G.Tree → F.Tree) →
    ((b : G.Tree) (post : Tokens) → G.May b post → F.tokens (c b) ≡ t ∷ G.tokens b) →
    ((b : G.Tree) (post : Tokens) → G.May b post → F.May (c b) post) →
    ((us : Tokens) → (a : F.Tree) (post : Tokens) → F.May a post → t ∷ us ≡ F.tokens a ++ post →
    (b : G.Tree) × ((a ≡ c b) × G.May b post)) →
    At F (t ∷ r) G r c
after_first F G t r c same may only = record {
  before = t ∷ [];
  split = refl;
  same = same;
  may = may;
  only = λ us go a post m e.
      let f = only us a post m e in
      let g : t ∷ us ≡ t ∷ (G.tokens f.0 ++ post) =
      e ∙ ap (λ z. F.tokens z ++ post) f.1.0 ∙ ap (λ z. z ++ post) (same f.0 post f.1.1) in
      (f.0, (f.1.0, f.1.1, cc));
}

-- the first tokens of a form are taken, and they tell which form the rest is
pub after_tokens : (F G : Form) (before r : Tokens) (c : G.Tree → F.Tree) →
    ((b : G.Tree) (post : Tokens) → G.May b post → F.tokens (c b) ≡ before ++ G.tokens b) →
    ((b : G.Tree) (post : Tokens) → G.May b post → F.May (c b) post) →
    ((us : Tokens) → GoesOnAs r us → (a : F.Tree) (post : Tokens) → F.May a post → before ++ us ≡ F.tokens a ++ post →
    (b : G.Tree) × ((a ≡ c b) × G.May b post)) →
    At F (before ++ r) G r c
after_tokens F G before r c same may only = record {
  before = before;
  split = refl;
  same = same;
  may = may;
  only = λ us go a post m e.
      let f = only us go a post m e in (
        f.0,
        (
          f.1.0,
          f.1.1,
          append_cancel_left before us (G.tokens f.0 ++ post)
              (e ∙ ap (λ z. F.tokens z ++ post) f.1.0 ∙ ap (λ z. z ++ post) (same f.0 post f.1.1) ∙ append_assoc before (G.tokens f.0) post),
        ),
      );
}

-- A part of a form, before anything that is not read yet.

-- a tree of F that begins with these tokens
pub record Completion (F : Form) (ts : Tokens) : Type 0 where
  pub tree : F.Tree
  pub more : Tokens
  pub begins : F.tokens tree ≡ ts ++ more
  pub may : F.May tree []
  pub plain : AllPlain more

-- after these tokens of F stands G, and F can be completed after it
pub record Within (F G : Form) (before : Tokens) : Type 0 where
  pub completes : (g : G.Tree) → G.May g [] → Completion F (before ++ G.tokens g)
  pub only : (us : Tokens) (a : F.Tree) (post : Tokens) → F.May a post → before ++ us ≡ F.tokens a ++ post →
      (g : G.Tree) × ((after : Tokens) × (G.May g after × (us ≡ G.tokens g ++ after)))

pub stop_within : (F G : Form) (before r rest : Tokens) → Within F G before → Stops G r rest → Stops F (before ++ r) rest
stop_within F G before r rest w s =
    let d = w.completes s.tree s.proper in
    record {
      taken = before ++ s.taken;
      split = ap (λ z. before ++ z) s.split ∙ sym (append_assoc before s.taken rest);
      tree = d.tree;
      more = s.more ++ d.more;
      begins = d.begins ∙ ap (λ z. before ++ z ++ d.more) s.begins ∙ ap (λ z. z ++ d.more) (sym (append_assoc before s.taken s.more))
          ∙ append_assoc (before ++ s.taken) s.more d.more;
      proper = d.may;
      plain = plain_append s.more d.more s.plain d.plain;
      stuck = λ us go t post m e.
          let f = w.only (s.taken ++ us) t post m (sym (append_assoc before s.taken us) ∙ e) in
          s.stuck us go f.0 f.1.0 f.1.1.0 f.1.1.1;
    }

-- nothing of G goes on as r
abbrev pub None : Form → Tokens → Type 0
None G r = (us : Tokens) → GoesOnAs r us → (b : G.Tree) (post : Tokens) → G.May b post → us ≡ G.tokens b ++ post → ⊥

-- one of two forms, where the other has no tree

pub left : (F G : Form) (r : Tokens) → None G r → At (or F G) r F r inl
left F G r none = branch (or F G) F r inl (λ b post m. refl) (λ b post m. m) (λ us go a post m e. go_left us go post a m e)
  where
    go_left : (us : Tokens) → GoesOnAs r us → (post : Tokens) (a : F.Tree ⊎ G.Tree) → or_may F G a post →
        us ≡ or_tokens F G a ++ post → (b : F.Tree) × ((a ≡ inl b) × F.May b post)
    go_left us go post (inl a) m e = (a, (refl, m))
    go_left us go post (inr b) m e = absurd (none us go b post m e)

pub right : (F G : Form) (r : Tokens) → None F r → At (or F G) r G r inr
right F G r none = branch (or F G) G r inr (λ b post m. refl) (λ b post m. m) (λ us go a post m e. go_right us go post a m e)
  where
    go_right : (us : Tokens) → GoesOnAs r us → (post : Tokens) (a : F.Tree ⊎ G.Tree) → or_may F G a post →
        us ≡ or_tokens F G a ++ post → (b : G.Tree) × ((a ≡ inr b) × G.May b post)
    go_right us go post (inr b) m e = (b, (refl, m))
    go_right us go post (inl a) m e = absurd (none us go a post m e)

-- another way to write the tree
pub at_same : (F G : Form) (ts r : Tokens) (c d : G.Tree → F.Tree) → ((b : G.Tree) → c b ≡ d b) → At F ts G r c →
    At F ts G r d
at_same F G ts r c d same f = record {
  before = f.before;
  split = f.split;
  same = λ b post m. ap F.tokens (sym (same b)) ∙ f.same b post m;
  may = λ b post m. subst (λ z. F.May z post) (same b) (f.may b post m);
  only = λ us go a post m e. let g = f.only us go a post m e in (g.0, (g.1.0 ∙ same g.0, g.1.1, g.1.2));
}

-- one more part is read
pub step : {F : Form} {ts r q : Tokens} (G : Form) (H : G.Tree → Form) (c : (seq G H).Tree → F.Tree) (g : G.Tree) →
    At F ts (seq G H) r c → Lawful G → Follows G H → Reads G r g q → At F ts (H g) q (λ b. c (g, b))
step {F} {ts} {r} {q} G H c g f laws follows reads =
    then_at F (seq G H) (H g) ts r q c (λ b. (g, b)) f (read_at G H r q g laws follows reads)

-- the form is another here
pub into : {F : Form} {ts r q : Tokens} (G H : Form) (c : G.Tree → F.Tree) (d : H.Tree → G.Tree) → At F ts G r c →
    At G r H q d → At F ts H q (λ b. c (d b))
into {F} {ts} {r} {q} G H c d f g = then_at F G H ts r q c d f g
