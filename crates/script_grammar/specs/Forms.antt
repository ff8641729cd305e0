-- Forms of a grammar, and what the reading of one answers.
use Rattle.std.specs.Prelude.{◌≡◌, ◌⊎◌, List, [], ◌∷◌, ◌++◌, codes}
use Rattle.std.proofs.Common.{inl, inr}
use Rattle.script_tokens.specs.declared.token.Token.{Token}
use Rattle.script_tokens.specs.declared.token.Token.TheVariants.{Name, Int, Text, Word, Mark}

abbrev pub Tokens : Type 0
Tokens = List Token

-- a form: its trees, the tokens of each, and before which tokens each may stand
pub record Form : Type 1 where
  pub Tree : Type 0
  pub tokens : Tree → Tokens
  pub May : Tree → Tokens → Type 0

-- us has the first token of ts, or neither has one
abbrev pub GoesOnAs : Tokens → Tokens → Type 0
GoesOnAs [] us = us ≡ []
GoesOnAs (t ∷ ts) us = (more : Tokens) × (us ≡ t ∷ more)

-- the tree stands at the front of ts, and rest after it
pub record Reads (F : Form) (ts : Tokens) (tree : F.Tree) (rest : Tokens) : Type 0 where
  pub split : ts ≡ F.tokens tree ++ rest
  pub may : F.May tree rest

-- a token that a completion may have: the name `a`, words and symbols
abbrev pub IsPlain : Token → Type 0
IsPlain (Name n) = n ≡ codes "a"
IsPlain (Int n) = ⊥
IsPlain (Text t) = ⊥
IsPlain (Word w) = Unit {0}
IsPlain (Mark s) = Unit {0}

abbrev pub AllPlain : Tokens → Type 0
AllPlain [] = Unit {0}
AllPlain (t ∷ ts) = IsPlain t × AllPlain ts

-- The tokens of ts before rest begin a tree's tokens. No tree goes on with the first token of rest, or
-- ends here where rest is empty.
pub record Stops (F : Form) (ts rest : Tokens) : Type 0 where
  pub taken : Tokens
  pub split : ts ≡ taken ++ rest
  pub tree : F.Tree
  pub more : Tokens
  pub begins : F.tokens tree ≡ taken ++ more
  pub proper : F.May tree []
  pub plain : AllPlain more
  pub stuck : (us : Tokens) → GoesOnAs rest us → (t : F.Tree) (post : Tokens) → F.May t post → taken ++ us ≡ F.tokens t ++ post → ⊥

-- one token
abbrev pub tok : Token → Form
tok t = record { Tree = Unit {0}; tokens = λ _. t ∷ []; May = λ _ _. Unit {0} }

-- nothing, before tokens of which P holds
abbrev pub nothing : (Tokens → Type 0) → Form
nothing P = record { Tree = Unit {0}; tokens = λ _. []; May = λ _ post. P post }

abbrev pub or_tokens : (F G : Form) → F.Tree ⊎ G.Tree → Tokens
or_tokens F G (inl a) = F.tokens a
or_tokens F G (inr b) = G.tokens b

abbrev pub or_may : (F G : Form) → F.Tree ⊎ G.Tree → Tokens → Type 0
or_may F G (inl a) post = F.May a post
or_may F G (inr b) post = G.May b post

-- one or the other
abbrev pub or : Form → Form → Form
or F G = record { Tree = F.Tree ⊎ G.Tree; tokens = or_tokens F G; May = or_may F G }

-- one after the other; the second may depend on the first
abbrev pub seq : (F : Form) → (F.Tree → Form) → Form
seq F G = record {
  Tree = (a : F.Tree) × (G a).Tree;
  tokens = λ p. F.tokens p.0 ++ (G p.0).tokens p.1;
  May = λ p post. F.May p.0 ((G p.0).tokens p.1 ++ post) × (G p.0).May p.1 post;
}
