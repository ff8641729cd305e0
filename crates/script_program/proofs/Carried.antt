-- The names that the binders of a tree carry are short where the names among its tokens are.
use Rattle.std.proofs.Common.{◌≡◌, ℕ, Bool, true, List, [], ◌∷◌, ◌++◌, Option, None, Some, refl, sym, ap, ◌∙◌}
use Rattle.std.specs.List.{cons_option, list_all}
use Rattle.std.proofs.lemmas.Bool.{and_from, and_parts}
use Rattle.std.proofs.lemmas.List.Folds.{list_all-append}
use Rattle.standard_binders.specs.declared.binder.Binder.{Binder}
use Rattle.script_grammar.specs.Spelling.{Tokens}
use Rattle.script_sites.specs.Sites.{Binders}
use Rattle.script_tokens.specs.declared.token.Token.{Token}
use Rattle.script_tokens.specs.declared.token.Token.TheVariants.{Name}
use Rattle.script_program.specs.Names.{has_short_names, is_short_name}

-- whether a token that is a name is short
abbrev pub is_short : Token → Bool
is_short (Name n) = is_short_name n
is_short _ = true

abbrev pub AreShort : Tokens → Type 0
AreShort ts = list_all is_short ts ≡ true

abbrev pub AreShortNames : List (List ℕ) → Type 0
AreShortNames ns = list_all is_short_name ns ≡ true

-- where the tokens are short, so are the names of the binders
pub record Carries (ts : Tokens) (bs : Binders) : Type 0 where
  pub short : AreShort ts → list_all has_short_names bs ≡ true

pub no_binders : (ts : Tokens) → Carries ts []
no_binders ts = record { short = λ all. refl }

pub token : (t : Token) {ts : Tokens} {bs : Binders} → Carries ts bs → Carries (t ∷ ts) bs
token t {ts} {bs} a = record { short = λ all. a.short (and_parts (is_short t) (list_all is_short ts) all).1 }

pub untoken : (t : Token) {ts : Tokens} {bs : Binders} → is_short t ≡ true → Carries (t ∷ ts) bs → Carries ts bs
untoken t {ts} {bs} is a = record { short = λ all. a.short (and_from (is_short t) (list_all is_short ts) is all) }

pub site : (b : Binder) {ts : Tokens} {bs : Binders} → (AreShort ts → has_short_names b ≡ true) → Carries ts bs → Carries ts (b ∷ bs)
site b {ts} {bs} h a = record { short = λ all. and_from (has_short_names b) (list_all has_short_names bs) (h all) (a.short all) }

-- the parts of a row are short where it is
pub left_short : (ts us : Tokens) → AreShort (ts ++ us) → AreShort ts
left_short ts us all = (and_parts (list_all is_short ts) (list_all is_short us) (sym (list_all-append is_short ts us) ∙ all)).0

pub right_short : (ts us : Tokens) → AreShort (ts ++ us) → AreShort us
right_short ts us all = (and_parts (list_all is_short ts) (list_all is_short us) (sym (list_all-append is_short ts us) ∙ all)).1

-- the name at the front of tokens is short, and so are those after it
pub name_first : (n : List ℕ) (ts : Tokens) → AreShort (Name n ∷ ts) → is_short_name n ≡ true
name_first n ts all = (and_parts (is_short_name n) (list_all is_short ts) all).0

pub name_rest : (n : List ℕ) (ts : Tokens) → AreShort (Name n ∷ ts) → AreShort ts
name_rest n ts all = (and_parts (is_short_name n) (list_all is_short ts) all).1

pub both : {ts us : Tokens} {bs cs : Binders} → Carries ts bs → Carries us cs → Carries (ts ++ us) (bs ++ cs)
both {ts} {us} {bs} {cs} a b = record {
  short = λ all. list_all-append has_short_names bs cs
      ∙ and_from (list_all has_short_names bs) (list_all has_short_names cs) (a.short (left_short ts us all)) (b.short (right_short ts us all));
}

pub last : (t : Token) {ts : Tokens} {bs : Binders} → Carries ts bs → Carries (ts ++ t ∷ []) bs
last t {ts} {bs} a = record { short = λ all. a.short (left_short ts (t ∷ []) all) }

pub moved : {ts us : Tokens} {bs cs : Binders} → ts ≡ us → bs ≡ cs → Carries us cs → Carries ts bs
moved p q a = record { short = λ all. ap (list_all has_short_names) q ∙ a.short (ap (list_all is_short) (sym p) ∙ all) }

-- one name more, if there is one
pub with_name : (name : Option (List ℕ)) (names : List (List ℕ)) → AreShortNames (cons_option name []) → AreShortNames names → AreShortNames (cons_option name names)
with_name None names one all = all
with_name (Some n) names one all = and_from (is_short_name n) (list_all is_short_name names) (and_parts (is_short_name n) true one).0 all
