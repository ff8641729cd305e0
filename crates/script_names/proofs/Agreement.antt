-- The judged tokens of a tree, beside its spelling and the binders of its sites.
use Rattle.std.proofs.Common.{◌≡◌, ℕ, suc, Bool, true, false, ◌||◌, ◌&&◌, List, [], ◌∷◌, ◌++◌, length, refl, sym, ap, ◌∙◌, arith, length-append}
use Rattle.std.specs.List.{list_all, list_any}
use Rattle.std.proofs.lemmas.Bool.{and_from, or_parts}
use Rattle.std.proofs.lemmas.List.Folds.{list_all-append, list_any-append}
use Rattle.script_tokens.specs.declared.token.Token.{Token}
use Rattle.script_grammar.specs.Spelling.{Tokens}
use Rattle.standard_binders.specs.declared.binder.Binder.{Binder}
use Rattle.script_sites.specs.Calls.{has_distinct_names}
use Rattle.script_sites.specs.Sites.{Binders}
use Rattle.script_names.specs.Names.{Flags}

-- no token breaks a rule
abbrev pub AllKeep : Flags → Type 0
AllKeep fs = list_any (λ bad. bad) fs ≡ false

-- They are as many as the tokens of the spelling. Where none breaks a rule, no call repeats an argument's name.
pub record Agrees (fs : Flags) (ts : Tokens) (bs : Binders) : Type 0 where
  pub counted : length fs ≡ length ts
  pub distinct : AllKeep fs → list_all has_distinct_names bs ≡ true

pub nothing : Agrees [] [] []
nothing = record { counted = refl; distinct = λ keep. refl }

pub token : (x : Bool) (t : Token) {fs : Flags} {ts : Tokens} {bs : Binders} → Agrees fs ts bs → Agrees (x ∷ fs) (t ∷ ts) bs
token x t {fs} {ts} {bs} a = record { counted = ap suc a.counted; distinct = λ keep. a.distinct (or_parts x (list_any (λ bad. bad) fs) keep).1 }

pub untoken : (t : Token) {fs : Flags} {ts : Tokens} {bs : Binders} → Agrees (false ∷ fs) (t ∷ ts) bs → Agrees fs ts bs
untoken t {fs} {ts} {bs} a = record { counted = same (length fs) (length ts) a.counted; distinct = a.distinct }
  where
    same : (m n : ℕ) → suc m ≡ suc n → m ≡ n
    same m n e = omega arith

pub site : (b : Binder) {fs : Flags} {ts : Tokens} {bs : Binders} → (AllKeep fs → has_distinct_names b ≡ true) → Agrees fs ts bs → Agrees fs ts (b ∷ bs)
site b {fs} {ts} {bs} h a = record { counted = a.counted; distinct = λ keep. and_from (has_distinct_names b) (list_all has_distinct_names bs) (h keep) (a.distinct keep) }

-- a part of a row keeps the rules where the row does
pub left_keep : (fs gs : Flags) → AllKeep (fs ++ gs) → AllKeep fs
left_keep fs gs keep = (or_parts (list_any (λ bad. bad) fs) (list_any (λ bad. bad) gs) (sym (list_any-append (λ bad. bad) fs gs) ∙ keep)).0

pub right_keep : (fs gs : Flags) → AllKeep (fs ++ gs) → AllKeep gs
right_keep fs gs keep = (or_parts (list_any (λ bad. bad) fs) (list_any (λ bad. bad) gs) (sym (list_any-append (λ bad. bad) fs gs) ∙ keep)).1

pub both : {fs gs : Flags} {ts us : Tokens} {bs cs : Binders} → Agrees fs ts bs → Agrees gs us cs → Agrees (fs ++ gs) (ts ++ us) (bs ++ cs)
both {fs} {gs} {ts} {us} {bs} {cs} a b = record {
  counted = omega (arith, a.counted, b.counted, length-append fs gs, length-append ts us);
  distinct = λ keep. list_all-append has_distinct_names bs cs
      ∙ and_from (list_all has_distinct_names bs) (list_all has_distinct_names cs) (a.distinct (left_keep fs gs keep)) (b.distinct (right_keep fs gs keep));
}

pub last : (x : Bool) (t : Token) {fs : Flags} {ts : Tokens} {bs : Binders} → Agrees fs ts bs → Agrees (fs ++ x ∷ []) (ts ++ t ∷ []) bs
last x t {fs} {ts} {bs} a = record {
  counted = omega (arith, a.counted, length-append fs (x ∷ []), length-append ts (t ∷ []));
  distinct = λ keep. a.distinct (left_keep fs (x ∷ []) keep);
}

pub moved : {fs gs : Flags} {ts us : Tokens} {bs cs : Binders} → fs ≡ gs → ts ≡ us → bs ≡ cs → Agrees gs us cs → Agrees fs ts bs
moved p q r a = record {
  counted = ap length p ∙ a.counted ∙ sym (ap length q);
  distinct = λ keep. ap (list_all has_distinct_names) r ∙ a.distinct (ap (list_any (λ bad. bad)) (sym p) ∙ keep);
}
